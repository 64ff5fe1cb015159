use Rattle.iox_lanes_laws.proofs.CourseLaws as laws
use Rattle.iox_lanes_laws.proofs.calls.loans_take_back.Goals as goal

pub returns : goal.returns
returns c = laws.loans_take_back
