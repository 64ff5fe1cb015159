use Rattle.iox_lanes_laws.proofs.ReceiveLaws as laws
use Rattle.iox_lanes_laws.proofs.calls.receives_visit.Goals as goal

pub returns : goal.returns
returns c = laws.receives_visit
