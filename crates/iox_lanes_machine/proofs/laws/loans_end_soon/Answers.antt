use Rattle.iox_lanes_machine.proofs.Paces as laws
use Rattle.iox_lanes_machine.proofs.laws.loans_end_soon.Goals as goal

pub returns : goal.returns
returns c = laws.loans_end_soon
