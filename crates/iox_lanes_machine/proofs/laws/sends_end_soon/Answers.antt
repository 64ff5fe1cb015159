use Rattle.iox_lanes_machine.proofs.Paces as laws
use Rattle.iox_lanes_machine.proofs.laws.sends_end_soon.Goals as goal

pub returns : goal.returns
returns c = laws.sends_end_soon
