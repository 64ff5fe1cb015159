use Rattle.iox_lanes_laws.proofs.Ends as laws
use Rattle.iox_lanes_laws.proofs.in_turn.end_in_turn.Goals as goal

pub returns : goal.returns
returns c = laws.calls_end_in_turn
