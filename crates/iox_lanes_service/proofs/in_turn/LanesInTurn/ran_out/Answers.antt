use Rattle.std.proofs.Common.{sym}
use Rattle.iox_lanes_service.proofs.in_turn.LanesInTurn.ran_out.Goals as goal

pub returns : goal.returns
returns c = rw (← c.self.view_is) (sym c.self.invariant.why)
