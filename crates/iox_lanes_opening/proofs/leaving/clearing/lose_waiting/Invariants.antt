use Rattle.iox_lanes_opening.proofs.Losing.{Losing}
use Rattle.iox_lanes_opening.proofs.leaving.clearing.lose_waiting.Given as goal

abbrev pub invariant-loop-index : goal.invariant-loop-index
invariant-loop-index g l = Losing l.fn.sender l.sender l.index
