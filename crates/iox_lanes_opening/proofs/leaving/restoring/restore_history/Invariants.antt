use Rattle.std.proofs.Common.{◌≡◌, vec_capacity}
use Rattle.iox_lanes_opening.specs.Middles.{middle_of}
use Rattle.iox_lanes_opening.proofs.Remembering.{Remembering}
use Rattle.iox_lanes_opening.proofs.leaving.restoring.restore_history.Given as goal

abbrev pub invariant-loop-at : goal.invariant-loop-at
invariant-loop-at g l = Remembering g.T.Words.of_parts (middle_of l.fn.numbered g.U.Words.of_parts) l.fn.table l.history.items l.fn.first
    l.fn.sender l.sender l.at
    × (vec_capacity l.one ≡ vec_capacity l.fn.one)
