use Rattle.std.proofs.Common.{◌≡◌, vec_capacity}
use Rattle.iox_lanes_opening.specs.Middles.{middle_of}
use Rattle.iox_lanes_opening.proofs.Filling.{Filling}
use Rattle.iox_lanes_opening.proofs.leaving.restored.restore_connections.Given as goal

abbrev pub invariant-loop-index : goal.invariant-loop-index
invariant-loop-index g l = Filling g.T.Words.of_parts (middle_of l.source.numbered g.U.Words.of_parts) l.source.lanes.now l.source.from
    l.source.indices.now l.source.first l.fn.sender l.sender l.index × (vec_capacity l.one ≡ vec_capacity l.fn.one)
