use Rattle.std.proofs.Common.{◌≡◌, ◌≤◌, length}
use Rattle.std.specs.List.{range_with_len}
use Rattle.std.specs.Vec.{vec_capacity}
use Rattle.iox_index_steps.proofs.state.links.Given as goal

-- n links are in, each to the next index
abbrev pub invariant-loop-index : goal.invariant-loop-index
invariant-loop-index l = (l.links.items ≡ range_with_len 1 l.index) × (length l.links.items ≡ l.index)
    × (l.fn.capacity ≤ vec_capacity l.links)
