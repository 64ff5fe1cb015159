use Rattle.std.proofs.Common.{◌≡◌, ◌-◌, ◌≤◌, length, reverse}
use Rattle.std.specs.List.{range_with_len}
use Rattle.std.specs.Vec.{vec_capacity}
use Rattle.iox_container.proofs.unique.UniqueIndexSet.new.Given as goal

-- n indices are in, counted down from the highest
abbrev pub invariant-loop-count : goal.invariant-loop-count
invariant-loop-count l =
    (reverse l.free.items ≡ range_with_len (l.fn.capacity - l.count) l.count)
    × (length l.free.items ≡ l.count)
    × (l.fn.capacity ≤ vec_capacity l.free)
