use Rattle.std.proofs.Common.{◌≡◌, ◌++◌, take}
use Rattle.iox_container.proofs.vector.vector_trait.Vector.extend_from_slice.Given as goal

-- the items of before, and then those of the slice so far
abbrev pub invariant-loop-item : goal.invariant-loop-item
invariant-loop-item g l =
    (g.Self.Vector.items l.self ≡ g.Self.Vector.items l.initial.self ++ take l.item-index l.other)
    × (g.Self.Vector.room l.self ≡ g.Self.Vector.room l.initial.self)
