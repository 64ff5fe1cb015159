use Rattle.std.proofs.Common.{◌≡◌, length, take}
use Rattle.iox_container.proofs.vector.vector_trait.Vector.truncate.Given as goal

-- the items that are to stay are still there
abbrev pub invariant-loop-self : goal.invariant-loop-self
invariant-loop-self g l =
    (take l.len (g.Self.Vector.items l.self) ≡ take l.len (g.Self.Vector.items l.initial.self))
    × (g.Self.Vector.room l.self ≡ g.Self.Vector.room l.initial.self)

abbrev pub decreases-loop-self : goal.decreases-loop-self
decreases-loop-self g l = length (g.Self.Vector.items l.self)
