use Rattle.std.proofs.Common.{◌≡◌, ◌-◌, ◌≤◌, ◌++◌, length, replicate}
use Rattle.iox_container.proofs.vector.vector_trait.Vector.resize.Given as goal

-- the items that stayed, and then the value as often as it was pushed
abbrev pub invariant-loop-value : goal.invariant-loop-value
invariant-loop-value g l =
    (l.kept ≡ length (g.Self.Vector.items l.initial.self))
    × (g.Self.Vector.items l.self ≡ g.Self.Vector.items l.initial.self
    ++ replicate (length (g.Self.Vector.items l.self) - length (g.Self.Vector.items l.initial.self)) l.value)
    × (length (g.Self.Vector.items l.initial.self) ≤ length (g.Self.Vector.items l.self))
    × (length (g.Self.Vector.items l.self) ≤ l.new_len)
    × (g.Self.Vector.room l.self ≡ g.Self.Vector.room l.initial.self)

abbrev pub decreases-loop-value : goal.decreases-loop-value
decreases-loop-value g l = l.new_len - length (g.Self.Vector.items l.self)
