use Rattle.std.proofs.Common.{◌≡◌, ◌-◌, ◌≤◌, ◌++◌, List, length}
use Rattle.std.specs.List.{FoldsTo}
use denote.Param.Always.{always_mut}
use denote.Param.Members.{Called}
use Rattle.iox_container.proofs.vector.vector_trait.Vector.resize_with.Given as goal

-- the items that stayed, and then what the calls so far gave
abbrev pub invariant-loop-self : goal.invariant-loop-self
invariant-loop-self g l =
    ((ys : List g.row.T.Denot) × (g.Self.Vector.items l.self ≡ g.Self.Vector.items l.initial.self ++ ys)
    × FoldsTo (λ f y h. Called g.F.FnMut f tt y h) l.initial.make ys l.make)
    × (length (g.Self.Vector.items l.self) ≤ l.new_len)
    × (g.Self.Vector.room l.self ≡ g.Self.Vector.room l.initial.self)
    × always_mut g.F.FnMut l.make

abbrev pub decreases-loop-self : goal.decreases-loop-self
decreases-loop-self g l = l.new_len - length (g.Self.Vector.items l.self)
