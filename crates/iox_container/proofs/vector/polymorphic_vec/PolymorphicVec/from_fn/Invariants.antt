use Rattle.std.proofs.Common.{◌≡◌, ◌≤◌, length, vec_len, vec_capacity}
use denote.Param.Always.{always_mut}
use denote.Param.Members.{Called}
use Rattle.iox_container.specs.Vectors.{MakesInTurn}
use Rattle.iox_container.proofs.vector.polymorphic_vec.PolymorphicVec.from_fn.Given as goal

-- what the calls so far gave
abbrev pub invariant-loop-i : goal.invariant-loop-i
invariant-loop-i g l =
    MakesInTurn (λ p i x q. Called g.F.FnMut p (i, tt) x q) l.initial.make 0 l.places.items l.make
    × (length l.places.items ≡ l.i)
    × (vec_len l.places ≡ l.i)
    × (l.capacity ≤ vec_capacity l.places)
    × always_mut g.F.FnMut l.make
