-- After a call that no other call overlaps the next one may begin.
use Rattle.std.proofs.Common.{ℕ, zero, suc, ◌≡◌, ◌<◌, ◌≤◌, ◌^◌, List, get_or, slice_get, Option, Some, None, is_some, Bool, false, refl}
use Rattle.std.proofs.Common.{sym, subst, arith}
use Rattle.std.specs.List.{All}
use Rattle.std.proofs.lemmas.Option.{slice_get-get_or}
use Rattle.iox_lanes_machine.specs.QueuesSteps.Access.{successor}
use Rattle.iox_lanes_machine.specs.LanesParties.declared.call.Move.TheVariants.{GoOn}
use Rattle.iox_lanes_machine.specs.LanesParties.declared.call.Party.{Party}
use Rattle.iox_lanes_machine.specs.WholeReads.{CameTo}
use Rattle.iox_lanes_machine.specs.World.{World}
use Rattle.iox_lanes_machine.proofs.Runs.{came_on}
use Rattle.iox_lanes_laws.specs.Turns.{GoesToEnd}

pub all_came : (party : Party) (more : ℕ) (k n : World) → GoesToEnd party more k n → CameTo k → CameTo n
all_came party zero k n h c = subst CameTo (sym h.2) (came_on k party GoOn c h.0)
all_came party (suc more) k n h c = all_came party more h.0 n h.2 (subst CameTo (sym (h.1).2) (came_on k party GoOn c (h.1).0))

-- what is so at each place is so of all
pub all_from : {X : Type 0} (P : X → Type 0) (xs : List X) → ((at : ℕ) (x : X) → slice_get xs at ≡ Some x → P x) → All P xs
all_from P xs f = λ k d below. f k (get_or xs k d) (slice_get-get_or xs k d below)

-- an answer that is there, and one that isn't
pub none_there : {X : Type 0} (o : Option X) (b : Bool) → is_some o ≡ b → b ≡ false → o ≡ None
none_there None b e h = refl
none_there (Some x) b e h = absurd (cc (e, h))

-- before a step that leaves at most 2^63 there were fewer
pub fewer : (before after : ℕ) → after ≡ successor before → after ≤ 2 ^ 63 → before < 2 ^ 63
fewer before after e h = omega (arith, e, h)
