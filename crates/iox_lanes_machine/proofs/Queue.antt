-- The samples given back at a connection are a queue: a step puts one after the others, or takes the first.
use Rattle.std.proofs.Common.{ℕ, ◌≡◌, ◌-◌, ◌==◌, Bool, true, false, nat_lt, if◌then◌else◌, List, [], ◌∷◌, ◌++◌, length, None, refl, ap}
use Rattle.iox_lanes_parties.specs.QueuesSteps.Order.{Acts, after_acts}
use Rattle.iox_lanes_parties.specs.QueuesSteps.declared.order.Act.TheVariants.{Put, Take}
use Rattle.iox_lanes_parties.specs.QueuesSteps.declared.order.PushAnswer.TheVariants.{Kept, Refused}
use Rattle.iox_lanes_parties.specs.QueuesSteps.declared.order.PopAnswer.TheVariants.{Got}
use Rattle.iox_lanes_parties.specs.QueuesSteps.Refusing as refusing
use Rattle.iox_lanes_parties.specs.QueuesSteps.declared.rings.refusing.push.Push.{Push}
use Rattle.iox_lanes_parties.specs.QueuesSteps.declared.rings.refusing.push.Push.TheVariants as push
use Rattle.iox_lanes_parties.specs.QueuesSteps.declared.rings.refusing.pop.Pop.{Pop}
use Rattle.iox_lanes_parties.specs.QueuesSteps.declared.rings.refusing.pop.Pop.TheVariants as pop
use Rattle.iox_lanes_machine.proofs.Rings.{taking_refusing, storing_refusing}

nothing_more : (q : List ℕ) → q ≡ q ++ []
nothing_more [] = refl
nothing_more (x ∷ q) = ap (λ (xs : List ℕ). x ∷ xs) (nothing_more q)

-- a pop takes the first
pub takes_first : (cells write : ℕ) (q : List ℕ) (c : Pop) → Acts false cells q (refusing.placed_by_pop write c)
    → q ≡ taking_refusing c ++ after_acts false cells q (refusing.placed_by_pop write c)
takes_first cells write q pop.Idle h = refl
takes_first cells write q pop.Begun h = refl
takes_first cells write q (pop.SawRead seen) h = by_test (write == seen) q h
  where
    by_test : (b : Bool) (q : List ℕ) → Acts false cells q (if b then Take (Got None) ∷ [] else [])
        → q ≡ after_acts false cells q (if b then Take (Got None) ∷ [] else [])
    by_test true [] h = refl
    by_test true (x ∷ q) h = absurd (cc h.0)
    by_test false q h = refl
takes_first cells write q (pop.Nonempty seen next) h = refl
takes_first cells write [] (pop.SawCell next value) h = absurd (cc h.0)
takes_first cells write (x ∷ q) (pop.SawCell next value) h = let same : x ≡ value = cc h.0 in ap (λ (y : ℕ). y ∷ q) same
takes_first cells write q (pop.Popped got) h = refl
takes_first cells write q pop.LookBegun h = refl
takes_first cells write q (pop.LookRead seen) h = refl
takes_first cells write q (pop.Looked some) h = refl

-- a push puts after the others
pub puts_last : (cells read : ℕ) (q : List ℕ) (p : Push) → Acts false cells q (refusing.placed_by_push read p)
    → after_acts false cells q (refusing.placed_by_push read p) ≡ q ++ storing_refusing p
puts_last cells read q push.Idle h = nothing_more q
puts_last cells read q (push.Begun limit value) h = nothing_more q
puts_last cells read q (push.SawWrite limit value write next) h = by_test (nat_lt (write - read) limit) h
  where
    full : (b : Bool) → Refused ≡ (if b then Kept else Refused) → (if b then q ++ value ∷ [] else q) ≡ q ++ []
    full true e = absurd (cc e)
    full false e = nothing_more q

    by_test : (b : Bool) → Acts false cells q (if b then [] else Put value Refused ∷ [])
        → after_acts false cells q (if b then [] else Put value Refused ∷ []) ≡ q ++ []
    by_test true h = nothing_more q
    by_test false h = full (nat_lt (length q) cells) h.0
puts_last cells read q (push.SawRoom value write next) h = nothing_more q
puts_last cells read q (push.Filled value next) h = room (nat_lt (length q) cells) h.0
  where
    room : (b : Bool) → Kept ≡ (if b then Kept else Refused) → (if b then q ++ value ∷ [] else q) ≡ q ++ value ∷ []
    room true e = refl
    room false e = absurd (cc e)
puts_last cells read q (push.Pushed value answered) h = nothing_more q
