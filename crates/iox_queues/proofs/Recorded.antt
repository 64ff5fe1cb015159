-- One more step extends what the steps say, for calls of any kind.
use Rattle.std.proofs.Common.{◌≡◌, ℕ, List, [], ◌∷◌, ◌++◌, refl, ap, subst}
use Rattle.iox_queues_steps.specs.Access.{RingWords, answer_of, after_access}
use Rattle.iox_queues_steps.specs.declared.access.Access.{Access}
use Rattle.iox_queues.specs.Recorded.{Answered, Goes, IsAskedFrom}
use Rattle.iox_queues.specs.declared.bits.machine.Event.{Event}

pub answered_on : (words now : RingWords) (events : List Event) (e : Event) → e.answer ≡ answer_of now e.access
    → Answered words events now → Answered words (events ++ e ∷ []) (after_access now e.access)
answered_on words now [] e is h = subst
    (λ (w : RingWords). (e.answer ≡ answer_of w e.access) × (after_access now e.access ≡ after_access w e.access)) h (is, refl)
answered_on words now (x ∷ events) e is h = (h.0, answered_on (after_access words x.access) now events e is h.1)

-- a call that asks so, and takes answers so
module _ (S : Type 0) (next : S → Access) (take : S → ℕ → S) where
  goes_on_from : (begun : S) (between : List Event) (stage : S) (e : Event) → e.access ≡ next stage
      → Goes next take begun between stage → Goes next take begun (between ++ e ∷ []) (take stage e.answer)
  goes_on_from begun [] stage e is h = subst (λ (s : S). (e.access ≡ next s) × (take stage e.answer ≡ take s e.answer)) h (is, refl)
  goes_on_from begun (x ∷ between) stage e is h = (h.0, goes_on_from (take begun x.answer) between stage e is h.1)

  pub asked_on : (party : ℕ) (events : List Event) (e : Event) (begun stage : S) → e.access ≡ next stage
      → IsAskedFrom S next take party begun stage events
      → IsAskedFrom S next take party begun (take stage e.answer) (events ++ e ∷ [])
  asked_on party events e begun stage is a = record {
    between = a.between ++ e ∷ [];
    whole = ap (λ (es : List Event). es ++ e ∷ []) a.whole;
    goes = goes_on_from begun a.between stage e is a.goes;
  }
