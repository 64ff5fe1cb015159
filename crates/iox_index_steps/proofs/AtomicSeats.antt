-- The stage of each party on a single value, and the finished calls, after a party made a step.
use Rattle.std.proofs.Common.{◌≡◌, ℕ, ◌<◌, ◌≤◌, ⊎_elim, inl, inr, Option, Some, None, List, [], ◌∷◌, ◌++◌, length, set, slice_get}
use Rattle.std.proofs.Common.{slice_index_or, refl, sym, ◌∙◌, subst, arith, length-append}
use Rattle.std.specs.Global.{Vec}
use Rattle.std.specs.Option.{unwrap_or}
use Rattle.std.proofs.Math.Seq.{get_or-set_same, get_or-set_other, take-append_seam}
use Rattle.std.proofs.lemmas.Bool.{cases_eq}
use Rattle.std.proofs.lemmas.List.{take-append-le}
use Rattle.std.proofs.lemmas.Option.{unwrap_or-slice_get}
use Rattle.iox_queues.specs.declared.bits.machine.Event.{Event}
use Rattle.iox_index_steps.specs.AtomicTold.{AreTold, LieWithin, Tells}
use Rattle.iox_index_steps.specs.AtomicMachine.{SomeStores, call_ended, idle_seat, seat_at, seat_of}
use Rattle.iox_index_steps.specs.AtomicKept.{Knows}
use Rattle.iox_index_steps.specs.declared.atomic.call.AtomicCall.{AtomicCall}
use Rattle.iox_index_steps.specs.declared.atomic.call.AtomicCall.TheVariants as stage
use Rattle.iox_index_steps.specs.declared.atomic.Finished.{Finished}
use Rattle.iox_index_steps.specs.declared.atomic.state.Seat.{Seat}

pub seat_is : (seats : List Seat) (i : ℕ) → seat_at seats i ≡ slice_index_or seats i idle_seat
seat_is seats i = of (slice_get seats i) ∙ unwrap_or-slice_get seats i idle_seat
  where
    of : (o : Option Seat) → seat_of o ≡ unwrap_or o idle_seat
    of None = refl
    of (Some seat) = refl

pub seat_here : (seats : List Seat) (i : ℕ) (seat : Seat) → i < length seats → seat_at (set seats i seat) i ≡ seat
seat_here seats i seat within = seat_is (set seats i seat) i ∙ get_or-set_same seats i seat idle_seat within

pub seat_else : (seats : List Seat) (i j : ℕ) (seat : Seat) → (j ≡ i → ⊥) → seat_at (set seats i seat) j ≡ seat_at seats j
seat_else seats i j seat differs = seat_is (set seats i seat) j ∙ get_or-set_other seats i j seat idle_seat differs ∙ sym (seat_is seats j)

-- what holds of each party's seat holds after one was set
pub each_seat : (P P' : ℕ → Seat → Type 0) (seats : List Seat) (party : ℕ) (seat : Seat) → party < length seats
    → ((q : ℕ) → P q (seat_at seats q)) → ((q : ℕ) → (party ≡ q → ⊥) → P q (seat_at seats q) → P' q (seat_at seats q)) → P' party seat
    → (q : ℕ) → P' q (seat_at (set seats party seat) q)
each_seat P P' seats party seat within before keeps here q =
    ⊎_elim
    (λ (same : party ≡ q). subst (λ (q : ℕ). P' q (seat_at (set seats party seat) q)) same
    (subst (P' party) (sym (seat_here seats party seat within)) here))
    (λ (differs : party ≡ q → ⊥). subst (P' q) (sym (seat_else seats party q seat (λ same. differs (sym same))))
    (keeps q differs (before q)))
    (cases_eq party q)

-- calls that ended stay among the steps, and told
pub among_on : (events : List Event) (e : Event) (finished : List Finished) → LieWithin events finished
    → LieWithin (events ++ e ∷ []) finished
among_on events e [] h = tt
among_on events e (f ∷ finished) h =
    ((record { begun = h.0.begun; ended = omega (arith, h.0.ended, length-append events (e ∷ [])) }), among_on events e finished h.1)

pub among_append : (events : List Event) (xs ys : List Finished) → LieWithin events xs → LieWithin events ys → LieWithin events (xs ++ ys)
among_append events [] ys h g = g
among_append events (x ∷ xs) ys h g = (h.0, among_append events xs ys h.1 g)

pub told_on : (values : List (Vec ℕ)) (events : List Event) (e : Event) (finished : List Finished) → LieWithin events finished
    → AreTold values events finished → AreTold values (events ++ e ∷ []) finished
told_on values events e [] among h = tt
told_on values events e (f ∷ finished) among h = (
  subst (λ (es : List Event). Tells values f.party f.first es f.call)
      (sym (take-append-le f.last events (e ∷ []) (omega (arith, among.0.ended)))) h.0,
  told_on values events e finished among.1 h.1,
)

pub told_append : (values : List (Vec ℕ)) (events : List Event) (xs ys : List Finished) → AreTold values events xs
    → AreTold values events ys → AreTold values events (xs ++ ys)
told_append values events [] ys h g = g
told_append values events (x ∷ xs) ys h g = (h.0, told_append values events xs ys h.1 g)

pub ended_among : (events : List Event) (e : Event) (party first : ℕ) (s : AtomicCall) → first ≤ length events
    → LieWithin (events ++ e ∷ []) (call_ended party first (length events) s)
ended_among events e party first stage.Idle h = tt
ended_among events e party first (stage.Store number) h = tt
ended_among events e party first (stage.Fill number counter next) h = tt
ended_among events e party first stage.Load h = tt
ended_among events e party first (stage.Gather counter next) h = tt
ended_among events e party first (stage.Done c) h = ((record { begun = h; ended = omega (arith, length-append events (e ∷ [])) }), tt)

pub ended_told : (values : List (Vec ℕ)) (write : ℕ) (producer : Option ℕ) (events : List Event) (e : Event) (party first : ℕ)
    (s : AtomicCall) → Knows values write producer events party first s
    → AreTold values (events ++ e ∷ []) (call_ended party first (length events) s)
ended_told values write producer events e party first stage.Idle k = tt
ended_told values write producer events e party first (stage.Store number) k = tt
ended_told values write producer events e party first (stage.Fill number counter next) k = tt
ended_told values write producer events e party first stage.Load k = tt
ended_told values write producer events e party first (stage.Gather counter next) k = tt
ended_told values write producer events e party first (stage.Done c) k = (
  subst (λ (es : List Event). Tells values party first es c) (sym (take-append_seam events (e ∷ []))) k.1,
  tt,
)

-- a store that ended stays among those that did
pub stored_on : (values : List (Vec ℕ)) (words : List ℕ) (xs ys : List Finished) → SomeStores values words xs
    → SomeStores values words (xs ++ ys)
stored_on values words [] ys h = absurd h
stored_on values words (x ∷ xs) ys (inl h) = inl h
stored_on values words (x ∷ xs) ys (inr h) = inr (stored_on values words xs ys h)

pub stored_last : (values : List (Vec ℕ)) (words : List ℕ) (xs ys : List Finished) → SomeStores values words ys
    → SomeStores values words (xs ++ ys)
stored_last values words [] ys h = h
stored_last values words (x ∷ xs) ys h = inr (stored_last values words xs ys h)
