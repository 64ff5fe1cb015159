-- What a step of the set of indices under a container changes of who holds which index.
use Rattle.std.proofs.Common.{◌≡◌, ℕ, ◌+◌, ◌<◌, ◌≤◌, ◌⊎◌, inl, inr, ⊎_elim, Bool, true, false, if◌then◌else◌, ◌==◌, ◌&&◌, nat_lt, Ok, Err}
use Rattle.std.proofs.Common.{Result, mod-eq_of_lt, not}
use Rattle.std.proofs.Common.{Some, None, List, [], ◌∷◌, length, set, slice_index, drop, refl, sym, ◌∙◌, ap, subst, arith}
use Rattle.std.proofs.Common.{length-set}
use Rattle.std.specs.Global.{Vec}
use Rattle.std.proofs.Math.Seq.{get_or-set_same, get_or-set_other}
use Rattle.std.proofs.lemmas.Bool.{and_parts, cases_eq, cases_lt, ne_eqb}
use Rattle.std.proofs.lemmas.List.{get_or_past}
use Rattle.iox_container.specs.declared.error.UniqueIndexSetAcquireFailure.{UniqueIndexSetAcquireFailure}
use Rattle.iox_container.specs.declared.error.UniqueIndexSetAcquireFailure.TheVariants.{OutOfIndices, IsLocked}
use Rattle.iox_container.specs.declared.release.ReleaseMode.{ReleaseMode}
use Rattle.iox_container.specs.declared.release.ReleaseMode.TheVariants.{LockIfLastIndex, Default}
use Rattle.iox_container.specs.declared.release.ReleaseState.{ReleaseState}
use Rattle.iox_container.specs.declared.release.ReleaseState.TheVariants.{Locked, Unlocked}
use Rattle.iox_queues_steps.specs.Access.{RingWords, answer_of, after_access, successor}
use Rattle.iox_queues.specs.Told.{own}
use Rattle.iox_queues.specs.declared.bits.machine.Event.{Event}
use Rattle.iox_robust_steps.specs.Changes.{gave_by, is_owner, times_taken}
use Rattle.iox_robust_steps.specs.ContainerKept.{HoldsFor, IsLostOwner, IsOf, IsUnheld}
use Rattle.iox_robust_steps.specs.ContainerSteps.{answer_at}
use Rattle.iox_robust_steps.specs.Steps.{call_in_hand, call_next, call_take, claims_from, is_marked_by, lock_mark, reserved, scans_from}
use Rattle.iox_robust_steps.specs.Steps.{call_is_idle, call_is_over}
use Rattle.iox_robust_steps.specs.Told.{Tells}
use Rattle.iox_robust_steps.specs.Kept.{IsConsistent, IsKept, IsOwner, Knows}
use Rattle.iox_robust_steps.specs.Machine.{CellFits, HasFewSteps, RobustSetState, fits, is_halted, is_lost, one_if_held}
use Rattle.iox_robust_steps.specs.Machine.{place_of, places_after}
use Rattle.iox_robust_steps.specs.Machine.{seat_at}
use Rattle.iox_robust_steps.specs.Machine.{stage_at}
use Rattle.iox_robust_steps.specs.Machine.{went}
use Rattle.iox_robust_steps.specs.declared.call.Answer.{Answer}
use Rattle.iox_robust_steps.specs.declared.call.Answer.TheVariants.{Acquired, Settled}
use Rattle.iox_robust_steps.specs.declared.call.Call.{Call}
use Rattle.iox_robust_steps.specs.declared.call.Call.TheVariants as call
use Rattle.iox_robust_steps.specs.declared.call.RobustCall.{RobustCall}
use Rattle.iox_robust_steps.specs.declared.call.RobustCall.TheVariants as stage
use Rattle.iox_robust_steps.specs.declared.machine.Move.TheVariants.{GoOn}
use Rattle.iox_robust_steps.specs.declared.state.Place.{Place}
use Rattle.iox_robust_steps.specs.declared.state.Place.TheVariants as place
use Rattle.iox_robust_steps.proofs.ContainerLost.{still_of_lost}
use Rattle.iox_robust_steps.proofs.Counts.{more_given, more_taken}
use Rattle.iox_robust_steps.proofs.Freeing.{IsNotOf, nothing_new}
use Rattle.iox_robust_steps.proofs.Going.{MadeStep}
use Rattle.iox_robust_steps.proofs.Runs.{fewer, went_made}

-- no step makes another party the holder of an index
module _ (q : ℕ) where
  abbrev pub IsNotHis : Place → Type 0
  IsNotHis x = x ≡ place.Held q → ⊥

  pub not_mine : (places : List Place) (k : ℕ) (x : Place) (i : ℕ) → IsNotHis x → place_of (set places k x) i ≡ place.Held q
      → place_of places i ≡ place.Held q
  not_mine places k x i other is = ⊎_elim
      (λ (same : i ≡ k). ⊎_elim
      (λ (within : k < length places). absurd (other (sym (get_or-set_same places k x place.Empty within)
      ∙ ap (place_of (set places k x)) (sym same) ∙ is)))
      (λ (past : length places ≤ k).
      let empty : place_of (set places k x) i ≡ place.Empty
      = get_or_past (set places k x) i place.Empty (omega (arith, past, same, length-set places k x)) in
      absurd (let wrong : place.Empty ≡ place.Held q = sym empty ∙ is in cc))
      (cases_lt k (length places)))
      (λ (differs : i ≡ k → ⊥). sym (get_or-set_other places k i x place.Empty differs) ∙ is)
      (cases_eq i k)

  pub if_not_mine : (b : Bool) (places : List Place) (k : ℕ) (x : Place) (i : ℕ) → IsNotHis x
      → place_of (if b then set places k x else places) i ≡ place.Held q → place_of places i ≡ place.Held q
  if_not_mine true places k x i other is = not_mine places k x i other is
  if_not_mine false places k x i other is = is

  pub still_his : (places : List Place) (p : ℕ) (s : RobustCall) (answer i : ℕ) → (p ≡ q → ⊥)
      → place_of (places_after places p s answer) i ≡ place.Held q → place_of places i ≡ place.Held q
  still_his places p stage.Idle answer i differs is = is
  still_his places p (stage.Acquire owner) answer i differs is = is
  still_his places p (stage.Claim owner k count) answer i differs is
      = if_not_mine (answer == 0) places k (place.Claimed p) i (λ h. absurd (cc)) is
  still_his places p (stage.Count owner k count) answer i differs is
      = if_not_mine (answer == count) places k (place.Counted p) i (λ h. absurd (cc)) is
  still_his places p (stage.Confirm owner k) answer i differs is
      = not_mine places k (place.Held p) i (λ (h : place.Held p ≡ place.Held q). differs (let same : p ≡ q = cc in same)) is
  still_his places p (stage.Undo owner k) answer i differs is = not_mine places k place.Empty i (λ h. absurd (cc)) is
  still_his places p (stage.Free owner k mode) answer i differs is
      = if_not_mine (answer == owner) places k place.Empty i (λ h. absurd (cc)) is
  still_his places p (stage.Look owner number mode k) answer i differs is = is
  still_his places p (stage.Clear owner number mode k seen) answer i differs is
      = if_not_mine (answer == seen) places k place.Empty i (λ h. absurd (cc)) is
  still_his places p (stage.Settle c) answer i differs is = is
  still_his places p (stage.Scan c k count) answer i differs is = is
  still_his places p (stage.Lock c count) answer i differs is = is
  still_his places p (stage.Done c answered) answer i differs is = is

-- an acquire gives no index back, a release none but its own
pub acquire_gives_none : (i answer owner : ℕ) (s : RobustCall) → call_in_hand s ≡ Some (call.Acquire owner)
    → gave_by i (call_next s) answer ≡ 0
acquire_gives_none i answer owner stage.Idle h = absurd (cc)
acquire_gives_none i answer owner (stage.Acquire o) h = refl
acquire_gives_none i answer owner (stage.Claim o k count) h = zero (k == i) (answer == 0) (reserved o == 0)
  where
    zero : (a b c : Bool) → ◌≡◌ {A = ℕ} (if a && (b && (c && is_owner 0)) then 1 else 0) 0
    zero true true true = refl
    zero true true false = refl
    zero true false c = refl
    zero false b c = refl
acquire_gives_none i answer owner (stage.Count o k count) h = refl
acquire_gives_none i answer owner (stage.Confirm o k) h = refl
acquire_gives_none i answer owner (stage.Undo o k) h = refl
acquire_gives_none i answer owner (stage.Free o k mode) h = absurd (cc)
acquire_gives_none i answer owner (stage.Look o number mode k) h = absurd (cc)
acquire_gives_none i answer owner (stage.Clear o number mode k seen) h = absurd (cc)
acquire_gives_none i answer owner (stage.Settle c) h = refl
acquire_gives_none i answer owner (stage.Scan c k count) h = refl
acquire_gives_none i answer owner (stage.Lock c count) h = refl
acquire_gives_none i answer owner (stage.Done c answered) h = refl

pub release_gives_own : (i answer owner index : ℕ) (mode : ReleaseMode) (s : RobustCall)
    → call_in_hand s ≡ Some (call.Release owner index mode) → (i ≡ index → ⊥) → gave_by i (call_next s) answer ≡ 0
release_gives_own i answer owner index mode stage.Idle h differs = absurd (cc)
release_gives_own i answer owner index mode (stage.Acquire o) h differs = absurd (cc)
release_gives_own i answer owner index mode (stage.Claim o k count) h differs = absurd (cc)
release_gives_own i answer owner index mode (stage.Count o k count) h differs = absurd (cc)
release_gives_own i answer owner index mode (stage.Confirm o k) h differs = absurd (cc)
release_gives_own i answer owner index mode (stage.Undo o k) h differs = absurd (cc)
release_gives_own i answer owner index mode (stage.Free o k m) h differs =
    let same : k ≡ index = cc in
    ap (λ (b : Bool). if b && ((answer == o) && ((0 == 0) && is_owner o)) then 1 else 0) (ne_eqb k i (λ at. differs (sym at ∙ same)))
release_gives_own i answer owner index mode (stage.Look o number m k) h differs = absurd (cc)
release_gives_own i answer owner index mode (stage.Clear o number m k seen) h differs = absurd (cc)
release_gives_own i answer owner index mode (stage.Settle c) h differs = refl
release_gives_own i answer owner index mode (stage.Scan c k count) h differs = refl
release_gives_own i answer owner index mode (stage.Lock c count) h differs = refl
release_gives_own i answer owner index mode (stage.Done c answered) h differs = refl

-- a step of the set
module _ (m : RobustSetState) (p : ℕ) (insists : Bool) (fit : fits m (GoOn p) ≡ true) (k : IsKept m)
    (few : HasFewSteps (went m p insists)) where
  abbrev s : RobustCall
  s = stage_at m.seats p

  abbrev answer : ℕ
  answer = answer_of m.words (call_next s)

  abbrev event : Event
  event = record { party = p; access = call_next s; answer = answer }

  c : IsConsistent m
  c = k.sound (fewer m p insists fit k few)

  abbrev places' : List Place
  places' = places_after m.places p s answer

  step : MadeStep m.capacity p m.words (after_access m.words (call_next s)) m.places places' m.lost m.events
      (own p (drop (seat_at m.seats p).first m.events)) event (call_take m.capacity m.decisions insists s answer)
  step = went_made m p insists fit k few c

  pub not_halted : is_halted m.lost s ≡ false
  not_halted = turn (is_halted m.lost s) (and_parts (not (call_is_idle s)) (not (is_halted m.lost s))
      (and_parts (nat_lt p (length m.seats)) _ fit).1).1
    where
      turn : (b : Bool) → not b ≡ true → b ≡ false
      turn true h = absurd (cc)
      turn false h = refl

  -- another party's indices stay its own, unless their owner is lost
  pub keeps_for : (q o i : ℕ) → (p ≡ q → ⊥) → i < m.capacity → is_lost o m.lost ≡ false → HoldsFor m q o i
      → HoldsFor (went m p insists) q o i
  keeps_for q o i differs within live holds =
      let owns : IsOwner (slice_index m.words.cells i)
      = subst (λ (x : Place). CellFits x (slice_index m.words.cells i)) holds.0 (c.whole.cells i within) in
      let kept : (place_of places' i ≡ place.Held q) × _
      = (step.leaves q differs).keeps o i (place.Held q) live (subst IsOwner holds.1 owns) refl holds.0 (inl holds.1) in
      (kept.0, kept.1 ∙ holds.1)

  -- an owner that is lost gets no index
  pub none_of_lost : (o i : ℕ) → IsLostOwner m o → IsOf o (slice_index (after_access m.words (call_next s)).cells i)
      → IsOf o (slice_index m.words.cells i)
  none_of_lost o i lost is = of is (nothing_new m.capacity p m.words m.places m.lost k.cells
      (own p (drop (seat_at m.seats p).first m.events)) s not_halted (c.knows p) o i lost.1 lost.0)
    where
      of : IsOf o (slice_index (after_access m.words (call_next s)).cells i)
          → (slice_index (after_access m.words (call_next s)).cells i ≡ slice_index m.words.cells i)
          ⊎ IsNotOf o (slice_index (after_access m.words (call_next s)).cells i)
          → IsOf o (slice_index m.words.cells i)
      of h (inl same) = subst (IsOf o) same h
      of (inl h) (inr other) = absurd (other.0 h)
      of (inr h) (inr other) = absurd (other.1 h)

  -- and loses none, unless a recovery frees it
  pub lost_keeps : (o i : ℕ) → IsLostOwner m o → slice_index m.words.cells i ≡ o
      → ((owner number : ℕ) (mode : ReleaseMode) (j seen : ℕ) → s ≡ stage.Clear owner number mode j seen
      → slice_index m.words.cells j ≡ seen → i ≡ j → ⊥)
      → slice_index (after_access m.words (call_next s)).cells i ≡ o
  lost_keeps o i lost is frees = still_of_lost m.capacity p m.words m.places m.lost k.cells
      (own p (drop (seat_at m.seats p).first m.events)) o i lost.0 lost.1 is s not_halted (c.knows p) frees

  -- an index that is held and not given back by this step is held still
  pub held_still : (i r : ℕ) → place_of m.places i ≡ place.Held r → gave_by i event.access answer ≡ 0 → IsUnheld places' i → ⊥
  held_still i r is gave unheld = of (place_of places' i) refl
    where
      counts : one_if_held (place_of places' i) ≡ 1 + times_taken i (event ∷ [])
      counts = omega (
        arith,
        step.whole.balance i,
        c.whole.balance i,
        more_taken i m.events (event ∷ []),
        more_given i m.events (event ∷ []),
        gave,
        ap one_if_held is,
      )

      of : (x : Place) → place_of places' i ≡ x → ⊥
      of place.Empty h = omega (arith, counts, ap one_if_held h)
      of (place.Claimed r) h = omega (arith, counts, ap one_if_held h)
      of (place.Counted r) h = omega (arith, counts, ap one_if_held h)
      of (place.Held r) h = unheld r h

  -- an index that nobody holds after the step was held by nobody before, or by this party, which gave it back
  pub unheld_before : (i : ℕ) → IsUnheld places' i → (gave_by i event.access answer ≡ 0) → IsUnheld m.places i
  unheld_before i unheld gave r is = held_still i r is gave unheld

-- where an acquire has an index now, the party just took it, its cell names the owner, and nobody held it before
abbrev pub JustTook : ℕ → ℕ → ℕ → List Place → List Place → List ℕ → ℕ → RobustCall → Type 0
JustTook n p owner places places' cells' i t = answer_at t ≡ Some (Acquired (Ok i))
    → (i < n) × (place_of places' i ≡ place.Held p) × (slice_index cells' i ≡ owner) × IsUnheld places i

module _ (n p : ℕ) (decisions : List (Vec Bool)) (insists : Bool) (words : RingWords) (places : List Place) (lost : List ℕ)
    (es : List Event)
    (many : length places ≡ n) (size : length words.cells ≡ n + 1) (i owner : ℕ) where
  no_index : (after : List Place) (cells : List ℕ) (b : Bool) (one other : RobustCall) → JustTook n p owner places after cells i one
      → JustTook n p owner places after cells i other → JustTook n p owner places after cells i (if b then one else other)
  no_index after cells true one other h g = h
  no_index after cells false one other h g = g

  claims_none : (after : List Place) (cells : List ℕ) (o from count : ℕ)
      → JustTook n p owner places after cells i (claims_from n o from count)
  claims_none after cells o from count = no_index after cells (nat_lt from n) (stage.Claim o from count)
      (stage.Done (call.Acquire o) (Acquired (Err OutOfIndices))) (λ h. absurd (cc)) (λ h. absurd (cc))

  abbrev answer_to : RobustCall → ℕ
  answer_to t = answer_of words (call_next t)

  abbrev cells_at : RobustCall → List ℕ
  cells_at t = (after_access words (call_next t)).cells

  pub took_now : (t : RobustCall) → call_in_hand t ≡ Some (call.Acquire owner) → is_halted lost t ≡ false → Knows n words places lost p es t
      → JustTook n p owner places (places_after places p t (answer_to t)) (after_access words (call_next t)).cells i
      (call_take n decisions insists t (answer_to t))
  took_now stage.Idle is live k h = absurd (cc)
  took_now (stage.Acquire o) is live k h = no_index places words.cells (words.read == lock_mark)
      (stage.Done (call.Acquire o) (Acquired (Err IsLocked))) (claims_from n o 0 words.read) (λ h. absurd (cc))
      (claims_none places words.cells o 0 words.read) h
  took_now (stage.Claim o j count) is live k h =
      no_index (places_after places p (stage.Claim o j count) (answer_to (stage.Claim o j count)))
      (cells_at (stage.Claim o j count))
      (answer_to (stage.Claim o j count) == 0) (stage.Count o j count) (claims_from n o (successor j) count) (λ h. absurd (cc))
      (claims_none (places_after places p (stage.Claim o j count) (answer_to (stage.Claim o j count))) (cells_at (stage.Claim o j count)) o
      (successor j) count) h
  took_now (stage.Count o j count) is live k h = no_index (places_after places p (stage.Count o j count) words.read)
      (cells_at (stage.Count o j count)) (words.read == count)
      (stage.Confirm o j) (if words.read == lock_mark then stage.Undo o j else stage.Count o j words.read) (λ h. absurd (cc))
      (no_index (places_after places p (stage.Count o j count) words.read) (cells_at (stage.Count o j count)) (words.read == lock_mark)
      (stage.Undo o j)
      (stage.Count o j words.read) (λ h. absurd (cc)) (λ h. absurd (cc))) h
  took_now (stage.Confirm o j) is live k h =
      let same : j ≡ i = cc in
      let its : o ≡ owner = cc in
      subst (λ (l : ℕ). (l < n) × (place_of (set places j (place.Held p)) l ≡ place.Held p)
      × (slice_index (cells_at (stage.Confirm o j)) l ≡ owner) × IsUnheld places l) same (
        k.2,
        get_or-set_same places j (place.Held p) place.Empty (omega (arith, k.2, many)),
        ap (λ (l : ℕ). slice_index (set words.cells l o) j) (mod-eq_of_lt (omega (arith, k.2, size)))
            ∙ get_or-set_same words.cells j o 0 (omega (arith, k.2, size)) ∙ its,
        λ r held. let wrong : place.Counted p ≡ place.Held r = sym (k.3 live).0 ∙ held in cc,
      )
  took_now (stage.Undo o j) is live k h = absurd (cc)
  took_now (stage.Free o j mode) is live k h = absurd (cc)
  took_now (stage.Look o number mode j) is live k h = absurd (cc)
  took_now (stage.Clear o number mode j seen) is live k h = absurd (cc)
  took_now (stage.Settle d) is live k h = no_index places words.cells (words.read == lock_mark) (stage.Done d (Settled Locked))
      (scans_from n d 0 words.read) (λ h. absurd (cc))
      (no_index places words.cells (nat_lt 0 n) (stage.Scan d 0 words.read) (stage.Lock d words.read) (λ h. absurd (cc))
      (λ h. absurd (cc))) h
  took_now (stage.Scan d j count) is live k h = no_index places words.cells (answer_to (stage.Scan d j count) == 0)
      (scans_from n d (successor j) count) (stage.Done d (Settled Unlocked))
      (no_index places words.cells (nat_lt (successor j) n) (stage.Scan d (successor j) count) (stage.Lock d count) (λ h. absurd (cc))
      (λ h. absurd (cc))) (λ h. absurd (cc)) h
  took_now (stage.Lock d count) is live k h = no_index places (cells_at (stage.Lock d count)) (is_marked_by count words.read)
      (stage.Done d (Settled Locked))
      (stage.Done d (Settled Unlocked)) (λ h. absurd (cc)) (λ h. absurd (cc)) h
  took_now (stage.Done d answered) is live k h = absurd (cc)

-- a call that has no answer goes on
pub not_over : (t : RobustCall) → answer_at t ≡ None → call_is_over t ≡ false
not_over stage.Idle h = refl
not_over (stage.Acquire o) h = refl
not_over (stage.Claim o k count) h = refl
not_over (stage.Count o k count) h = refl
not_over (stage.Confirm o k) h = refl
not_over (stage.Undo o k) h = refl
not_over (stage.Free o k m) h = refl
not_over (stage.Look o number m k) h = refl
not_over (stage.Clear o number m k seen) h = refl
not_over (stage.Settle d) h = refl
not_over (stage.Scan d k count) h = refl
not_over (stage.Lock d count) h = refl
not_over (stage.Done d a) h = absurd (cc)

-- the last step of a call changes nothing
pub done_places : (places : List Place) (p answer : ℕ) (t : RobustCall) (got : Answer) → answer_at t ≡ Some got
    → places_after places p t answer ≡ places
done_places places p answer stage.Idle got h = absurd (cc)
done_places places p answer (stage.Acquire o) got h = absurd (cc)
done_places places p answer (stage.Claim o k count) got h = absurd (cc)
done_places places p answer (stage.Count o k count) got h = absurd (cc)
done_places places p answer (stage.Confirm o k) got h = absurd (cc)
done_places places p answer (stage.Undo o k) got h = absurd (cc)
done_places places p answer (stage.Free o k m) got h = absurd (cc)
done_places places p answer (stage.Look o number m k) got h = absurd (cc)
done_places places p answer (stage.Clear o number m k seen) got h = absurd (cc)
done_places places p answer (stage.Settle d) got h = absurd (cc)
done_places places p answer (stage.Scan d k count) got h = absurd (cc)
done_places places p answer (stage.Lock d count) got h = absurd (cc)
done_places places p answer (stage.Done d a) got h = refl

pub done_words : (words : RingWords) (t : RobustCall) (got : Answer) → answer_at t ≡ Some got → after_access words (call_next t) ≡ words
done_words words stage.Idle got h = absurd (cc)
done_words words (stage.Acquire o) got h = absurd (cc)
done_words words (stage.Claim o k count) got h = absurd (cc)
done_words words (stage.Count o k count) got h = absurd (cc)
done_words words (stage.Confirm o k) got h = absurd (cc)
done_words words (stage.Undo o k) got h = absurd (cc)
done_words words (stage.Free o k m) got h = absurd (cc)
done_words words (stage.Look o number m k) got h = absurd (cc)
done_words words (stage.Clear o number m k seen) got h = absurd (cc)
done_words words (stage.Settle d) got h = absurd (cc)
done_words words (stage.Scan d k count) got h = absurd (cc)
done_words words (stage.Lock d count) got h = absurd (cc)
done_words words (stage.Done d a) got h = refl

-- an acquire, a release and a recovery are answered each in its own way
pub never_settled : (n p : ℕ) (words : RingWords) (places : List Place) (lost : List ℕ) (es : List Event) (owner : ℕ) (state : ReleaseState)
    (t : RobustCall) → call_in_hand t ≡ Some (call.Acquire owner) → answer_at t ≡ Some (Settled state)
    → Knows n words places lost p es t → ⊥
never_settled n p words places lost es owner state stage.Idle is h known = cc
never_settled n p words places lost es owner state (stage.Acquire o) is h known = cc
never_settled n p words places lost es owner state (stage.Claim o k count) is h known = cc
never_settled n p words places lost es owner state (stage.Count o k count) is h known = cc
never_settled n p words places lost es owner state (stage.Confirm o k) is h known = cc
never_settled n p words places lost es owner state (stage.Undo o k) is h known = cc
never_settled n p words places lost es owner state (stage.Free o k m) is h known = cc
never_settled n p words places lost es owner state (stage.Look o number m k) is h known = cc
never_settled n p words places lost es owner state (stage.Clear o number m k seen) is h known = cc
never_settled n p words places lost es owner state (stage.Settle d) is h known = cc
never_settled n p words places lost es owner state (stage.Scan d k count) is h known = cc
never_settled n p words places lost es owner state (stage.Lock d count) is h known = cc
never_settled n p words places lost es owner state (stage.Done d a) is h known =
    let same : d ≡ call.Acquire owner = cc in
    let got : a ≡ Settled state = cc in
    subst (λ (b : Answer). Tells n (words.read == lock_mark) es (call.Acquire owner) b) got
    (subst (λ (e : Call). Tells n (words.read == lock_mark) es e a) same known)

pub never_acquired : (n p : ℕ) (words : RingWords) (places : List Place) (lost : List ℕ) (es : List Event) (owner index : ℕ)
    (mode : ReleaseMode) (got : Result ℕ UniqueIndexSetAcquireFailure) (t : RobustCall)
    → call_in_hand t ≡ Some (call.Release owner index mode) → answer_at t ≡ Some (Acquired got) → Knows n words places lost p es t → ⊥
never_acquired n p words places lost es owner index mode got stage.Idle is h known = cc
never_acquired n p words places lost es owner index mode got (stage.Acquire o) is h known = cc
never_acquired n p words places lost es owner index mode got (stage.Claim o k count) is h known = cc
never_acquired n p words places lost es owner index mode got (stage.Count o k count) is h known = cc
never_acquired n p words places lost es owner index mode got (stage.Confirm o k) is h known = cc
never_acquired n p words places lost es owner index mode got (stage.Undo o k) is h known = cc
never_acquired n p words places lost es owner index mode got (stage.Free o k m) is h known = cc
never_acquired n p words places lost es owner index mode got (stage.Look o number m k) is h known = cc
never_acquired n p words places lost es owner index mode got (stage.Clear o number m k seen) is h known = cc
never_acquired n p words places lost es owner index mode got (stage.Settle d) is h known = cc
never_acquired n p words places lost es owner index mode got (stage.Scan d k count) is h known = cc
never_acquired n p words places lost es owner index mode got (stage.Lock d count) is h known = cc
never_acquired n p words places lost es owner index mode got (stage.Done d a) is h known = of mode
    (subst (λ (b : Answer). Tells n (words.read == lock_mark) es (call.Release owner index mode) b) answered
    (subst (λ (e : Call). Tells n (words.read == lock_mark) es e a) same known))
  where
    same : d ≡ call.Release owner index mode
    same = cc

    answered : a ≡ Acquired got
    answered = cc

    of : (m : ReleaseMode) → Tells n (words.read == lock_mark) es (call.Release owner index m) (Acquired got) → ⊥
    of LockIfLastIndex t = t
    of Default t = t

pub never_taken : (n p : ℕ) (words : RingWords) (places : List Place) (lost : List ℕ) (es : List Event) (owner number : ℕ)
    (mode : ReleaseMode) (got : Result ℕ UniqueIndexSetAcquireFailure) (t : RobustCall)
    → call_in_hand t ≡ Some (call.Recover owner number mode) → answer_at t ≡ Some (Acquired got) → Knows n words places lost p es t → ⊥
never_taken n p words places lost es owner number mode got stage.Idle is h known = cc
never_taken n p words places lost es owner number mode got (stage.Acquire o) is h known = cc
never_taken n p words places lost es owner number mode got (stage.Claim o k count) is h known = cc
never_taken n p words places lost es owner number mode got (stage.Count o k count) is h known = cc
never_taken n p words places lost es owner number mode got (stage.Confirm o k) is h known = cc
never_taken n p words places lost es owner number mode got (stage.Undo o k) is h known = cc
never_taken n p words places lost es owner number mode got (stage.Free o k m) is h known = cc
never_taken n p words places lost es owner number mode got (stage.Look o j m k) is h known = cc
never_taken n p words places lost es owner number mode got (stage.Clear o j m k seen) is h known = cc
never_taken n p words places lost es owner number mode got (stage.Settle d) is h known = cc
never_taken n p words places lost es owner number mode got (stage.Scan d k count) is h known = cc
never_taken n p words places lost es owner number mode got (stage.Lock d count) is h known = cc
never_taken n p words places lost es owner number mode got (stage.Done d a) is h known = of mode
    (subst (λ (b : Answer). Tells n (words.read == lock_mark) es (call.Recover owner number mode) b) answered
    (subst (λ (e : Call). Tells n (words.read == lock_mark) es e a) same known))
  where
    same : d ≡ call.Recover owner number mode
    same = cc

    answered : a ≡ Acquired got
    answered = cc

    of : (m : ReleaseMode) → Tells n (words.read == lock_mark) es (call.Recover owner number m) (Acquired got) → ⊥
    of LockIfLastIndex t = t
    of Default t = t

-- a release frees no index that another party holds
module _ (n p q owner index : ℕ) (mode : ReleaseMode) (words : RingWords) (places : List Place) (lost : List ℕ) (es : List Event)
    (differs : p ≡ q → ⊥) (i answer : ℕ) (is : place_of places i ≡ place.Held q) where
  pub release_keeps : (t : RobustCall) → call_in_hand t ≡ Some (call.Release owner index mode) → is_halted lost t ≡ false
      → Knows n words places lost p es t → place_of (places_after places p t answer) i ≡ place.Held q
  release_keeps stage.Idle c live k = absurd (cc)
  release_keeps (stage.Acquire o) c live k = absurd (cc)
  release_keeps (stage.Claim o j count) c live k = absurd (cc)
  release_keeps (stage.Count o j count) c live k = absurd (cc)
  release_keeps (stage.Confirm o j) c live k = absurd (cc)
  release_keeps (stage.Undo o j) c live k = absurd (cc)
  release_keeps (stage.Free o j m) c live k = of (answer == o)
    where
      of : (b : Bool) → place_of (if b then set places j place.Empty else places) i ≡ place.Held q
      of true = get_or-set_other places j i place.Empty place.Empty (λ same.
          let wrong : place.Held p ≡ place.Held q = sym (k.3 live).0 ∙ ap (place_of places) (sym same) ∙ is in
          differs (let e : p ≡ q = cc in e)) ∙ is
      of false = is
  release_keeps (stage.Look o number m j) c live k = absurd (cc)
  release_keeps (stage.Clear o number m j seen) c live k = absurd (cc)
  release_keeps (stage.Settle d) c live k = is
  release_keeps (stage.Scan d j count) c live k = is
  release_keeps (stage.Lock d count) c live k = is
  release_keeps (stage.Done d a) c live k = is

-- a release makes nobody the holder of an index
pub release_takes_none : (q p : ℕ) (places : List Place) (owner index : ℕ) (mode : ReleaseMode) (t : RobustCall) (answer i : ℕ)
    → call_in_hand t ≡ Some (call.Release owner index mode) → place_of (places_after places p t answer) i ≡ place.Held q
    → place_of places i ≡ place.Held q
release_takes_none q p places owner index mode stage.Idle answer i is h = absurd (cc)
release_takes_none q p places owner index mode (stage.Acquire o) answer i is h = absurd (cc)
release_takes_none q p places owner index mode (stage.Claim o k count) answer i is h = absurd (cc)
release_takes_none q p places owner index mode (stage.Count o k count) answer i is h = absurd (cc)
release_takes_none q p places owner index mode (stage.Confirm o k) answer i is h = absurd (cc)
release_takes_none q p places owner index mode (stage.Undo o k) answer i is h = absurd (cc)
release_takes_none q p places owner index mode (stage.Free o k m) answer i is h =
    if_not_mine q (answer == o) places k place.Empty i (λ wrong. absurd (cc)) h
release_takes_none q p places owner index mode (stage.Look o number m k) answer i is h = absurd (cc)
release_takes_none q p places owner index mode (stage.Clear o number m k seen) answer i is h = absurd (cc)
release_takes_none q p places owner index mode (stage.Settle d) answer i is h = h
release_takes_none q p places owner index mode (stage.Scan d k count) answer i is h = h
release_takes_none q p places owner index mode (stage.Lock d count) answer i is h = h
release_takes_none q p places owner index mode (stage.Done d a) answer i is h = h
