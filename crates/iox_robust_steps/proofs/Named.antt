-- The owner of a held index is the owner of the acquire that took it last, after each step.
use Rattle.std.proofs.Common.{◌≡◌, ℕ, ◌<◌, ◌≤◌, ◌⊎◌, inl, inr, ⊎_elim, Bool, true, false, if◌then◌else◌, ◌==◌, ◌&&◌, nat_lt, Ok, List, []}
use Rattle.std.proofs.Common.{◌∷◌, ◌++◌, ◌+◌, length, set, slice_index, refl, sym, ◌∙◌, ap, subst, arith, append_assoc, length-append}
use Rattle.std.proofs.Common.{drop, mod-eq_of_lt}
use Rattle.std.proofs.Math.Seq.{get_or-set_same, get_or-set_other}
use Rattle.std.proofs.lemmas.Bool.{cases_eq, eq-eqb, lt-ltb}
use Rattle.iox_queues_steps.specs.Access.{RingWords, after_access, after_store, answer_of, word_of}
use Rattle.iox_queues_steps.specs.declared.access.Access.TheVariants.{Local}
use Rattle.iox_queues_steps.specs.declared.access.Word.TheVariants.{Read, Cell}
use Rattle.iox_queues.specs.Told.{own}
use Rattle.iox_queues.specs.declared.bits.machine.Event.{Event}
use Rattle.iox_robust_steps.specs.Changes.{gave_by, took_by}
use Rattle.iox_robust_steps.specs.Kept.{IsConsistent, Knows, WordsFit}
use Rattle.iox_robust_steps.specs.Machine.{RobustSetState, begun, call_ended, one_if_held, place_of, places_after, seat_at, stage_at, went}
use Rattle.iox_robust_steps.specs.Named.{AcquireEnded, AcquireInHand, StandsUnder}
use Rattle.iox_robust_steps.specs.Steps.{call_begun, call_is_idle, call_next, call_take, lock_mark}
use Rattle.iox_robust_steps.specs.declared.call.Answer.TheVariants.{Acquired}
use Rattle.iox_robust_steps.specs.declared.call.Call.{Call}
use Rattle.iox_robust_steps.specs.declared.call.Call.TheVariants as call
use Rattle.iox_robust_steps.specs.declared.call.RobustCall.{RobustCall}
use Rattle.iox_robust_steps.specs.declared.call.RobustCall.TheVariants as stage
use Rattle.iox_robust_steps.specs.declared.machine.Finished.{Finished}
use Rattle.iox_robust_steps.specs.declared.state.Place.{Place}
use Rattle.iox_robust_steps.specs.declared.state.Place.TheVariants as place
use Rattle.iox_robust_steps.specs.declared.state.Seat.{Seat}
use Rattle.iox_robust_steps.proofs.Counts.{more_given, more_taken}
use Rattle.iox_robust_steps.proofs.Seats.{seat_else, seat_here}
use Rattle.iox_robust_steps.proofs.Whole.{never_both}

-- the acquire that took an index, in hand or ended
abbrev Acquires : ℕ → ℕ → ℕ → ℕ → List Finished → Seat → Type 0
Acquires p owner i number finished seat = AcquireEnded p owner i number finished ⊎ AcquireInHand owner i number seat

ended_more : (p owner i number : ℕ) (finished more : List Finished) → AcquireEnded p owner i number finished
    → AcquireEnded p owner i number (finished ++ more)
ended_more p owner i number finished more h = record {
  before = h.before;
  ended = h.ended;
  after = h.after ++ more;
  whole = ap (λ (fs : List Finished). fs ++ more) h.whole ∙ append_assoc h.before (h.ended ∷ h.after) more;
  its = h.its;
  is = h.is;
  so = h.so;
  began = h.began;
  until = h.until;
}

-- an index stands under its owner after a step that neither takes it nor gives it back
stands_on : (p i owner : ℕ) (seat seat' : Seat) (events : List Event) (e : Event) (finished finished' : List Finished)
    → took_by i e.access ≡ 0 → gave_by i e.access e.answer ≡ 0
    → ((number : ℕ) → number < length events → Acquires p owner i number finished seat → Acquires p owner i number finished' seat')
    → StandsUnder p i owner seat events finished → StandsUnder p i owner seat' (events ++ e ∷ []) finished'
stands_on p i owner seat seat' events e finished finished' took gave still h = record {
  before = h.before;
  taking = h.taking;
  after = h.after ++ e ∷ [];
  whole = ap (λ (es : List Event). es ++ e ∷ []) h.whole ∙ append_assoc h.before (h.taking ∷ h.after) (e ∷ []);
  its = h.its;
  takes = h.takes;
  last = omega (arith, more_taken i h.after (e ∷ []), h.last, took);
  kept = omega (arith, more_given i h.after (e ∷ []), h.kept, gave);
  acquired = still (length h.before)
      (omega (arith, ap (λ (es : List Event). length es) h.whole, length-append h.before (h.taking ∷ h.after))) h.acquired;
}

-- a party begins a call
pub stands_begun : (m : RobustSetState) (party : ℕ) (c : Call) → call_is_idle (stage_at m.seats party) ≡ true
    → (p i owner : ℕ) → StandsUnder p i owner (seat_at m.seats p) m.events m.finished
    → StandsUnder p i owner (seat_at (begun m party c).seats p) (begun m party c).events m.finished
stands_begun m party c idle p i owner =
    stands_on p i owner (seat_at m.seats p) (seat_at (begun m party c).seats p) m.events
    (record { party = party; access = Local; answer = 0 }) m.finished m.finished refl refl still
  where
    seat : Seat
    seat = record { stage = call_begun m.capacity c; first = length m.events }

    still : (number : ℕ) → number < length m.events → Acquires p owner i number m.finished (seat_at m.seats p)
        → Acquires p owner i number m.finished (seat_at (begun m party c).seats p)
    still number low (inl h) = inl h
    still number low (inr h) = inr (⊎_elim
        (λ (same : p ≡ party). absurd (
        let wrong : true ≡ false = sym idle ∙ ap (λ (q : ℕ). call_is_idle (stage_at m.seats q)) (sym same) ∙ ap call_is_idle h.so in cc))
        (λ (differs : p ≡ party → ⊥). subst (AcquireInHand owner i number) (sym (seat_else m.seats party p seat differs)) h)
        (cases_eq p party))

-- one step of a party at each stage
module _ (n p : ℕ) (words : RingWords) (places : List Place) (lost : List ℕ) (es : List Event) (size : length words.cells ≡ n + 1)
    (many : length places ≡ n) (i q : ℕ) where
  -- the party q held the index before, and its cell is as it was
  abbrev WasHeld : RingWords → Type 0
  WasHeld words' = (place_of places i ≡ place.Held q) × (slice_index words'.cells i ≡ slice_index words.cells i)

  sets : (k v : ℕ) (x : Place) → k < n → (x ≡ place.Held q → ⊥) → place_of (set places k x) i ≡ place.Held q
      → WasHeld (after_store words (Cell k) v)
  sets k v x within other is = ⊎_elim
      (λ (same : i ≡ k). absurd (other (sym (get_or-set_same places k x place.Empty (omega (arith, within, many)))
      ∙ ap (place_of (set places k x)) (sym same) ∙ is)))
      (λ (differs : i ≡ k → ⊥). (
        sym (get_or-set_other places k i x place.Empty differs) ∙ is,
        ap (λ (j : ℕ). slice_index (set words.cells j v) i) (mod-eq_of_lt (omega (arith, within, size)))
            ∙ get_or-set_other words.cells k i v 0 differs,
      ))
      (cases_eq i k)

  exchanges : (b : Bool) (k v : ℕ) (x : Place) → k < n → (x ≡ place.Held q → ⊥)
      → place_of (if b then set places k x else places) i ≡ place.Held q
      → WasHeld (if b then after_store words (Cell k) v else words)
  exchanges true k v x within other is = sets k v x within other is
  exchanges false k v x within other is = (is, refl)

  counts : (b : Bool) (k v : ℕ) (x : Place) → k < n → (x ≡ place.Held q → ⊥)
      → place_of (if b then set places k x else places) i ≡ place.Held q
      → WasHeld (if b then after_store words Read v else words)
  counts true k v x within other is = ((sets k v x within other is).0, refl)
  counts false k v x within other is = (is, refl)

  marks : (b : Bool) (v : ℕ) → place_of places i ≡ place.Held q → WasHeld (if b then after_store words Read v else words)
  marks true v is = (is, refl)
  marks false v is = (is, refl)

  -- or the step is that of an acquire which takes it
  abbrev TakesNow : RobustCall → Type 0
  TakesNow s = (owner : ℕ) × (s ≡ stage.Confirm owner i) × (p ≡ q)
      × (slice_index (after_access words (call_next s)).cells i ≡ owner)

  abbrev answer_to : RobustCall → ℕ
  answer_to s = answer_of words (call_next s)

  confirms : (owner k : ℕ) → k < n → place_of (set places k (place.Held p)) i ≡ place.Held q
      → WasHeld (after_store words (Cell k) owner) ⊎ TakesNow (stage.Confirm owner k)
  confirms owner k within is = ⊎_elim
      (λ (same : i ≡ k).
      let mine : place.Held p ≡ place.Held q
      = sym (get_or-set_same places k (place.Held p) place.Empty (omega (arith, within, many)))
      ∙ ap (place_of (set places k (place.Held p))) (sym same) ∙ is in
      let its : p ≡ q = cc in inr (
        owner,
        ap (λ (j : ℕ). stage.Confirm owner j) (sym same),
        its,
        ap (λ (j : ℕ). slice_index (set words.cells j owner) i) (mod-eq_of_lt (omega (arith, within, size)) ∙ sym same)
            ∙ get_or-set_same words.cells i owner 0 (omega (arith, same, within, size)),
      ))
      (λ (differs : i ≡ k → ⊥). inl (
        sym (get_or-set_other places k i (place.Held p) place.Empty differs) ∙ is,
        ap (λ (j : ℕ). slice_index (set words.cells j owner) i) (mod-eq_of_lt (omega (arith, within, size)))
            ∙ get_or-set_other words.cells k i owner 0 differs,
      ))
      (cases_eq i k)

  held_from : (s : RobustCall) → Knows n words places lost p es s → place_of (places_after places p s (answer_to s)) i ≡ place.Held q
      → WasHeld (after_access words (call_next s)) ⊎ TakesNow s
  held_from stage.Idle kn is = inl (is, refl)
  held_from (stage.Acquire owner) kn is = inl (is, refl)
  held_from (stage.Claim owner k count) kn is = inl (exchanges (word_of words (Cell k) == 0) k _ (place.Claimed p) kn.2 (λ h. cc) is)
  held_from (stage.Count owner k count) kn is = inl (counts (words.read == count) k _ (place.Counted p) kn.2 (λ h. cc) is)
  held_from (stage.Confirm owner k) kn is = confirms owner k kn.2 is
  held_from (stage.Undo owner k) kn is = inl (sets k 0 place.Empty kn.2 (λ h. cc) is)
  held_from (stage.Free owner k mode) kn is = inl (exchanges (word_of words (Cell k) == owner) k 0 place.Empty kn.2 (λ h. cc) is)
  held_from (stage.Look owner number mode k) kn is = inl (is, refl)
  held_from (stage.Clear owner number mode k seen) kn is
      = inl (exchanges (word_of words (Cell k) == seen) k 0 place.Empty kn.2 (λ h. cc) is)
  held_from (stage.Settle c) kn is = inl (is, refl)
  held_from (stage.Scan c k count) kn is = inl (is, refl)
  held_from (stage.Lock c count) kn is = inl (marks (words.read == count) lock_mark is)
  held_from (stage.Done c answer) kn is = inl (is, refl)

-- a party goes on
module _ (m : RobustSetState) (party : ℕ) (insists : Bool) (within : party < length m.seats) (c : IsConsistent m)
    (size : length m.words.cells ≡ m.capacity + 1) (many : length m.places ≡ m.capacity)
    (began : (seat_at m.seats party).first ≤ length m.events) where
  abbrev s : RobustCall
  s = stage_at m.seats party

  abbrev first : ℕ
  first = (seat_at m.seats party).first

  abbrev answer : ℕ
  answer = answer_of m.words (call_next s)

  abbrev mine : List Event
  mine = own party (drop first m.events)

  abbrev event : Event
  event = record { party = party; access = call_next s; answer = answer }

  abbrev seat : Seat
  seat = record { stage = call_take m.capacity m.decisions insists s answer; first = first }

  abbrev cell : ℕ → ℕ
  cell i = slice_index m.words.cells i

  abbrev cell' : ℕ → ℕ
  cell' i = slice_index (after_access m.words (call_next s)).cells i

  abbrev Stands : ℕ → ℕ → ℕ → Type 0
  Stands p i owner = StandsUnder p i owner (seat_at (went m party insists).seats p) (went m party insists).events
      (went m party insists).finished

  -- the acquire that took it is in hand still, or ended with this step
  still : (p owner i number : ℕ) → number < length m.events → Acquires p owner i number m.finished (seat_at m.seats p)
      → Acquires p owner i number (went m party insists).finished (seat_at (went m party insists).seats p)
  still p owner i number low (inl h) = inl (ended_more p owner i number m.finished (call_ended party first (length m.events) s) h)
  still p owner i number low (inr h) = ⊎_elim
      (λ (same : p ≡ party). inl (record {
        before = m.finished;
        ended = record {
          party = party;
          call = call.Acquire owner;
          answer = Acquired (Ok i);
          first = first;
          last = length m.events;
        };
        after = [];
        whole = ap (λ (t : RobustCall). m.finished ++ call_ended party first (length m.events) t)
            (ap (λ (q : ℕ). stage_at m.seats q) (sym same) ∙ h.so);
        its = sym same;
        is = refl;
        so = refl;
        began = subst (λ (q : ℕ). (seat_at m.seats q).first ≤ number) same h.began;
        until = low;
      }))
      (λ (differs : p ≡ party → ⊥). inr (subst (AcquireInHand owner i number) (sym (seat_else m.seats party p seat differs)) h))
      (cases_eq p party)

  pub stands_went : WordsFit m.capacity (went m party insists).words (went m party insists).places (went m party insists).events → (i p : ℕ)
      → place_of (went m party insists).places i ≡ place.Held p → Stands p i (cell' i)
  stands_went w i p is = of
      (held_from m.capacity party m.words m.places m.lost mine size many i p s (c.knows party) is)
    where
      of : WasHeld m.capacity party m.words m.places m.lost mine size many i p (after_access m.words (call_next s))
          ⊎ TakesNow m.capacity party m.words m.places m.lost mine size many i p s → Stands p i (cell' i)
      of (inl (before, same)) =
          let as_often : took_by i event.access ≡ gave_by i event.access answer
          = omega (
            arith,
            w.balance i,
            c.whole.balance i,
            more_taken i m.events (event ∷ []),
            more_given i m.events (event ∷ []),
            ap one_if_held before,
            ap one_if_held is,
          ) in
          let gave : gave_by i event.access answer ≡ 0 = never_both i event.access answer as_often in
          subst (Stands p i) (sym same)
          (stands_on p i (cell i) (seat_at m.seats p) (seat_at (went m party insists).seats p) m.events event m.finished
          (went m party insists).finished
          (as_often ∙ gave) gave (still p (cell i) i) (c.named i p before))
      of (inr (owner, now, its, named)) = subst (Stands p i) (sym named) (record {
        before = m.events;
        taking = event;
        after = [];
        whole = refl;
        its = its;
        takes = ap (λ (t : RobustCall). took_by i (call_next t)) now
            ∙ ap (λ (b : Bool). if b && nat_lt 0 owner then 1 else 0) (eq-eqb i i refl)
            ∙ ap (λ (b : Bool). if b then 1 else 0) (lt-ltb 0 owner owns);
        last = refl;
        kept = refl;
        acquired = inr (subst (λ (q : ℕ). AcquireInHand owner i (length m.events) (seat_at (went m party insists).seats q)) its
            (subst (AcquireInHand owner i (length m.events)) (sym (seat_here m.seats party seat within)) (record {
              so = ap (λ (t : RobustCall). call_take m.capacity m.decisions insists t answer) now;
              began = began;
            })));
      })
        where
          owns : 0 < owner
          owns =
              let known : Knows m.capacity m.words m.places m.lost party mine (stage.Confirm owner i)
              = subst (Knows m.capacity m.words m.places m.lost party mine) now (c.knows party) in known.0.0
