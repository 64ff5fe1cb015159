-- What one more step leaves of the calls that ended, of who locked the set, and of the sizes.
use Rattle.std.proofs.Common.{◌≡◌, ℕ, ◌≤◌, inl, inr, Bool, true, false, if◌then◌else◌, ◌==◌, ◌||◌, List, [], ◌∷◌, ◌++◌, length, set}
use Rattle.std.proofs.Common.{take, drop, refl, sym, ◌∙◌, ap, subst, arith, length-append, length-set}
use Rattle.std.proofs.Math.Seq.{take-append_seam}
use Rattle.std.proofs.lemmas.Bool.{cases_eq}
use Rattle.std.proofs.lemmas.List.{take-append-le}
use Rattle.iox_queues_steps.specs.Access.{RingWords, after_access, after_store, word_of}
use Rattle.iox_queues_steps.specs.declared.access.Access.{Access}
use Rattle.iox_queues_steps.specs.declared.access.Access.TheVariants.{Load, Store, Exchange, Local}
use Rattle.iox_queues_steps.specs.declared.access.Word.{Word}
use Rattle.iox_queues_steps.specs.declared.access.Word.TheVariants.{Write, Read, Cell}
use Rattle.iox_queues.specs.Told.{own}
use Rattle.iox_queues.specs.declared.bits.machine.Event.{Event}
use Rattle.iox_robust_steps.specs.Steps.{call_is_idle}
use Rattle.iox_robust_steps.specs.Told.{AreTold, LieWithin, Tells, has_locked, is_locking, some_has_locked}
use Rattle.iox_robust_steps.specs.Machine.{IsLockedByRelease, RobustSetState, call_ended, places_after, seat_at, stage_at, went}
use Rattle.iox_robust_steps.specs.declared.call.RobustCall.{RobustCall}
use Rattle.iox_robust_steps.specs.declared.call.RobustCall.TheVariants as stage
use Rattle.iox_robust_steps.specs.declared.machine.Finished.{Finished}
use Rattle.iox_robust_steps.specs.declared.state.Place.{Place}
use Rattle.iox_robust_steps.specs.declared.state.Place.TheVariants as place
use Rattle.iox_robust_steps.specs.declared.state.Seat.{Seat}
use Rattle.iox_robust_steps.proofs.Knowing.{tells_locked}
use Rattle.iox_robust_steps.proofs.Seats.{seat_else}

-- no access changes how many cells there are
stored : (words : RingWords) (word : Word) (value : ℕ) → length (after_store words word value).cells ≡ length words.cells
stored words Write value = refl
stored words Read value = refl
stored words (Cell position) value = length-set words.cells _ value

pub same_cells : (words : RingWords) (access : Access) → length (after_access words access).cells ≡ length words.cells
same_cells words (Load word) = refl
same_cells words (Store word value) = stored words word value
same_cells words (Exchange word old new) = of (word_of words word == old)
  where
    of : (b : Bool) → length (if b then after_store words word new else words).cells ≡ length words.cells
    of true = stored words word new
    of false = refl
same_cells words Local = refl

either_long : (b : Bool) (places : List Place) (i : ℕ) (x : Place) → length (if b then set places i x else places) ≡ length places
either_long true places i x = length-set places i x
either_long false places i x = refl

pub same_places : (places : List Place) (party : ℕ) (s : RobustCall) (answer : ℕ) → length (places_after places party s answer)
    ≡ length places
same_places places party stage.Idle answer = refl
same_places places party (stage.Acquire owner) answer = refl
same_places places party (stage.Claim owner i count) answer = either_long (answer == 0) places i (place.Claimed party)
same_places places party (stage.Count owner i count) answer = either_long (answer == count) places i (place.Counted party)
same_places places party (stage.Confirm owner i) answer = length-set places i (place.Held party)
same_places places party (stage.Undo owner i) answer = length-set places i place.Empty
same_places places party (stage.Free owner i mode) answer = either_long (answer == owner) places i place.Empty
same_places places party (stage.Look owner number mode i) answer = refl
same_places places party (stage.Clear owner number mode i seen) answer = either_long (answer == seen) places i place.Empty
same_places places party (stage.Settle c) answer = refl
same_places places party (stage.Scan c i count) answer = refl
same_places places party (stage.Lock c count) answer = refl
same_places places party (stage.Done c answered) answer = refl

-- calls that ended stay among the steps, and told
pub among_on : (events : List Event) (e : Event) (finished : List Finished) → LieWithin events finished
    → LieWithin (events ++ e ∷ []) finished
among_on events e [] h = tt
among_on events e (f ∷ finished) h =
    ((record { begun = h.0.begun; ended = omega (arith, h.0.ended, length-append events (e ∷ [])) }), among_on events e finished h.1)

pub among_append : (events : List Event) (xs ys : List Finished) → LieWithin events xs → LieWithin events ys → LieWithin events (xs ++ ys)
among_append events [] ys h g = g
among_append events (x ∷ xs) ys h g = (h.0, among_append events xs ys h.1 g)

pub ended_among : (events : List Event) (e : Event) (party first : ℕ) (s : RobustCall) → first ≤ length events
    → LieWithin (events ++ e ∷ []) (call_ended party first (length events) s)
ended_among events e party first stage.Idle h = tt
ended_among events e party first (stage.Acquire owner) h = tt
ended_among events e party first (stage.Claim owner i count) h = tt
ended_among events e party first (stage.Count owner i count) h = tt
ended_among events e party first (stage.Confirm owner i) h = tt
ended_among events e party first (stage.Undo owner i) h = tt
ended_among events e party first (stage.Free owner i mode) h = tt
ended_among events e party first (stage.Look owner number mode i) h = tt
ended_among events e party first (stage.Clear owner number mode i seen) h = tt
ended_among events e party first (stage.Settle c) h = tt
ended_among events e party first (stage.Scan c i count) h = tt
ended_among events e party first (stage.Lock c count) h = tt
ended_among events e party first (stage.Done c answer) h
    = ((record { begun = h; ended = omega (arith, length-append events (e ∷ [])) }), tt)

pub told_on : (n : ℕ) (l l' : Bool) (events : List Event) (e : Event) (finished : List Finished) → (l ≡ true → l' ≡ true)
    → LieWithin events finished → AreTold n l events finished → AreTold n l' (events ++ e ∷ []) finished
told_on n l l' events e [] on among h = tt
told_on n l l' events e (f ∷ finished) on among h = (
  subst (λ (es : List Event). Tells n l' (own f.party (drop f.first es)) f.call f.answer)
      (sym (take-append-le f.last events (e ∷ []) (omega (arith, among.0.ended))))
      (tells_locked n l l' (own f.party (drop f.first (take f.last events))) on f.call f.answer h.0),
  told_on n l l' events e finished on among.1 h.1,
)

pub told_append : (n : ℕ) (l : Bool) (events : List Event) (xs ys : List Finished) → AreTold n l events xs → AreTold n l events ys
    → AreTold n l events (xs ++ ys)
told_append n l events [] ys h g = g
told_append n l events (x ∷ xs) ys h g = (h.0, told_append n l events xs ys h.1 g)

-- what is told of a call that has its answer
abbrev pub ToldIfOver : ℕ → Bool → RobustCall → List Event → Type 0
ToldIfOver n l stage.Idle es = Unit {0}
ToldIfOver n l (stage.Acquire owner) es = Unit {0}
ToldIfOver n l (stage.Claim owner i count) es = Unit {0}
ToldIfOver n l (stage.Count owner i count) es = Unit {0}
ToldIfOver n l (stage.Confirm owner i) es = Unit {0}
ToldIfOver n l (stage.Undo owner i) es = Unit {0}
ToldIfOver n l (stage.Free owner i mode) es = Unit {0}
ToldIfOver n l (stage.Look owner number mode i) es = Unit {0}
ToldIfOver n l (stage.Clear owner number mode i seen) es = Unit {0}
ToldIfOver n l (stage.Settle c) es = Unit {0}
ToldIfOver n l (stage.Scan c i count) es = Unit {0}
ToldIfOver n l (stage.Lock c count) es = Unit {0}
ToldIfOver n l (stage.Done c answer) es = Tells n l es c answer

pub ended_told : (n : ℕ) (l : Bool) (party first : ℕ) (events : List Event) (e : Event) (s : RobustCall)
    → ToldIfOver n l s (own party (drop first events)) → AreTold n l (events ++ e ∷ []) (call_ended party first (length events) s)
ended_told n l party first events e stage.Idle k = tt
ended_told n l party first events e (stage.Acquire owner) k = tt
ended_told n l party first events e (stage.Claim owner i count) k = tt
ended_told n l party first events e (stage.Count owner i count) k = tt
ended_told n l party first events e (stage.Confirm owner i) k = tt
ended_told n l party first events e (stage.Undo owner i) k = tt
ended_told n l party first events e (stage.Free owner i mode) k = tt
ended_told n l party first events e (stage.Look owner number mode i) k = tt
ended_told n l party first events e (stage.Clear owner number mode i seen) k = tt
ended_told n l party first events e (stage.Settle c) k = tt
ended_told n l party first events e (stage.Scan c i count) k = tt
ended_told n l party first events e (stage.Lock c count) k = tt
ended_told n l party first events e (stage.Done c answer) k = (
  subst (λ (es : List Event). Tells n l (own party (drop first es)) c answer) (sym (take-append_seam events (e ∷ []))) k,
  tt,
)

-- no call is to lock where none is in hand
pub idle_locks : (s : RobustCall) → call_is_idle s ≡ true → is_locking s ≡ true → ⊥
idle_locks stage.Idle idle locks = cc
idle_locks (stage.Acquire owner) idle locks = cc
idle_locks (stage.Claim owner i count) idle locks = cc
idle_locks (stage.Count owner i count) idle locks = cc
idle_locks (stage.Confirm owner i) idle locks = cc
idle_locks (stage.Undo owner i) idle locks = cc
idle_locks (stage.Free owner i mode) idle locks = cc
idle_locks (stage.Look owner number mode i) idle locks = cc
idle_locks (stage.Clear owner number mode i seen) idle locks = cc
idle_locks (stage.Settle c) idle locks = cc
idle_locks (stage.Scan c i count) idle locks = cc
idle_locks (stage.Lock c count) idle locks = cc
idle_locks (stage.Done c answer) idle locks = cc

or_on : (b c d : Bool) → (c ≡ true → d ≡ true) → (b || c) ≡ true → (b || d) ≡ true
or_on true c d goes h = refl
or_on false c d goes h = goes h

or_true : (b : Bool) → (b || true) ≡ true
or_true true = refl
or_true false = refl

locked_among : (xs ys : List Finished) → some_has_locked xs ≡ true → some_has_locked (xs ++ ys) ≡ true
locked_among [] ys h = absurd (cc)
locked_among (x ∷ xs) ys h = or_on (has_locked x.call x.answer) (some_has_locked xs) (some_has_locked (xs ++ ys)) (locked_among xs ys) h

locked_ended : (xs : List Finished) (party first last : ℕ) (s : RobustCall) → is_locking s ≡ true
    → some_has_locked (xs ++ call_ended party first last s) ≡ true
locked_ended [] party first last (stage.Done c answer) h = ap (λ (b : Bool). b || false) h
locked_ended [] party first last stage.Idle h = absurd (cc)
locked_ended [] party first last (stage.Acquire owner) h = absurd (cc)
locked_ended [] party first last (stage.Claim owner i count) h = absurd (cc)
locked_ended [] party first last (stage.Count owner i count) h = absurd (cc)
locked_ended [] party first last (stage.Confirm owner i) h = absurd (cc)
locked_ended [] party first last (stage.Undo owner i) h = absurd (cc)
locked_ended [] party first last (stage.Free owner i mode) h = absurd (cc)
locked_ended [] party first last (stage.Look owner number mode i) h = absurd (cc)
locked_ended [] party first last (stage.Clear owner number mode i seen) h = absurd (cc)
locked_ended [] party first last (stage.Settle c) h = absurd (cc)
locked_ended [] party first last (stage.Scan c i count) h = absurd (cc)
locked_ended [] party first last (stage.Lock c count) h = absurd (cc)
locked_ended (x ∷ xs) party first last s h = or_on (has_locked x.call x.answer) true
    (some_has_locked (xs ++ call_ended party first last s)) (λ yes. locked_ended xs party first last s h)
    (or_true (has_locked x.call x.answer))

-- a set that a call locked was locked by one after a party went on
pub locked_on : (m : RobustSetState) (party : ℕ) (insists : Bool) → IsLockedByRelease m → IsLockedByRelease (went m party insists)
locked_on m party insists (inl ended) = inl (locked_among m.finished
    (call_ended party (seat_at m.seats party).first (length m.events) (stage_at m.seats party)) ended)
locked_on m party insists (inr going) = elim (cases_eq going.0 party) [
  | inl same ↦ inl (locked_ended m.finished party (seat_at m.seats party).first (length m.events) (stage_at m.seats party)
      (ap (λ (q : ℕ). is_locking (stage_at m.seats q)) (sym same) ∙ going.1))
  | inr differs ↦ inr (
    going.0,
    subst (λ (seat : Seat). is_locking seat.stage ≡ true) (sym (seat_else m.seats party going.0 _ differs)) going.1,
  )
]
