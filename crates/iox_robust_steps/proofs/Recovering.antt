-- A step of a recovery frees an index that it was to free, or none.
use Rattle.std.proofs.Common.{◌≡◌, ℕ, ◌+◌, ◌%◌, ◌⊎◌, inl, inr, ⊎_elim, Bool, true, false, if◌then◌else◌, ◌==◌, Option, Some, None, List}
use Rattle.std.proofs.Common.{length, set, slice_index, drop, refl, sym, ◌∙◌, ap, subst, arith, mod-eq_of_lt}
use Rattle.std.specs.Global.{Vec}
use Rattle.std.proofs.Math.Seq.{get_or-set_same, get_or-set_other}
use Rattle.std.proofs.lemmas.Bool.{cases_eq, eqb-true}
use Rattle.iox_container.specs.declared.release.ReleaseMode.{ReleaseMode}
use Rattle.iox_queues_steps.specs.Access.{RingWords, after_access, after_store, answer_of, word_of}
use Rattle.iox_queues_steps.specs.declared.access.Word.TheVariants.{Read, Cell}
use Rattle.iox_queues_steps.specs.declared.schedule.Stepped.{Stepped}
use Rattle.iox_queues_steps.specs.declared.schedule.Stepped.TheVariants as stepped
use Rattle.iox_queues.specs.Told.{own}
use Rattle.iox_queues.specs.declared.bits.machine.Event.{Event}
use Rattle.iox_robust_steps.specs.Steps.{call_in_hand, call_next, lock_mark, reserved}
use Rattle.iox_robust_steps.specs.Told.{IsAskedSoFar}
use Rattle.iox_robust_steps.specs.Machine.{RobustSetState, StepsTo, happens, places_after, seat_at, stage_at}
use Rattle.iox_robust_steps.specs.Kept.{IsKept}
use Rattle.iox_robust_steps.specs.OfCalls.{call_of_step}
use Rattle.iox_robust_steps.specs.Recovering.{FreesIndex, FreesOnlyItsOwn, IfRecovers, IndexStays, RecoversSo}
use Rattle.iox_robust_steps.specs.declared.call.Call.{Call}
use Rattle.iox_robust_steps.specs.declared.call.Call.TheVariants as call
use Rattle.iox_robust_steps.specs.declared.call.RobustCall.{RobustCall}
use Rattle.iox_robust_steps.specs.declared.call.RobustCall.TheVariants as stage
use Rattle.iox_robust_steps.specs.declared.machine.Move.{Move}
use Rattle.iox_robust_steps.specs.declared.machine.Move.TheVariants.{Begin, GoOn, Insist}
use Rattle.iox_robust_steps.specs.declared.state.Place.{Place}
use Rattle.iox_robust_steps.specs.declared.state.Place.TheVariants as place
use Rattle.iox_robust_steps.proofs.Theirs.{OfRecovery, asked_of}

module _ (n : ℕ) (decisions : List (Vec Bool)) (may : Bool) (words : RingWords) (places : List Place) where
  -- a step that changes nothing
  unchanged : (o : Option Call) → IfRecovers n decisions may words words places places o
  unchanged None = tt
  unchanged (Some (call.Acquire owner)) = tt
  unchanged (Some (call.Release owner index mode)) = tt
  unchanged (Some (call.Recover owner number mode)) = record { each = λ i within. inl (refl, refl); count = inl refl }

  -- one that locks the set
  locking : (b : Bool) (o : Option Call) → IfRecovers n decisions may words (if b then after_store words Read lock_mark else words) places
      places o
  locking false o = unchanged o
  locking true None = tt
  locking true (Some (call.Acquire owner)) = tt
  locking true (Some (call.Release owner index mode)) = tt
  locking true (Some (call.Recover owner number mode)) = record { each = λ i within. inl (refl, refl); count = inr refl }

  module _ (size : length words.cells ≡ n + 1) (many : length places ≡ n) (owner number j seen : ℕ) (mode : ReleaseMode) where
    abbrev cell : ℕ
    cell = word_of words (Cell j)

    -- one that frees an index, if its cell is what it saw there
    clearing : OfRecovery n decisions may owner number (stage.Clear owner number mode j seen) → (b : Bool) → (cell == seen) ≡ b
        → RecoversSo n decisions may words (if b then after_store words (Cell j) 0 else words) places
        (if b then set places j place.Empty else places) owner number
    clearing k false e = record { each = λ i within. inl (refl, refl); count = inl refl }
    clearing k true e = record {
      each = λ i within. ⊎_elim (λ (same : i ≡ j). inr (freed i same)) (λ (differs : i ≡ j → ⊥). inl (stays i differs)) (cases_eq i j);
      count = inl refl;
    }
      where
        at : j % length words.cells ≡ j
        at = mod-eq_of_lt (omega (arith, k.4, size))

        held : slice_index words.cells j ≡ seen
        held = ap (λ (l : ℕ). slice_index words.cells l) (sym at) ∙ eqb-true cell seen e

        stays : (i : ℕ) → (i ≡ j → ⊥)
            → IndexStays words (after_store words (Cell j) 0) places (set places j place.Empty) i
        stays i differs = (
          get_or-set_other places j i place.Empty place.Empty differs,
          ap (λ (l : ℕ). slice_index (set words.cells l 0) i) at ∙ get_or-set_other words.cells j i 0 0 differs,
        )

        its : (seen ≡ owner) ⊎ (seen ≡ reserved owner) → (slice_index words.cells j ≡ owner) ⊎ (slice_index words.cells j ≡ reserved owner)
        its (inl h) = inl (held ∙ h)
        its (inr h) = inr (held ∙ h)

        freed : (i : ℕ) → i ≡ j
            → FreesIndex decisions may words (after_store words (Cell j) 0) places (set places j place.Empty) owner number i
        freed i same = subst (λ (l : ℕ). FreesIndex decisions may words (after_store words (Cell j) 0) places (set places j place.Empty)
            owner number l) (sym same) (record {
              wanted = k.2;
              owned = its k.3;
              free = get_or-set_same places j place.Empty place.Empty (omega (arith, k.4, many));
              empty = ap (λ (l : ℕ). slice_index (set words.cells l 0) j) at
                  ∙ get_or-set_same words.cells j 0 0 (omega (arith, k.4, size));
            })

  -- one step of a party at each stage
  recovers : (size : length words.cells ≡ n + 1) (many : length places ≡ n) (p : ℕ) (es : List Event) (s : RobustCall)
      → IsAskedSoFar n decisions may p (call_in_hand s) s es
      → IfRecovers n decisions may words (after_access words (call_next s)) places (places_after places p s (answer_of words (call_next s)))
      (call_in_hand s)
  recovers size many p es stage.Idle a = tt
  recovers size many p es (stage.Acquire owner) a = tt
  recovers size many p es (stage.Claim owner i count) a = tt
  recovers size many p es (stage.Count owner i count) a = tt
  recovers size many p es (stage.Confirm owner i) a = tt
  recovers size many p es (stage.Undo owner i) a = tt
  recovers size many p es (stage.Free owner i mode) a = tt
  recovers size many p es (stage.Look owner number mode i) a = unchanged (Some (call.Recover owner number mode))
  recovers size many p es (stage.Clear owner number mode i seen) a = clearing size many owner number i seen mode
      (asked_of n decisions may owner number p mode (stage.Clear owner number mode i seen) es a) (word_of words (Cell i) == seen) refl
  recovers size many p es (stage.Settle c) a = unchanged (Some c)
  recovers size many p es (stage.Scan c i count) a = unchanged (Some c)
  recovers size many p es (stage.Lock c count) a = locking (words.read == count) (Some c)
  recovers size many p es (stage.Done c answer) a = unchanged (Some c)

happens_frees : (m : RobustSetState) (step : Move) → IsKept m → FreesOnlyItsOwn m step (happens m step)
happens_frees m (Begin party c) k = unchanged m.capacity m.decisions m.may_insist m.words m.places (Some c)
happens_frees m (GoOn party) k = recovers m.capacity m.decisions m.may_insist m.words m.places k.cells k.places party
    (own party (drop (seat_at m.seats party).first m.events)) (stage_at m.seats party) (k.recorded.going party)
happens_frees m (Insist party) k = recovers m.capacity m.decisions m.may_insist m.words m.places k.cells k.places party
    (own party (drop (seat_at m.seats party).first m.events)) (stage_at m.seats party) (k.recorded.going party)

pub steps_free : (m : RobustSetState) (step : Move) (r : Stepped) (n : RobustSetState) → StepsTo m step r n → IsKept m
    → FreesOnlyItsOwn m step n
steps_free m step stepped.Went n h k = subst (FreesOnlyItsOwn m step) (sym h.2) (happens_frees m step k)
steps_free m step stepped.Finished n h k = subst (FreesOnlyItsOwn m step) (sym h.2) (happens_frees m step k)
steps_free m step stepped.Skipped n h k =
    subst (FreesOnlyItsOwn m step) (sym h.1) (unchanged m.capacity m.decisions m.may_insist m.words m.places (call_of_step m step))
steps_free m step stepped.NoMemory n h k =
    subst (FreesOnlyItsOwn m step) (sym h.1) (unchanged m.capacity m.decisions m.may_insist m.words m.places (call_of_step m step))
