-- An owner whose recovery began keeps its indices until a recovery frees them.
use Rattle.std.proofs.Common.{◌≡◌, ℕ, ◌+◌, ◌%◌, ◌<◌, Bool, true, false, if◌then◌else◌, ◌==◌, List, length}
use Rattle.std.proofs.Common.{set, slice_index, refl, sym, ◌∙◌, ap, subst, arith, mod-eq_of_lt}
use Rattle.std.proofs.Math.Seq.{get_or-set_other}
use Rattle.std.proofs.lemmas.Bool.{eqb-true}
use Rattle.iox_container.specs.declared.release.ReleaseMode.{ReleaseMode}
use Rattle.iox_queues_steps.specs.Access.{RingWords, after_access, after_store, answer_of, successor, word_of}
use Rattle.iox_queues_steps.specs.declared.access.Word.TheVariants.{Read, Cell}
use Rattle.iox_queues.specs.declared.bits.machine.Event.{Event}
use Rattle.iox_robust_steps.specs.Steps.{call_next, lock_mark, reserved}
use Rattle.iox_robust_steps.specs.Kept.{IsOwner, Knows}
use Rattle.iox_robust_steps.specs.Machine.{CellFits, is_halted, is_lost, place_of, places_after}
use Rattle.iox_robust_steps.specs.declared.call.RobustCall.{RobustCall}
use Rattle.iox_robust_steps.specs.declared.call.RobustCall.TheVariants as stage
use Rattle.iox_robust_steps.specs.declared.state.Place.{Place}
use Rattle.iox_robust_steps.specs.declared.state.Place.TheVariants as place

module _ (n p : ℕ) (words : RingWords) (places : List Place) (lost : List ℕ) (size : length words.cells ≡ n + 1) (es : List Event)
    (o i : ℕ) (owns : IsOwner o) (gone : is_lost o lost ≡ true) (is : slice_index words.cells i ≡ o) where
  -- a cell that is another one's
  abbrev IsElse : ℕ → Type 0
  IsElse j = i ≡ j → ⊥

  stored_else : (j v : ℕ) → j < n → IsElse j → slice_index (set words.cells (j % length words.cells) v) i ≡ o
  stored_else j v within other = ap (λ (k : ℕ). slice_index (set words.cells k v) i) (mod-eq_of_lt (omega (arith, within, size)))
      ∙ get_or-set_other words.cells j i v 0 other ∙ is

  exchanged_else : (j old v : ℕ) → j < n → (slice_index words.cells j ≡ old → IsElse j)
      → slice_index (if word_of words (Cell j) == old then after_store words (Cell j) v else words).cells i ≡ o
  exchanged_else j old v within other = of (word_of words (Cell j) == old) refl
    where
      found : word_of words (Cell j) ≡ slice_index words.cells j
      found = ap (λ (k : ℕ). slice_index words.cells k) (mod-eq_of_lt (omega (arith, within, size)))

      of : (b : Bool) → (word_of words (Cell j) == old) ≡ b
          → slice_index (if b then after_store words (Cell j) v else words).cells i ≡ o
      of true e = stored_else j v within (other (sym found ∙ eqb-true (word_of words (Cell j)) old e))
      of false e = is

  counted_else : (old v : ℕ) → slice_index (if words.read == old then after_store words Read v else words).cells i ≡ o
  counted_else old v = of (words.read == old)
    where
      of : (b : Bool) → slice_index (if b then after_store words Read v else words).cells i ≡ o
      of true = is
      of false = is

  -- the cell of a number that isn't the owner's
  apart : (j v : ℕ) → slice_index words.cells j ≡ v → (v ≡ o → ⊥) → IsElse j
  apart j v at other same = other (sym at ∙ ap (λ (k : ℕ). slice_index words.cells k) (sym same) ∙ is)

  alive : (owner : ℕ) → is_lost owner lost ≡ false → owner ≡ o → ⊥
  alive owner live same = let wrong : true ≡ false = sym gone ∙ ap (λ (k : ℕ). is_lost k lost) (sym same) ∙ live in cc

  pub still_of_lost : (t : RobustCall) → is_halted lost t ≡ false → Knows n words places lost p es t
      → ((owner number : ℕ) (mode : ReleaseMode) (j seen : ℕ) → t ≡ stage.Clear owner number mode j seen
      → slice_index words.cells j ≡ seen → i ≡ j → ⊥)
      → slice_index (after_access words (call_next t)).cells i ≡ o
  still_of_lost stage.Idle live k frees = is
  still_of_lost (stage.Acquire owner) live k frees = is
  still_of_lost (stage.Claim owner j count) live k frees =
      exchanged_else j 0 (reserved owner) k.2 (λ empty. apart j 0 empty (λ same. omega (arith, same, owns.0)))
  still_of_lost (stage.Count owner j count) live k frees = counted_else count (successor count)
  still_of_lost (stage.Confirm owner j) live k frees =
      stored_else j owner k.2 (apart j (reserved owner) (k.3 live).1 (λ same. omega (arith, same, owns.1, k.0.0)))
  still_of_lost (stage.Undo owner j) live k frees =
      stored_else j 0 k.2 (apart j (reserved owner) (k.4 live).1 (λ same. omega (arith, same, owns.1, k.0.0)))
  still_of_lost (stage.Free owner j mode) live k frees =
      exchanged_else j owner 0 k.2 (λ found. apart j owner found (alive owner live))
  still_of_lost (stage.Look owner number mode j) live k frees = is
  still_of_lost (stage.Clear owner number mode j seen) live k frees =
      exchanged_else j seen 0 k.2 (λ found. frees owner number mode j seen refl found)
  still_of_lost (stage.Settle c) live k frees = is
  still_of_lost (stage.Scan c j count) live k frees = is
  still_of_lost (stage.Lock c count) live k frees = counted_else count lock_mark
  still_of_lost (stage.Done c answer) live k frees = is

-- an index that a party holds stays its own, unless the step frees it
module _ (n p : ℕ) (words : RingWords) (places : List Place) (lost : List ℕ) (size : length words.cells ≡ n + 1) (es : List Event)
    (fitting : (j : ℕ) → j < n → CellFits (place_of places j) (slice_index words.cells j)) (q i : ℕ)
    (holds : place_of places i ≡ place.Held q) where
  abbrev answer_to : RobustCall → ℕ
  answer_to t = answer_of words (call_next t)

  found_in : (j : ℕ) → j < n → word_of words (Cell j) ≡ slice_index words.cells j
  found_in j within = ap (λ (k : ℕ). slice_index words.cells k) (mod-eq_of_lt (omega (arith, within, size)))

  other_place : (j : ℕ) (x : Place) → (i ≡ j → ⊥) → place_of (set places j x) i ≡ place.Held q
  other_place j x other = get_or-set_other places j i x place.Empty other ∙ holds

  if_other : (b : Bool) (j : ℕ) (x : Place) → (b ≡ true → i ≡ j → ⊥) → place_of (if b then set places j x else places) i ≡ place.Held q
  if_other true j x other = other_place j x (other refl)
  if_other false j x other = holds

  -- a place that stands so is another one
  stands_else : (j : ℕ) (x : Place) → (x ≡ place.Held q → ⊥) → place_of places j ≡ x → i ≡ j → ⊥
  stands_else j x other is same = other (sym is ∙ ap (place_of places) (sym same) ∙ holds)

  pub held_stays : (t : RobustCall) → is_halted lost t ≡ false → Knows n words places lost p es t
      → ((owner j : ℕ) (mode : ReleaseMode) → t ≡ stage.Free owner j mode → i ≡ j → ⊥)
      → ((owner number : ℕ) (mode : ReleaseMode) (j seen : ℕ) → t ≡ stage.Clear owner number mode j seen
      → slice_index words.cells j ≡ seen → i ≡ j → ⊥)
      → place_of (places_after places p t (answer_to t)) i ≡ place.Held q
  held_stays stage.Idle live k released recovered = holds
  held_stays (stage.Acquire owner) live k released recovered = holds
  held_stays (stage.Claim owner j count) live k released recovered =
      if_other (answer_to (stage.Claim owner j count) == 0) j (place.Claimed p) (λ e same.
      let empty : slice_index words.cells j ≡ 0 = sym (found_in j k.2) ∙ eqb-true (word_of words (Cell j)) 0 e in
      let fits : CellFits (place.Held q) (slice_index words.cells j)
      = subst (λ (x : Place). CellFits x (slice_index words.cells j)) (ap (place_of places) (sym same) ∙ holds) (fitting j k.2) in
      omega (arith, empty, fits.0))
  held_stays (stage.Count owner j count) live k released recovered = if_other (words.read == count) j (place.Counted p)
      (λ e same. stands_else j (place.Claimed p) (λ h. absurd (cc)) (k.4 live).0 same)
  held_stays (stage.Confirm owner j) live k released recovered =
      other_place j (place.Held p) (stands_else j (place.Counted p) (λ h. absurd (cc)) (k.3 live).0)
  held_stays (stage.Undo owner j) live k released recovered =
      other_place j place.Empty (stands_else j (place.Claimed p) (λ h. absurd (cc)) (k.4 live).0)
  held_stays (stage.Free owner j mode) live k released recovered = if_other (answer_to (stage.Free owner j mode) == owner) j place.Empty
      (λ e same. released owner j mode refl same)
  held_stays (stage.Look owner number mode j) live k released recovered = holds
  held_stays (stage.Clear owner number mode j seen) live k released recovered =
      if_other (answer_to (stage.Clear owner number mode j seen) == seen) j place.Empty
      (λ e same. recovered owner number mode j seen refl (sym (found_in j k.2) ∙ eqb-true (word_of words (Cell j)) seen e) same)
  held_stays (stage.Settle c) live k released recovered = holds
  held_stays (stage.Scan c j count) live k released recovered = holds
  held_stays (stage.Lock c count) live k released recovered = holds
  held_stays (stage.Done c answer) live k released recovered = holds
