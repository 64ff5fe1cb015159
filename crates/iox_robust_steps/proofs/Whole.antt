-- What each kind of step leaves of the words and of how far each index is taken.
use Rattle.std.proofs.Common.{◌≡◌, ℕ, ◌+◌, ◌<◌, ◌≤◌, ◌⊎◌, inl, inr, ⊎_elim, false, List, [], ◌∷◌, ◌++◌, length}
use Rattle.std.proofs.Common.{set, slice_index, refl, sym, ◌∙◌, ap, subst, arith, length-append}
use Rattle.std.proofs.Math.Seq.{get_or-set_same, get_or-set_other}
use Rattle.std.proofs.lemmas.Bool.{cases_eq}
use Rattle.iox_queues_steps.specs.Access.{RingWords}
use Rattle.iox_queues_steps.specs.declared.access.Access.{Access}
use Rattle.iox_queues_steps.specs.declared.access.Access.TheVariants.{Load, Store, Exchange, Local}
use Rattle.iox_queues_steps.specs.declared.access.Word.TheVariants.{Write, Read, Cell}
use Rattle.iox_queues.specs.declared.bits.machine.Event.{Event}
use Rattle.iox_robust_steps.specs.Steps.{lock_mark, reserved}
use Rattle.iox_robust_steps.specs.Changes.{gave_by, times_given, times_taken, took_by}
use Rattle.iox_robust_steps.specs.Told.{Holds}
use Rattle.iox_robust_steps.specs.Machine.{CellFits, is_lost, one_if_held, place_of}
use Rattle.iox_robust_steps.specs.Kept.{IsOwner, IsQuiet, WordsFit}
use Rattle.iox_robust_steps.specs.declared.state.Place.{Place}
use Rattle.iox_robust_steps.specs.declared.state.Place.TheVariants as place
use Rattle.iox_robust_steps.proofs.Counts.{more_given, more_taken, turns_on}

-- no step both takes an index and gives it back
pub never_both : (i : ℕ) (access : Access) (answer : ℕ) → took_by i access ≡ gave_by i access answer → gave_by i access answer ≡ 0
never_both i (Load word) answer h = refl
never_both i (Store word value) answer h = refl
never_both i (Exchange Write old new) answer h = refl
never_both i (Exchange Read old new) answer h = refl
never_both i (Exchange (Cell place) old new) answer h = sym h
never_both i Local answer h = refl

still_holds : (p i : ℕ) (events : List Event) (e : Event) → Holds p i events → gave_by i e.access e.answer ≡ 0
    → Holds p i (events ++ e ∷ [])
still_holds p i events e h gave = record {
  before = h.before;
  taking = h.taking;
  after = h.after ++ e ∷ [];
  whole = ap (λ (es : List Event). es ++ e ∷ []) h.whole ∙ behind h.before (h.taking ∷ h.after);
  its = h.its;
  takes = h.takes;
  keeps = omega (arith, more_given i h.after (e ∷ []), h.keeps, gave);
}
  where
    behind : (xs ys : List Event) → (xs ++ ys) ++ e ∷ [] ≡ xs ++ (ys ++ e ∷ [])
    behind [] ys = refl
    behind (x ∷ xs) ys = ap (λ (zs : List Event). x ∷ zs) (behind xs ys)

at_most_one : (p : Place) → one_if_held p ≤ 1
at_most_one place.Empty = omega arith
at_most_one (place.Claimed p) = omega arith
at_most_one (place.Counted p) = omega arith
at_most_one (place.Held p) = omega arith

-- the index is taken so far by this party
abbrev pub BelongsTo : ℕ → Place → Type 0
BelongsTo party place.Empty = ⊥
BelongsTo party (place.Claimed p) = p ≡ party
BelongsTo party (place.Counted p) = p ≡ party
BelongsTo party (place.Held p) = p ≡ party

-- what a step of another party leaves to a party: its indices, unless the recovery of their owner began, and what a call that is
-- to lock found quiet, unless the count went on
pub record LeavesTo (q : ℕ) (words words' : RingWords) (places places' : List Place) (lost : List ℕ) : Type 0 where
  pub keeps : (owner i : ℕ) (stand : Place) → is_lost owner lost ≡ false → IsOwner owner → BelongsTo q stand
      → place_of places i ≡ stand → (slice_index words.cells i ≡ owner) ⊎ (slice_index words.cells i ≡ reserved owner)
      → (place_of places' i ≡ stand) × (slice_index words'.cells i ≡ slice_index words.cells i)
  pub quiets : ((words'.read ≡ words.read) × ((j : ℕ) → IsQuiet (place_of places j) → IsQuiet (place_of places' j)))
      ⊎ (words.read < words'.read)
  pub locked : words.read ≡ lock_mark → words'.read ≡ lock_mark

pub leaves_all : (q : ℕ) (words : RingWords) (places : List Place) (lost : List ℕ) → LeavesTo q words words places places lost
leaves_all q words places lost = record {
  keeps = λ owner i stand live owns its is holds. (is, refl);
  quiets = inl (refl, λ j quiet. quiet);
  locked = λ locked. locked;
}

module _ (n : ℕ) (words : RingWords) (places : List Place) (events : List Event) (e : Event) (w : WordsFit n words places events) where
  abbrev Adds : List Place → Type 0
  Adds places' = (i : ℕ)
      → took_by i e.access + one_if_held (place_of places i) ≡ gave_by i e.access e.answer + one_if_held (place_of places' i)

  -- who holds an index after the step held it before, or took it by the step
  abbrev HeldFrom : ℕ → Place → Place → Type 0
  HeldFrom i before after =
      (p : ℕ) → after ≡ place.Held p → (before ≡ place.Held p) ⊎ ((e.party ≡ p) × (took_by i e.access ≡ 1))

  pub whole_on : (words' : RingWords) (places' : List Place)
      → ((i : ℕ) → i < n → CellFits (place_of places' i) (slice_index words'.cells i))
      → (words'.read ≡ lock_mark → (i : ℕ) → i < n → IsQuiet (place_of places' i))
      → ((words'.read ≡ lock_mark) ⊎ (words'.read ≤ length (events ++ e ∷ []))) → Adds places'
      → ((i : ℕ) → HeldFrom i (place_of places i) (place_of places' i))
      → WordsFit n words' places' (events ++ e ∷ [])
  whole_on words' places' cells quiet count adds from = record {
    cells = cells;
    quiet = quiet;
    count = count;
    balance = balanced;
    turns = λ i k. turns_on i k events e (λ k. w.turns i k)
        (omega (arith, balanced i, at_most_one (place_of places' i)), omega (arith, balanced i, at_most_one (place_of places' i)));
    holders = λ i p is. ⊎_elim
        (λ (was : place_of places i ≡ place.Held p). still_holds p i events e (w.holders i p was) (never_both i e.access e.answer
        (omega (arith, adds i, ap one_if_held was, ap one_if_held is))))
        (λ (now : (e.party ≡ p) × (took_by i e.access ≡ 1)).
        record { before = events; taking = e; after = []; whole = refl; its = now.0; takes = now.1; keeps = refl })
        (from i p is);
  }
    where
      balanced : (i : ℕ) → times_taken i (events ++ e ∷ []) ≡ times_given i (events ++ e ∷ []) + one_if_held (place_of places' i)
      balanced i = omega (arith, more_taken i events (e ∷ []), more_given i events (e ∷ []), w.balance i, adds i)

  pub count_on : (words.read ≡ lock_mark) ⊎ (words.read ≤ length (events ++ e ∷ []))
  count_on = of w.count
    where
      of : (words.read ≡ lock_mark) ⊎ (words.read ≤ length events) → (words.read ≡ lock_mark) ⊎ (words.read ≤ length (events ++ e ∷ []))
      of (inl h) = inl h
      of (inr h) = inr (omega (arith, h, length-append events (e ∷ [])))

  -- a step that takes nothing and gives nothing back
  pub whole_kept : ((i : ℕ) → took_by i e.access ≡ 0) → ((i : ℕ) → gave_by i e.access e.answer ≡ 0)
      → WordsFit n words places (events ++ e ∷ [])
  whole_kept took gave = whole_on words places w.cells w.quiet count_on (λ i. omega (arith, took i, gave i)) (λ i p is. inl is)

  -- a step that changes how far one index is taken, and maybe its cell
  module _ (j : ℕ) (x : Place) (within : j < n) (many : length places ≡ n) where
    pub place_here : place_of (set places j x) j ≡ x
    place_here = get_or-set_same places j x place.Empty (omega (arith, within, many))

    pub place_else : (i : ℕ) → (i ≡ j → ⊥) → place_of (set places j x) i ≡ place_of places i
    place_else i differs = get_or-set_other places j i x place.Empty differs

    pub each_place : (P : ℕ → Place → Type 0) → P j x → ((i : ℕ) → (i ≡ j → ⊥) → P i (place_of places i))
        → (i : ℕ) → P i (place_of (set places j x) i)
    each_place P here others i = ⊎_elim
        (λ (same : i ≡ j). subst (λ (k : ℕ). P k (place_of (set places j x) k)) (sym same) (subst (P j) (sym place_here) here))
        (λ (differs : i ≡ j → ⊥). subst (P i) (sym (place_else i differs)) (others i differs))
        (cases_eq i j)

    module _ (v pos : ℕ) (pos_is : pos ≡ j) (size : length words.cells ≡ n + 1) where
      pub cell_here : slice_index (set words.cells pos v) j ≡ v
      cell_here = ap (λ (k : ℕ). slice_index (set words.cells k v) j) pos_is
          ∙ get_or-set_same words.cells j v 0 (omega (arith, within, size))

      pub cell_else : (i : ℕ) → (i ≡ j → ⊥) → slice_index (set words.cells pos v) i ≡ slice_index words.cells i
      cell_else i differs = ap (λ (k : ℕ). slice_index (set words.cells k v) i) pos_is ∙ get_or-set_other words.cells j i v 0 differs

      cells_fit : CellFits x v → (i : ℕ) → i < n → CellFits (place_of (set places j x) i) (slice_index (set words.cells pos v) i)
      cells_fit fits i below = ⊎_elim
          (λ (same : i ≡ j). subst (λ (k : ℕ). CellFits (place_of (set places j x) k) (slice_index (set words.cells pos v) k)) (sym same)
          (subst (λ (p : Place). CellFits p (slice_index (set words.cells pos v) j)) (sym place_here) (subst (CellFits x) (sym cell_here)
          fits)))
          (λ (differs : i ≡ j → ⊥). subst (λ (p : Place). CellFits p (slice_index (set words.cells pos v) i)) (sym (place_else i differs))
          (subst (CellFits (place_of places i)) (sym (cell_else i differs)) (w.cells i below)))
          (cases_eq i j)

      pub whole_set : CellFits x v → (words.read ≡ lock_mark → IsQuiet x) → HeldFrom j (place_of places j) x
          → took_by j e.access + one_if_held (place_of places j) ≡ gave_by j e.access e.answer + one_if_held x
          → ((i : ℕ) → (i ≡ j → ⊥) → (took_by i e.access ≡ 0) × (gave_by i e.access e.answer ≡ 0))
          → WordsFit n (record words { cells = set words.cells pos v }) (set places j x) (events ++ e ∷ [])
      whole_set fits quiet from here others = whole_on (record words { cells = set words.cells pos v }) (set places j x) (cells_fit fits)
          (λ locked. each_place (λ (i : ℕ) (p : Place). i < n → IsQuiet p) (λ below. quiet locked)
          (λ i differs below. w.quiet locked i below))
          count_on
          (each_place (λ (i : ℕ) (p : Place). took_by i e.access + one_if_held (place_of places i)
          ≡ gave_by i e.access e.answer + one_if_held p) here
          (λ i differs. omega (arith, (others i differs).0, (others i differs).1)))
          (each_place (λ (i : ℕ) (q : Place). HeldFrom i (place_of places i) q) from (λ i differs p is. inl is))

      pub leaves_set : (q : ℕ) (lost : List ℕ) → (IsQuiet (place_of places j) → IsQuiet x)
          → ((owner : ℕ) (stand : Place) → is_lost owner lost ≡ false → IsOwner owner → BelongsTo q stand → place_of places j ≡ stand
          → (slice_index words.cells j ≡ owner) ⊎ (slice_index words.cells j ≡ reserved owner) → ⊥)
          → LeavesTo q words (record words { cells = set words.cells pos v }) places (set places j x) lost
      leaves_set q lost quiet none = record {
        keeps = λ owner i stand live owns its is holds. ⊎_elim
            (λ (same : i ≡ j). absurd (none owner stand live owns its (ap (place_of places) (sym same) ∙ is)
            (subst (λ (k : ℕ). (slice_index words.cells k ≡ owner) ⊎ (slice_index words.cells k ≡ reserved owner)) same holds)))
            (λ (differs : i ≡ j → ⊥). (place_else i differs ∙ is, cell_else i differs))
            (cases_eq i j);
        quiets = inl (refl, each_place (λ (i : ℕ) (p : Place). IsQuiet (place_of places i) → IsQuiet p) quiet (λ i differs h. h));
        locked = λ locked. locked;
      }
