-- What doesn't change at a place that contains a party's member, if no recovery began.
use Rattle.std.proofs.Common.{◌≡◌, ℕ, zero, suc, ◌+◌, ◌*◌, ◌<◌, Bool, true, false, if◌then◌else◌, ◌==◌}
use Rattle.std.proofs.Common.{Option, Some, None, List, [], ◌∷◌, ◌++◌, length, set, slice_index, take, refl, sym, ◌∙◌, ap, subst}
use Rattle.std.proofs.Common.{arith, mod-eq_of_lt}
use Rattle.std.proofs.Math.Seq.{get_or-set_other}
use Rattle.std.proofs.lemmas.Bool.{eq-eqb}
use Rattle.iox_queues_steps.specs.Access.{RingWords, after_access}
use Rattle.iox_queues_steps.specs.declared.access.Access.{Access}
use Rattle.iox_queues_steps.specs.declared.access.Access.TheVariants.{Load, Store, Exchange, Local}
use Rattle.iox_queues_steps.specs.declared.access.Word.TheVariants.{Write, Read, Cell}
use Rattle.iox_queues.specs.Moments.{words_after}
use Rattle.iox_queues.specs.declared.bits.machine.Event.{Event}
use Rattle.iox_robust_steps.specs.ContainerSteps.{is_shown, value_cell}
use Rattle.iox_robust_steps.specs.ContainerStays.{MayBeMade, MayBeStored, StaysTillTakenOut, stored_by, whose_after}
use Rattle.iox_robust_steps.proofs.Ending.{same_cells}

-- some steps, and then others
pub words_behind : (words : RingWords) (xs ys : List Event) → words_after words (xs ++ ys) ≡ words_after (words_after words xs) ys
words_behind words [] ys = refl
words_behind words (x ∷ xs) ys = words_behind (after_access words x.access) xs ys

pub whose_behind : (place : ℕ) (now : Option ℕ) (xs ys : List Event)
    → whose_after place now (xs ++ ys) ≡ whose_after place (whose_after place now xs) ys
whose_behind place now [] ys = refl
whose_behind place now (x ∷ xs) ys = whose_behind place (stored_by place x.party x.access now) xs ys

pub stays_behind : (n width place : ℕ) (now : Option ℕ) (xs ys : List Event) → StaysTillTakenOut n width place now (xs ++ ys)
    → StaysTillTakenOut n width place (whose_after place now xs) ys
stays_behind n width place now [] ys h = h
stays_behind n width place now (x ∷ xs) ys h = stays_behind n width place (stored_by place x.party x.access now) xs ys h.1

pub stays_before : (n width place : ℕ) (now : Option ℕ) (xs ys : List Event) → StaysTillTakenOut n width place now (xs ++ ys)
    → StaysTillTakenOut n width place now xs
stays_before n width place now [] ys h = tt
stays_before n width place now (x ∷ xs) ys h = (h.0, stays_before n width place (stored_by place x.party x.access now) xs ys h.1)

pub stays_first : (n width place : ℕ) (now : Option ℕ) (k : ℕ) (events : List Event) → StaysTillTakenOut n width place now events
    → StaysTillTakenOut n width place now (take k events)
stays_first n width place now zero events h = tt
stays_first n width place now (suc k) [] h = tt
stays_first n width place now (suc k) (x ∷ xs) h = (h.0, stays_first n width place (stored_by place x.party x.access now) k xs h.1)

pub length_after : (words : RingWords) (events : List Event) → length (words_after words events).cells ≡ length words.cells
length_after words [] = refl
length_after words (x ∷ xs) = length_after (after_access words x.access) xs ∙ same_cells words x.access

-- at one of the places
module _ (n p width place : ℕ) (within : place < n) where
  -- a step that takes no member out
  not_out : (q cell value : ℕ) → cell ≡ place → is_shown value ≡ false
      → stored_by place q (Store (Cell cell) value) (Some p) ≡ Some p → ⊥
  not_out q cell value same hidden kept =
      let wrong : ◌≡◌ {A = Option ℕ} None (Some p)
      = sym (ap (λ (b : Bool). if b then (if is_shown value then Some q else None) else Some p) (eq-eqb cell place same)
      ∙ ap (λ (b : Bool). if b then Some q else None) hidden) ∙ kept in cc

  -- a cell that is stored by no step that leaves the party's member in
  module _ (c : ℕ) (untouched : (q cell value : ℕ) → MayBeStored n width place (Some p) q cell value
      → stored_by place q (Store (Cell cell) value) (Some p) ≡ Some p → c ≡ cell → ⊥) where
    same_after : (q : ℕ) (a : Access) (words : RingWords) → length words.cells ≡ n + (n * width + 1)
        → MayBeMade n width place (Some p) q a → stored_by place q a (Some p) ≡ Some p
        → slice_index (after_access words a).cells c ≡ slice_index words.cells c
    same_after q (Load word) words size may kept = refl
    same_after q (Store Write value) words size may kept = refl
    same_after q (Store Read value) words size may kept = refl
    same_after q (Store (Cell cell) value) words size may kept =
        ap (λ (k : ℕ). slice_index (set words.cells k value) c) (mod-eq_of_lt (omega (arith, size, may.0)))
        ∙ get_or-set_other words.cells cell c value 0 (untouched q cell value may.1 kept)
    same_after q (Exchange Write old new) words size may kept = of (words.write == old)
      where
        of : (b : Bool) → slice_index (if b then record words { write = new } else words).cells c ≡ slice_index words.cells c
        of true = refl
        of false = refl
    same_after q (Exchange Read old new) words size may kept = of (words.read == old)
      where
        of : (b : Bool) → slice_index (if b then record words { read = new } else words).cells c ≡ slice_index words.cells c
        of true = refl
        of false = refl
    same_after q (Exchange (Cell cell) old new) words size may kept = absurd may
    same_after q Local words size may kept = refl

    same_along : (events : List Event) (words : RingWords) → length words.cells ≡ n + (n * width + 1)
        → StaysTillTakenOut n width place (Some p) events
        → ((xs ys : List Event) → events ≡ xs ++ ys → whose_after place (Some p) xs ≡ Some p)
        → slice_index (words_after words events).cells c ≡ slice_index words.cells c
    same_along [] words size stays along = refl
    same_along (e ∷ events) words size stays along =
        let kept : stored_by place e.party e.access (Some p) ≡ Some p = along (e ∷ []) events refl in
        same_along events (after_access words e.access) (same_cells words e.access ∙ size)
        (subst (λ (o : Option ℕ). StaysTillTakenOut n width place o events) kept stays.1)
        (λ xs ys same. ap (λ (o : Option ℕ). whose_after place o xs) (sym kept)
        ∙ along (e ∷ xs) ys (ap (λ (es : List Event). e ∷ es) same))
        ∙ same_after e.party e.access words size stays.0 kept

  pub count_along : (events : List Event) (words : RingWords) → length words.cells ≡ n + (n * width + 1)
      → StaysTillTakenOut n width place (Some p) events
      → ((xs ys : List Event) → events ≡ xs ++ ys → whose_after place (Some p) xs ≡ Some p)
      → slice_index (words_after words events).cells place ≡ slice_index words.cells place
  count_along = same_along place
      (λ q cell value may kept same. not_out q cell value (sym same) (may.0 (sym same)).1 kept)

  pub value_along : (j : ℕ) → j < width → (events : List Event) (words : RingWords) → length words.cells ≡ n + (n * width + 1)
      → StaysTillTakenOut n width place (Some p) events
      → ((xs ys : List Event) → events ≡ xs ++ ys → whose_after place (Some p) xs ≡ Some p)
      → slice_index (words_after words events).cells (value_cell n width place j) ≡ slice_index words.cells (value_cell n width place j)
  value_along j low = same_along (value_cell n width place j)
      (λ q cell value may kept same. may.1 j low (sym same))
