-- Where the counts of places and the words of values are, and which of them a store changes.
use Rattle.std.proofs.Common.{◌≡◌, ℕ, ◌+◌, ◌*◌, ◌/◌, ◌%◌, ◌^◌, ◌<◌, ◌≤◌, Bool, true, false, not, ◌==◌, List, [], ◌∷◌, ◌++◌}
use Rattle.std.proofs.Common.{length, set, slice_index, take, refl, sym, ◌∙◌, ap, subst, arith, mod-eq_of_lt}
use Rattle.std.proofs.Math.Nat.{mul_comm}
use Rattle.std.proofs.Math.Seq.{get_or-set_same, get_or-set_other, take-append_seam}
use Rattle.std.proofs.lemmas.Bool.{eq-eqb, eqb-false, eqb-true, ne_eqb}
use Rattle.std.proofs.lemmas.List.{take-append-le}
use Rattle.std.proofs.lemmas.Nat.{div-mul-add, mul-add-lt}
use Rattle.iox_queues_steps.specs.Access.{RingWords, after_access}
use Rattle.iox_queues.specs.Moments.{words_after}
use Rattle.iox_queues.specs.declared.bits.machine.Event.{Event}
use Rattle.iox_robust_steps.specs.ContainerSteps.{is_shown, value_cell}
use Rattle.iox_robust_steps.specs.ContainerTold.{count_at, counted_by, gathered_after, gathered_by, noted_after, noted_by, Shown}
use Rattle.iox_robust_steps.specs.ContainerTold.{times_counted, value_at}

-- the next count is of the other kind
pub next_shown : (count : ℕ) → is_shown (count + 1) ≡ not (is_shown count)
next_shown count = test (count % 2 == 1) refl
  where
    test : (b : Bool) → (count % 2 == 1) ≡ b → ((count + 1) % 2 == 1) ≡ not b
    test true e = ne_eqb ((count + 1) % 2) 1 (λ same. omega (arith, same, eqb-true (count % 2) 1 e))
    test false e = eq-eqb ((count + 1) % 2) 1 (odd (eqb-false (count % 2) 1 e))
      where
        odd : (count % 2 ≡ 1 → ⊥) → (count + 1) % 2 ≡ 1
        odd differs = omega (arith, differs)

-- what one more step adds
pub more_counted : (events : List Event) (e : Event)
    → times_counted (events ++ e ∷ []) ≡ times_counted events + counted_by e.access e.answer
more_counted [] e = omega arith
more_counted (x ∷ events) e = omega (arith, more_counted events e)

pub more_gathered : (n : ℕ) (found : List ℕ) (events : List Event) (e : Event)
    → gathered_after n found (events ++ e ∷ []) ≡ gathered_by n e.access e.answer (gathered_after n found events)
more_gathered n found [] e = refl
more_gathered n found (x ∷ events) e = more_gathered n (gathered_by n x.access x.answer found) events e

pub more_noted : (n place : ℕ) (found : List ℕ) (shown : Shown) (events : List Event) (e : Event)
    → noted_after n place found shown (events ++ e ∷ [])
    ≡ noted_by place (gathered_after n found events) e.access e.answer (noted_after n place found shown events)
more_noted n place found shown [] e = refl
more_noted n place found shown (x ∷ events) e =
    more_noted n place (gathered_by n x.access x.answer found) (noted_by place found x.access x.answer shown) events e

pub words_more : (words : RingWords) (events : List Event) (e : Event)
    → words_after words (events ++ e ∷ []) ≡ after_access (words_after words events) e.access
words_more words [] e = refl
words_more words (x ∷ events) e = words_more (after_access words x.access) events e

-- moments of before are what they were
pub count_before : (start : RingWords) (events : List Event) (e : Event) (place moment : ℕ) → moment ≤ length events
    → count_at start (events ++ e ∷ []) place moment ≡ count_at start events place moment
count_before start events e place moment low =
    ap (λ (es : List Event). slice_index (words_after start es).cells place) (take-append-le moment events (e ∷ []) low)

pub value_before : (n width : ℕ) (start : RingWords) (events : List Event) (e : Event) (place moment j : ℕ) → moment ≤ length events
    → value_at n width start (events ++ e ∷ []) place moment j ≡ value_at n width start events place moment j
value_before n width start events e place moment j low =
    ap (λ (es : List Event). slice_index (words_after start es).cells (value_cell n width place j))
    (take-append-le moment events (e ∷ []) low)

-- the words now are those of the last moment, also after one more step
module _ (start words : RingWords) (events : List Event) (now : words ≡ words_after start events) (e : Event) where
  pub at_now : take (length events) (events ++ e ∷ []) ≡ events
  at_now = take-append_seam events (e ∷ [])

  pub cells_now : (words_after start (take (length events) (events ++ e ∷ []))).cells ≡ words.cells
  cells_now = ap (λ (es : List Event). (words_after start es).cells) at_now ∙ ap (λ (w : RingWords). w.cells) (sym now)

module _ (n width : ℕ) (cells : List ℕ) (size : length cells ≡ n + (n * width + 1)) (small : length cells < 2 ^ 62) where
  pub row_below : (i j : ℕ) → i < n → j < width → i * width + j < n * width
  row_below i j within low = subst (λ (k : ℕ). i * width + j < k) (mul_comm width n) (mul-add-lt i width j n within low)

  pub exact : (i j : ℕ) → i < n → j < width → value_cell n width i j ≡ n + (i * width + j)
  exact i j within low = omega (arith, row_below i j within low, size, small)

  pub value_within : (i j : ℕ) → i < n → j < width → value_cell n width i j < length cells
  value_within i j within low = omega (arith, exact i j within low, row_below i j within low, size)

  pub value_position : (i j : ℕ) → i < n → j < width → value_cell n width i j % length cells ≡ value_cell n width i j
  value_position i j within low = mod-eq_of_lt (value_within i j within low)

  pub count_within : (i : ℕ) → i < n → i < length cells
  count_within i within = omega (arith, within, size)

  pub count_position : (i : ℕ) → i < n → i % length cells ≡ i
  count_position i within = mod-eq_of_lt (count_within i within)

  pub behind_counts : (i j k : ℕ) → i < n → j < width → k < n → value_cell n width i j ≡ k → ⊥
  behind_counts i j k within low below same = omega (arith, exact i j within low, below, same)

  pub rows_apart : (i j k l : ℕ) → i < n → j < width → k < n → l < width → (i ≡ k → ⊥)
      → value_cell n width i j ≡ value_cell n width k l → ⊥
  rows_apart i j k l within low within' low' differs same =
      let line : i * width + j ≡ k * width + l = omega (arith, exact i j within low, exact k l within' low', same) in
      differs (sym (div-mul-add i width j low) ∙ ap (λ (x : ℕ). x / width) line ∙ div-mul-add k width l low')

  pub words_apart : (i j l : ℕ) → i < n → j < width → l < width → (j ≡ l → ⊥) → value_cell n width i j ≡ value_cell n width i l → ⊥
  words_apart i j l within low low' differs same
      = differs (omega (arith, exact i j within low, exact i l within low', same))

  -- a store of the count of a place
  module _ (i v : ℕ) (within : i < n) where
    pub count_here : slice_index (set cells (i % length cells) v) i ≡ v
    count_here = ap (λ (k : ℕ). slice_index (set cells k v) i) (count_position i within)
        ∙ get_or-set_same cells i v 0 (count_within i within)

    pub count_else : (k : ℕ) → (k ≡ i → ⊥) → slice_index (set cells (i % length cells) v) k ≡ slice_index cells k
    count_else k differs = ap (λ (p : ℕ). slice_index (set cells p v) k) (count_position i within) ∙ get_or-set_other cells i k v 0 differs

    pub values_stay : (k j : ℕ) → k < n → j < width
        → slice_index (set cells (i % length cells) v) (value_cell n width k j) ≡ slice_index cells (value_cell n width k j)
    values_stay k j below low = count_else (value_cell n width k j) (λ same. behind_counts k j i below low within same)

  -- a store of a word of the value at a place
  module _ (i j v : ℕ) (within : i < n) (low : j < width) where
    abbrev pub stored : List ℕ
    stored = set cells (value_cell n width i j % length cells) v

    pub value_here : slice_index stored (value_cell n width i j) ≡ v
    value_here = ap (λ (k : ℕ). slice_index (set cells k v) (value_cell n width i j)) (value_position i j within low)
        ∙ get_or-set_same cells (value_cell n width i j) v 0 (value_within i j within low)

    pub value_else : (k : ℕ) → (k ≡ value_cell n width i j → ⊥) → slice_index stored k ≡ slice_index cells k
    value_else k differs = ap (λ (p : ℕ). slice_index (set cells p v) k) (value_position i j within low)
        ∙ get_or-set_other cells (value_cell n width i j) k v 0 differs

    pub counts_stay : (k : ℕ) → k < n → slice_index stored k ≡ slice_index cells k
    counts_stay k below = value_else k (λ same. behind_counts i j k within low below (sym same))
