-- The cells from a position on hold a list, one after the other, going round.
use Rattle.std.proofs.Common.{◌≡◌, ℕ, suc, ◌+◌, ◌*◌, ◌/◌, ◌%◌, ◌^◌, ◌<◌, ◌≤◌, List, [], ◌∷◌, ◌++◌, length, set, drop, slice_index, sym}
use Rattle.std.proofs.Common.{◌∙◌, subst, inl, inr, arith, length-append, mul-le-mul_left}
use Rattle.std.proofs.Math.Seq.{get_or-set_same, get_or-set_other, get_or-append_seam}
use Rattle.std.proofs.lemmas.Nat.{mod_below}
use Rattle.iox_queues_steps.specs.Access.{successor}
use Rattle.std.proofs.Math.ListN.{get_or-append}
use Rattle.std.proofs.lemmas.Bool.{cases_lt}
use Rattle.iox_queues_steps.specs.Kept.{Held}

-- two positions less than a turn apart lie in different cells
pub cells_apart : (a b n : ℕ) → a < b → b < a + n → a % n ≡ b % n → ⊥
cells_apart a b n less near same =
    elim (cases_lt (a / n) (b / n)) [
      | inl lt ↦ let h : n * (a / n + 1) ≤ n * (b / n) = mul-le-mul_left n (omega arith) in
          let e : n * (a / n + 1) ≡ n * (a / n) + n = omega arith in omega arith
      | inr ge ↦ let h : n * (b / n) ≤ n * (a / n) = mul-le-mul_left n ge in omega arith
    ]

pub held-push : (n : ℕ) (cells : List ℕ) (read : ℕ) (q : List ℕ) (value : ℕ) → Held n cells read q
    → slice_index cells ((read + length q) % n) ≡ value → Held n cells read (q ++ value ∷ [])
held-push n cells read q value h last = record {
  each = λ k below. elim (cases_lt k (length q)) [
    | inl lt ↦ h.each k lt ∙ sym (get_or-append q (value ∷ []) 0 k lt)
    | inr ge ↦ let e : k ≡ length q = omega (arith, length-append q (value ∷ [])) in
        rw e (last ∙ sym (get_or-append_seam q value [] 0))
  ];
}

-- a store after the list leaves it
pub held-set : (n : ℕ) (cells : List ℕ) (read : ℕ) (q : List ℕ) (value : ℕ) → length q < n → Held n cells read q
    → Held n (set cells ((read + length q) % n) value) read q
held-set n cells read q value room h = record {
  each = λ k below. get_or-set_other cells ((read + length q) % n) ((read + k) % n) value 0
      (λ same. cells_apart (read + k) (read + length q) n (omega arith) (omega arith) same) ∙ h.each k below;
}

pub held-drop : (n : ℕ) (cells : List ℕ) (read : ℕ) (q : List ℕ) → Held n cells read q → Held n cells (read + 1) (drop 1 q)
held-drop n cells read [] h = record { each = λ k below. absurd (omega arith) }
held-drop n cells read (x ∷ q) h = record {
  each = λ k below. let e : read + 1 + k ≡ read + suc k = omega arith in rw e (h.each (suc k) (omega arith));
}

-- a store of a value after the list, and what its cell holds then
pub store_cell : (n : ℕ) (cells : List ℕ) (read : ℕ) (q : List ℕ) (write value : ℕ) → length cells ≡ n → write ≡ read + length q
    → length q < n → Held n cells read q → Held n (set cells (write % length cells) value) read q
    × (slice_index (set cells (write % length cells) value) (write % n) ≡ value)
store_cell n cells read q write value size is room h = (
  subst (λ (m : ℕ). Held n (set cells (write % m) value) read q) (sym size)
      (subst (λ (p : ℕ). Held n (set cells (p % n) value) read q) (sym is) (held-set n cells read q value room h)),
  subst (λ (m : ℕ). slice_index (set cells (write % m) value) (write % n) ≡ value) (sym size)
      (get_or-set_same cells (write % n) value 0 (let b : write % n < n = mod_below write n (omega arith) in omega arith)),
)

-- a position that is not the largest
pub successor_fits : (p : ℕ) → p + 1 < 2 ^ 64 → successor p ≡ p + 1
successor_fits p h = omega arith
