-- How often a list contains a slot, when the list changes.
use Rattle.std.proofs.Common.{arith, ◌≡◌, ◌+◌, ◌-◌, ◌<◌, ◌≤◌, ◌∷◌, [], ◌++◌, ℕ, Bool, true, false, cond, List, length, get_or, set, zero}
use Rattle.std.proofs.Common.{suc, refl, ◌∙◌}
use Rattle.std.proofs.Math.Logic.{⊎_elim}
use Rattle.std.proofs.lemmas.Bool.Decides.{eqb_tells}
use Rattle.std.proofs.Math.Dec.{eqb}
use Rattle.std.proofs.lemmas.List.{get_or-set_same, get_or-set_other}
use Rattle.std.proofs.lemmas.List.Sums.{sum_by-append, sum_by-cons}
use Rattle.iox_domain_slots.specs.Counting.{times}

-- what one slot adds to the count of another
abbrev pub one : ℕ → ℕ → ℕ
one slot other = cond (eqb slot other) 1 0

pub times_append : (slot : ℕ) (xs ys : List ℕ) → times slot (xs ++ ys) ≡ times slot xs + times slot ys
times_append slot xs ys = sum_by-append (λ other. cond (eqb slot other) 1 0) xs ys

pub times_cons : (slot x : ℕ) (xs : List ℕ) → times slot (x ∷ xs) ≡ one slot x + times slot xs
times_cons slot x xs = sum_by-cons (λ other. cond (eqb slot other) 1 0) x xs

pub times_one : (slot x : ℕ) → times slot (x ∷ []) ≡ one slot x
times_one slot x = omega (arith, times_cons slot x [])

pub times_end : (slot : ℕ) (xs : List ℕ) (x : ℕ) → times slot (xs ++ x ∷ []) ≡ times slot xs + one slot x
times_end slot xs x = omega (arith, times_append slot xs (x ∷ []), times_one slot x)

-- a count above 0 is that of a slot in range
pub within : (counts : List ℕ) (slot : ℕ) → 0 < get_or counts slot 0 → slot < length counts
within [] slot used = absurd (omega (arith, used))
within (x ∷ xs) zero used = omega arith
within (x ∷ xs) (suc slot) used = omega (arith, within xs slot used)

pub one_more : (counts : List ℕ) (i slot : ℕ) → 0 < get_or counts i 0
    → get_or (set counts i (get_or counts i 0 + 1)) slot 0 ≡ get_or counts slot 0 + one slot i
one_more counts i slot used = ⊎_elim
    (λ same. rw same.0 (rw same.1 (get_or-set_same counts i (get_or counts i 0 + 1) 0 (within counts i used))))
    (λ other. rw other.0 (get_or-set_other counts i slot (get_or counts i 0 + 1) 0 other.1 ∙ omega arith))
    (eqb_tells slot i)

pub one_less : (counts : List ℕ) (i slot : ℕ) → 0 < get_or counts i 0
    → get_or (set counts i (get_or counts i 0 - 1)) slot 0 + one slot i ≡ get_or counts slot 0
one_less counts i slot used = ⊎_elim
    (λ same. rw same.0 (rw same.1 (omega (arith, used, get_or-set_same counts i (get_or counts i 0 - 1) 0 (within counts i used)))))
    (λ other. rw other.0 (omega (arith, get_or-set_other counts i slot (get_or counts i 0 - 1) 0 other.1)))
    (eqb_tells slot i)

-- a slot adds one to its own count
pub one_same : (slot : ℕ) → one slot slot ≡ 1
one_same slot = ⊎_elim (λ same. rw same.0 refl) (λ other. absurd (other.1 refl)) (eqb_tells slot slot)

pub one_at_most : (slot other : ℕ) → one slot other ≤ 1
one_at_most slot other = at (eqb slot other)
  where
    at : (b : Bool) → cond b 1 0 ≤ 1
    at true = omega arith
    at false = omega arith

pub one_other : (slot other : ℕ) → eqb slot other ≡ false → one slot other ≡ 0
one_other slot other apart = rw apart refl
