-- Holders of indices, and the free indices after one another.
use Rattle.std.proofs.Common.{◌≡◌, ℕ, zero, suc, ◌+◌, ◌<◌, ◌≤◌, Bool, true, false, if◌then◌else◌, ◌==◌, Option, Some, None, List, [], ◌∷◌}
use Rattle.std.proofs.Common.{length, set, slice_index, refl, sym, ◌∙◌, ap, subst, arith, length-set}
use Rattle.std.proofs.Math.Seq.{get_or-set_same, get_or-set_other}
use Rattle.std.proofs.lemmas.Bool.{eqb-true, eqb-false, ne_eqb}
use Rattle.iox_index_steps.specs.Machine.{holder_of, is_holder}
use Rattle.iox_index_steps.specs.Kept.{LeadsThrough, count_taken, one_if_taken, times_among}
use Rattle.iox_index_steps.specs.Machine.{one_if_holder}

pub holder_here : (holders : List (Option ℕ)) (i : ℕ) (holder : Option ℕ) → i < length holders → holder_of (set holders i holder) i ≡ holder
holder_here holders i holder within = get_or-set_same holders i holder None within

pub holder_else : (holders : List (Option ℕ)) (i j : ℕ) (holder : Option ℕ) → (j ≡ i → ⊥)
    → holder_of (set holders i holder) j ≡ holder_of holders j
holder_else holders i j holder differs = get_or-set_other holders i j holder None differs

-- an index that is taken is one of the set
pub held_within : (holders : List (Option ℕ)) (i p : ℕ) → holder_of holders i ≡ Some p → i < length holders
held_within [] i p h = absurd (cc)
held_within (holder ∷ holders) zero p h = omega arith
held_within (holder ∷ holders) (suc i) p h = omega (arith, held_within holders i p h)

pub none_taken : (holder : Option ℕ) → one_if_taken holder ≡ 0 → holder ≡ None
none_taken None h = refl
none_taken (Some p) h = absurd (omega arith)

pub one_more : (holders : List (Option ℕ)) (i p : ℕ) → i < length holders → holder_of holders i ≡ None
    → count_taken (set holders i (Some p)) ≡ count_taken holders + 1
one_more [] i p within h = absurd (omega arith)
one_more (holder ∷ holders) zero p within h = let is : one_if_taken holder ≡ 0 = ap one_if_taken h in omega arith
one_more (holder ∷ holders) (suc i) p within h = omega (arith, one_more holders i p (omega arith) h)

pub one_fewer : (holders : List (Option ℕ)) (i p : ℕ) → holder_of holders i ≡ Some p
    → count_taken (set holders i None) + 1 ≡ count_taken holders
one_fewer [] i p h = absurd (cc)
one_fewer (holder ∷ holders) zero p h = let is : one_if_taken holder ≡ 1 = ap one_if_taken h in omega arith
one_fewer (holder ∷ holders) (suc i) p h = omega (arith, one_fewer holders i p h)

pub at_most_one : (holder : Option ℕ) → one_if_taken holder ≤ 1
at_most_one None = omega arith
at_most_one (Some p) = omega arith

pub at_most_all : (holders : List (Option ℕ)) → count_taken holders ≤ length holders
at_most_all [] = omega arith
at_most_all (holder ∷ holders) = omega (arith, at_most_one holder, at_most_all holders)

pub not_all : (holders : List (Option ℕ)) (i : ℕ) → i < length holders → holder_of holders i ≡ None → count_taken holders < length holders
not_all holders i within h
    = omega (arith, one_more holders i 0 within h, at_most_all (set holders i (Some 0)), length-set holders i (Some 0))

pub none_left : (holders : List (Option ℕ)) (i : ℕ) → count_taken holders ≡ 0 → one_if_taken (holder_of holders i) ≡ 0
none_left [] i h = refl
none_left (holder ∷ holders) zero h = omega arith
none_left (holder ∷ holders) (suc i) h = none_left holders i (omega arith)

-- where some are taken, one of them
pub some_taken : (holders : List (Option ℕ)) → 0 < count_taken holders → (i : ℕ) × (one_if_taken (holder_of holders i) ≡ 1)
some_taken [] h = absurd (omega arith)
some_taken (None ∷ holders) h = let rest : (i : ℕ)
    × (one_if_taken (holder_of holders i) ≡ 1) = some_taken holders (omega arith) in (suc rest.0, rest.1)
some_taken (Some p ∷ holders) h = (zero, refl)

pub holder_is : (holder : Option ℕ) (p : ℕ) → is_holder p holder ≡ true → holder ≡ Some p
holder_is None p h = absurd (cc)
holder_is (Some q) p h = ap (λ (q : ℕ). Some q) (eqb-true q p h)

pub is_holder_of : (p : ℕ) (holder : Option ℕ) → holder ≡ Some p → one_if_holder p holder ≡ 1
is_holder_of p None h = absurd (cc)
is_holder_of p (Some q) h = test (q == p) refl
  where
    test : (b : Bool) → (q == p) ≡ b → ◌≡◌ {A = ℕ} (if b then 1 else 0) 1
    test true e = refl
    test false e = absurd (eqb-false q p e (cc))

pub not_holder : (q p : ℕ) → (p ≡ q → ⊥) → one_if_holder q (Some p) ≡ 0
not_holder q p differs = ap (λ (b : Bool). if b then 1 else 0) (ne_eqb p q differs)

-- an index to which no index leads from here can be linked anew
pub leads_on : (n : ℕ) (cells : List ℕ) (from : ℕ) (free : List ℕ) (j v : ℕ) → times_among j free ≡ 0 → LeadsThrough n cells from free
    → LeadsThrough n (set cells j v) from free
leads_on n cells from [] j v none h = h
leads_on n cells from (i ∷ free) j v none h = test (i == j) refl none (λ fewer. leads_on n cells (slice_index cells i) free j v fewer h.2)
  where
    test : (b : Bool) → (i == j) ≡ b → (if b then 1 else 0) + times_among j free ≡ 0
        → (times_among j free ≡ 0 → LeadsThrough n (set cells j v) (slice_index cells i) free)
        → LeadsThrough n (set cells j v) from (i ∷ free)
    test true e none rest = absurd (omega arith)
    test false e none rest = (
      h.0,
      h.1,
      subst (λ (next : ℕ). LeadsThrough n (set cells j v) next free) (sym (get_or-set_other cells j i v 0 (eqb-false i j e)))
          (rest (omega arith)),
    )

pub leads_within : (n : ℕ) (cells : List ℕ) (from : ℕ) (free : List ℕ) → LeadsThrough n cells from free → from ≤ n
leads_within n cells from [] h = omega arith
leads_within n cells from (i ∷ free) h = omega (arith, h.0, h.1)

pub zero_if : (b : Bool) → ◌≡◌ {A = ℕ} (if b then 0 else 0) 0
zero_if true = refl
zero_if false = refl

-- what is counted of one index, where its holder changes so that the counts fit
pub moves_one : (f : Option ℕ → ℕ) (holders : List (Option ℕ)) (j i : ℕ) (x : Option ℕ) (a b : ℕ) → j < length holders
    → a + f (holder_of holders j) ≡ b + f x
    → (if j == i then a else 0) + f (holder_of holders i) ≡ (if j == i then b else 0) + f (holder_of (set holders j x) i)
moves_one f holders j i x a b within fit = test (j == i) refl
  where
    test : (t : Bool) → (j == i) ≡ t → (if t then a else 0) + f (holder_of holders i)
        ≡ (if t then b else 0) + f (holder_of (set holders j x) i)
    test true e =
        subst (λ (k : ℕ). a + f (holder_of holders k) ≡ b + f (holder_of (set holders j x) k)) (eqb-true j i e)
        (fit ∙ ap (λ (y : Option ℕ). b + f y) (sym (holder_here holders j x within)))
    test false e = ap (λ (y : Option ℕ). 0 + f y) (sym (holder_else holders j i x (λ same. eqb-false j i e (sym same))))
