use Rattle.std.proofs.Common.{ℕ, zero, suc, ◌≡◌, ◌⊎◌, inl, inr, ◌+◌, ◌<◌, ◌≤◌, List, [], ◌∷◌, ◌++◌, length, arith, refl, sym, ap, ◌∙◌}
use Rattle.std.proofs.Common.{subst}
use Rattle.std.proofs.lemmas.Bool.{cases_eq}
use Rattle.std.proofs.lemmas.Bool.Decides.{nat_tests}
use Rattle.std.specs.List.{range_with_len}
use Rattle.iox_container.specs.SlotTable.{Among, Distinct, without}

-- what `without` does at one key, by whether it is the key
pub without_here : (key k : ℕ) (ks : List ℕ) → key ≡ k → without key (k ∷ ks) ≡ without key ks
without_here key k ks e = grind (arith, nat_tests)

pub without_there : (key k : ℕ) (ks : List ℕ) → (key ≡ k → ⊥) → without key (k ∷ ks) ≡ k ∷ without key ks
without_there key k ks e = grind (arith, nat_tests)

-- a list that lacks the key stays
pub without_absent : (key : ℕ) (ks : List ℕ) → (Among key ks → ⊥) → without key ks ≡ ks
without_absent key [] absent = refl
without_absent key (k ∷ ks) absent =
    without_there key k ks (λ e. absent (inl e)) ∙ ap (λ rest. k ∷ rest) (without_absent key ks (λ there. absent (inr there)))

-- the first of distinct keys goes
pub without_first : (k : ℕ) (ks : List ℕ) → Distinct (k ∷ ks) → without k (k ∷ ks) ≡ ks
without_first k ks distinct = without_here k k ks refl ∙ without_absent k ks distinct.0

-- the keys of the list without one
pub Among-without : (key k : ℕ) (ks : List ℕ) → Among k (without key ks) → Among k ks × (k ≡ key → ⊥)
Among-without key k [] there = absurd there
Among-without key k (x ∷ xs) there =
    elim (cases_eq key x) as (λ _. Among k (x ∷ xs) × (k ≡ key → ⊥)) [
      | inl e ↦ let A : List ℕ → Type 0 = λ ys. Among k ys in
          let rest : Among k xs × (k ≡ key → ⊥) = Among-without key k xs (subst A (without_here key x xs e) there) in
          (inr rest.0, rest.1)
      | inr n ↦ let A : List ℕ → Type 0 = λ ys. Among k ys in
          elim (subst A (without_there key x xs n) there) as (λ _. Among k (x ∷ xs) × (k ≡ key → ⊥)) [
            | inl e ↦ (inl e, λ f. n (sym f ∙ e))
            | inr later ↦ let rest : Among k xs × (k ≡ key → ⊥) = Among-without key k xs later in (inr rest.0, rest.1)
          ]
    ]

pub Among-kept : (key k : ℕ) (ks : List ℕ) → Among k ks → (k ≡ key → ⊥) → Among k (without key ks)
Among-kept key k [] there other = absurd there
Among-kept key k (x ∷ xs) there other =
    let A : List ℕ → Type 0 = λ ys. Among k ys in
    elim (cases_eq key x) as (λ _. Among k (without key (x ∷ xs))) [
      | inl e ↦ subst A (sym (without_here key x xs e)) (elim there as (λ _. Among k (without key xs)) [
        | inl f ↦ absurd (other (f ∙ sym e))
        | inr later ↦ Among-kept key k xs later other
      ])
      | inr n ↦ subst A (sym (without_there key x xs n)) (elim there as (λ _. Among k (x ∷ without key xs)) [
        | inl f ↦ inl f
        | inr later ↦ inr (Among-kept key k xs later other)
      ])
    ]

pub Distinct-without : (key : ℕ) (ks : List ℕ) → Distinct ks → Distinct (without key ks)
Distinct-without key [] distinct = tt
Distinct-without key (x ∷ xs) distinct =
    elim (cases_eq key x) as (λ _. Distinct (without key (x ∷ xs))) [
      | inl e ↦ subst Distinct (sym (without_here key x xs e)) (Distinct-without key xs distinct.1)
      | inr n ↦ subst Distinct (sym (without_there key x xs n))
          (λ there. distinct.0 (Among-without key x xs there).0, Distinct-without key xs distinct.1)
    ]

pub length-without : (key : ℕ) (ks : List ℕ) → Distinct ks → Among key ks → length (without key ks) + 1 ≡ length ks
length-without key [] distinct there = absurd there
length-without key (x ∷ xs) distinct there =
    elim (cases_eq key x) as (λ _. length (without key (x ∷ xs)) + 1 ≡ length (x ∷ xs)) [
      | inl e ↦ let lacks : Among key xs → ⊥ = λ h. let A : ℕ → Type 0 = λ y. Among y xs in distinct.0 (subst A e h) in
          omega (arith, ap length (without_here key x xs e ∙ without_absent key xs lacks))
      | inr n ↦ let later : Among key xs = elim there as (λ _. Among key xs) [ inl e ↦ absurd (n e) | inr h ↦ h ] in
          omega (arith, ap length (without_there key x xs n), length-without key xs distinct.1 later)
    ]

-- the keys of a range
pub Among-range : (from count key : ℕ) → Among key (range_with_len from count) → (from ≤ key) × (key < from + count)
Among-range from zero key there = absurd there
Among-range from (suc count) key there =
    elim there as (λ _. (from ≤ key) × (key < from + suc count)) [
      | inl e ↦ (omega arith, omega arith)
      | inr later ↦ let rest : (from + 1 ≤ key) × (key < from + 1 + count) = Among-range (from + 1) count key later in
          (omega arith, omega arith)
    ]

pub Among-in_range : (from count key : ℕ) → from ≤ key → key < from + count → Among key (range_with_len from count)
Among-in_range from zero key above below = absurd (omega arith)
Among-in_range from (suc count) key above below =
    elim (cases_eq key from) as (λ _. Among key (range_with_len from (suc count))) [
      | inl e ↦ inl e
      | inr n ↦ inr (Among-in_range (from + 1) count key (omega arith) (omega arith))
    ]

pub Distinct-range : (from count : ℕ) → Distinct (range_with_len from count)
Distinct-range from zero = tt
Distinct-range from (suc count) = (
  λ there. let rest : (from + 1 ≤ from)
      × (from < from + 1 + count) = Among-range (from + 1) count from there in absurd (omega (arith, rest.0)),
  Distinct-range (from + 1) count,
)

-- the keys of one list after another
pub Among-append : (key : ℕ) (xs ys : List ℕ) → Among key (xs ++ ys) → Among key xs ⊎ Among key ys
Among-append key [] ys there = inr there
Among-append key (x ∷ xs) ys there =
    elim there as (λ _. Among key (x ∷ xs) ⊎ Among key ys) [
      | inl e ↦ inl (inl e)
      | inr later ↦ elim (Among-append key xs ys later) as (λ _. Among key (x ∷ xs) ⊎ Among key ys) [
        | inl h ↦ inl (inr h)
        | inr h ↦ inr h
      ]
    ]

pub Among-left : (key : ℕ) (xs ys : List ℕ) → Among key xs → Among key (xs ++ ys)
Among-left key [] ys there = absurd there
Among-left key (x ∷ xs) ys there =
    elim there as (λ _. Among key (x ∷ xs ++ ys)) [
      | inl e ↦ inl e
      | inr later ↦ inr (Among-left key xs ys later)
    ]

pub Among-right : (key : ℕ) (xs ys : List ℕ) → Among key ys → Among key (xs ++ ys)
Among-right key [] ys there = there
Among-right key (x ∷ xs) ys there = inr (Among-right key xs ys there)

-- a further key after others
pub Distinct-push : (key : ℕ) (ks : List ℕ) → Distinct ks → (Among key ks → ⊥) → Distinct (ks ++ key ∷ [])
Distinct-push key [] distinct fresh = (λ there. there, tt)
Distinct-push key (k ∷ ks) distinct fresh = (
  λ there. elim (Among-append k ks (key ∷ []) there) as (λ _. ⊥) [
    | inl h ↦ distinct.0 h
    | inr h ↦ elim h as (λ _. ⊥) [ inl e ↦ fresh (inl (sym e)) | inr gone ↦ gone ]
  ],
  Distinct-push key ks distinct.1 (λ there. fresh (inr there)),
)

-- one list after another without a key that the second lacks
pub without-append : (key : ℕ) (xs ys : List ℕ) → (Among key ys → ⊥) → without key (xs ++ ys) ≡ without key xs ++ ys
without-append key [] ys absent = without_absent key ys absent
without-append key (x ∷ xs) ys absent =
    elim (cases_eq key x) as (λ _. without key (x ∷ xs ++ ys) ≡ without key (x ∷ xs) ++ ys) [
      | inl e ↦ without_here key x (xs ++ ys) e ∙ without-append key xs ys absent ∙ ap (λ rest. rest ++ ys) (sym (without_here key x xs e))
      | inr n ↦ without_there key x (xs ++ ys) n ∙ ap (λ rest. x ∷ rest) (without-append key xs ys absent) ∙ ap (λ rest. rest ++ ys)
          (sym (without_there key x xs n))
    ]
