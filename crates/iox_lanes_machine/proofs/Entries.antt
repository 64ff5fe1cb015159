-- One value for each slot of a publisher, and a row of them for each connection.
use Rattle.std.proofs.Common.{ℕ, zero, suc, ◌≡◌, ◌+◌, ◌-◌, ◌*◌, ◌/◌, ◌%◌, ◌<◌, ◌≤◌, Bool, true, false, nat_lt, if◌then◌else◌, List, []}
use Rattle.std.proofs.Common.{◌∷◌, ◌++◌, length, set, get_or, replicate, refl, sym, ◌∙◌, ap, subst, inl, inr, arith, length-set}
use Rattle.std.proofs.lemmas.Bool.{cases_lt, lt-ltb, le-ltb}
use Rattle.std.proofs.lemmas.List.{get_or_past, get_or-set_same, get_or-set_other, get_or-replicate, length-replicate}
use Rattle.std.proofs.lemmas.Nat.{div-mul-add, mod-mul-add, row_fits}
use Rattle.iox_lanes_parties.specs.PublisherKeeping.{put_at}
use Rattle.iox_lanes_machine.specs.LedgerUses.{one_if, count, total, entry, refers}

pub choose_one : {X : Type 0} (test : Bool) (x y : X) → test ≡ true → (if test then x else y) ≡ x
choose_one true x y h = refl
choose_one false x y h = absurd (cc)

pub choose_other : {X : Type 0} (test : Bool) (x y : X) → test ≡ false → (if test then x else y) ≡ y
choose_other true x y h = absurd (cc)
choose_other false x y h = refl

-- how often a number stands in two lists, one after the other
pub count_append : (value : ℕ) (xs ys : List ℕ) → count value (xs ++ ys) ≡ count value xs + count value ys
count_append value [] ys = omega arith
count_append value (x ∷ xs) ys = omega (arith, count_append value xs ys)

pub one_if_le : (b : Bool) → one_if b ≤ 1
one_if_le true = omega arith
one_if_le false = omega arith

-- sums over places
pub total_same : (f g : ℕ → Bool) (n : ℕ) → ((k : ℕ) → f k ≡ g k) → total f n ≡ total g n
total_same f g zero h = refl
total_same f g (suc n) h = omega (arith, total_same f g n h, ap one_if (h n))

total_below : (f g : ℕ → Bool) (p n : ℕ) → n ≤ p → ((k : ℕ) → (k ≡ p → ⊥) → g k ≡ f k) → total g n ≡ total f n
total_below f g p zero le h = refl
total_below f g p (suc n) le h =
    let not : n ≡ p → ⊥ = λ e. absurd (omega (arith, e, le)) in
    omega (arith, total_below f g p n (omega (arith, le)) h, ap one_if (h n not))

-- one place more
pub total_more : (f g : ℕ → Bool) (p n : ℕ) → p < n → f p ≡ false → g p ≡ true → ((k : ℕ) → (k ≡ p → ⊥) → g k ≡ f k)
    → total g n ≡ total f n + 1
total_more f g p zero below off on h = absurd (omega (arith, below))
total_more f g p (suc n) below off on h = elim (cases_lt p n) [
  | inl lt ↦
      let not : n ≡ p → ⊥ = λ e. absurd (omega (arith, e, lt)) in
      omega (arith, total_more f g p n lt off on h, ap one_if (h n not))
  | inr ge ↦
      let e : n ≡ p = omega (arith, below, ge) in
      omega (
        arith,
        total_below f g p n (omega (arith, e)) h,
        ap (λ (k : ℕ). one_if (f k)) e,
        ap (λ (k : ℕ). one_if (g k)) e,
        ap one_if
            off,
        ap one_if on,
      )
]

pub total_le : (f : ℕ → Bool) (n : ℕ) → total f n ≤ n
total_le f zero = omega arith
total_le f (suc n) = omega (arith, total_le f n, one_if_le (f n))

pub total_none : (f : ℕ → Bool) (n k : ℕ) → total f n ≡ 0 → k < n → f k ≡ false
total_none f zero k none below = absurd (omega (arith, below))
total_none f (suc n) k none below = elim (cases_lt k n) [
  | inl lt ↦ total_none f n k (omega (arith, none)) lt
  | inr ge ↦ let e : n ≡ k = omega (arith, below, ge) in subst (λ (j : ℕ). f j ≡ false) e (off (f n) (omega (arith, none)))
]
  where
    off : (b : Bool) → one_if b ≡ 0 → b ≡ false
    off true h = absurd (omega (arith, h))
    off false h = refl

-- another value of a list
pub put_at_is : {X : Type 0} (xs : List X) (at : ℕ) (x : X) → at < length xs → put_at xs at x ≡ set xs at x
put_at_is xs at x below = choose_one (nat_lt at (length xs)) (set xs at x) xs (lt-ltb at (length xs) below)

pub put_at_length : {X : Type 0} (xs : List X) (at : ℕ) (x : X) → length (put_at xs at x) ≡ length xs
put_at_length {X} xs at x = by_test (nat_lt at (length xs))
  where
    by_test : (b : Bool) → length (if b then set xs at x else xs) ≡ length xs
    by_test true = length-set xs at x
    by_test false = refl

pub put_at_other : {X : Type 0} (xs : List X) (at k : ℕ) (x d : X) → (k ≡ at → ⊥) → get_or (put_at xs at x) k d ≡ get_or xs k d
put_at_other {X} xs at k x d not = by_test (nat_lt at (length xs))
  where
    by_test : (b : Bool) → get_or (if b then set xs at x else xs) k d ≡ get_or xs k d
    by_test true = get_or-set_other xs at k x d not
    by_test false = refl

pub put_at_same : {X : Type 0} (xs : List X) (at : ℕ) (x d : X) → at < length xs → get_or (put_at xs at x) at d ≡ x
put_at_same {X} xs at x d below = ap (λ (ys : List X). get_or ys at d) (put_at_is xs at x below) ∙ get_or-set_same xs at x d below

pub entry_is : {X : Type 0} (first slot : ℕ) (xs : List X) (d : X) → first ≤ slot → entry first xs slot d ≡ get_or xs (slot - first) d
entry_is first slot xs d le = choose_other (nat_lt slot first) d (get_or xs (slot - first) d) (le-ltb slot first le)

pub entry_before : {X : Type 0} (first slot : ℕ) (xs : List X) (d : X) → slot < first → entry first xs slot d ≡ d
entry_before first slot xs d lt = choose_one (nat_lt slot first) d (get_or xs (slot - first) d) (lt-ltb slot first lt)

pub entry_same : {X : Type 0} (first slot : ℕ) (xs : List X) (x d : X) → first ≤ slot → slot < first + length xs
    → entry first (put_at xs (slot - first) x) slot d ≡ x
entry_same first slot xs x d le below =
    let within : slot - first < length xs = omega (arith, le, below) in
    entry_is first slot (put_at xs (slot - first) x) d le ∙ put_at_same xs (slot - first) x d within

pub entry_other : {X : Type 0} (first slot other : ℕ) (xs : List X) (x d : X) → first ≤ slot → (slot ≡ other → ⊥)
    → entry first (put_at xs (slot - first) x) other d ≡ entry first xs other d
entry_other first slot other xs x d le not = elim (cases_lt other first) [
  | inl lt ↦ entry_before first other (put_at xs (slot - first) x) d lt ∙ sym (entry_before first other xs d lt)
  | inr ge ↦
      let apart : other - first ≡ slot - first → ⊥ = λ e. absurd (not (omega (arith, e, le, ge))) in
      entry_is first other (put_at xs (slot - first) x) d ge ∙ put_at_other xs (slot - first) (other - first) x d apart ∙ sym
      (entry_is first other xs d ge)
]

-- a slot of which the list says something is one of the publisher's
pub entry_own : {X : Type 0} (first slot : ℕ) (xs : List X) (d : X) → (entry first xs slot d ≡ d → ⊥) → (first ≤ slot)
    × (slot < first + length xs)
entry_own first slot xs d not = elim (cases_lt slot first) [
  | inl lt ↦ absurd (not (entry_before first slot xs d lt))
  | inr ge ↦ elim (cases_lt (slot - first) (length xs)) [
    | inl lt ↦ (ge, omega (arith, ge, lt))
    | inr past ↦ absurd (not (entry_is first slot xs d ge ∙ get_or_past xs (slot - first) d past))
  ]
]

-- rows of a rectangle
row_same : (width p q i j : ℕ) → i < width → j < width → p * width + i ≡ q * width + j → (p ≡ q) × (i ≡ j)
row_same width p q i j il jl e = (
  sym (div-mul-add p width i il) ∙ ap (λ (n : ℕ). n / width) e ∙ div-mul-add q width j jl,
  sym (mod-mul-add p width i il) ∙ ap (λ (n : ℕ). n % width) e ∙ mod-mul-add q width j jl,
)

pub refers_is : (first width : ℕ) (referred : List Bool) (place slot : ℕ) → first ≤ slot → slot < first + width
    → refers first width referred place slot ≡ get_or referred (place * width + (slot - first)) false
refers_is first width referred place slot le below =
    let within : slot - first < width = omega (arith, le, below) in
    choose_other (nat_lt slot first) false
    (if nat_lt (slot - first) width then get_or referred (place * width + (slot - first)) false else false) (le-ltb slot first le)
    ∙ choose_one (nat_lt (slot - first) width) (get_or referred (place * width + (slot - first)) false) false
    (lt-ltb (slot - first) width within)

pub refers_own : (first width : ℕ) (referred : List Bool) (place slot : ℕ) → refers first width referred place slot ≡ true
    → (first ≤ slot) × (slot < first + width)
refers_own first width referred place slot on = elim (cases_lt slot first) [
  | inl lt ↦ absurd (cc (sym on ∙ choose_one (nat_lt slot first) false
      (if nat_lt (slot - first) width then get_or referred (place * width + (slot - first)) false else false) (lt-ltb slot first lt)))
  | inr ge ↦ elim (cases_lt (slot - first) width) [
    | inl lt ↦ (ge, omega (arith, ge, lt))
    | inr past ↦ absurd (cc (sym on ∙ choose_other (nat_lt slot first) false
        (if nat_lt (slot - first) width then get_or referred (place * width + (slot - first)) false else false) (le-ltb slot first ge)
        ∙ choose_other (nat_lt (slot - first) width) (get_or referred (place * width + (slot - first)) false) false
        (le-ltb (slot - first) width past)))
  ]
]

-- a place of the record
pub row_place : (first width connections place slot : ℕ) → first ≤ slot → slot < first + width → place < connections
    → place * width + (slot - first) < connections * width
row_place first width connections place slot le below there =
    omega (arith, row_fits place width connections width there (omega arith), le, below)

pub refers_same : (first width : ℕ) (referred : List Bool) (place slot : ℕ) (b : Bool) → first ≤ slot → slot < first + width
    → place * width + (slot - first) < length referred
    → refers first width (put_at referred (place * width + (slot - first)) b) place slot ≡ b
refers_same first width referred place slot b le below within =
    refers_is first width (put_at referred (place * width + (slot - first)) b) place slot le below ∙ put_at_same referred
    (place * width + (slot - first)) b false within

pub refers_other : (first width : ℕ) (referred : List Bool) (place slot place' slot' : ℕ) (b : Bool) → first ≤ slot
    → slot < first + width → ((place' ≡ place) × (slot' ≡ slot) → ⊥)
    → refers first width (put_at referred (place * width + (slot - first)) b) place' slot' ≡ refers first width referred place' slot'
refers_other first width referred place slot place' slot' b le below not = elim (cases_lt slot' first) [
  | inl lt ↦ choose_one (nat_lt slot' first) false _ (lt-ltb slot' first lt) ∙ sym
      (choose_one (nat_lt slot' first) false _ (lt-ltb slot' first lt))
  | inr ge ↦ elim (cases_lt (slot' - first) width) [
    | inl lt ↦
        let below' : slot' < first + width = omega (arith, ge, lt) in
        let within : slot - first < width = omega (arith, le, below) in
        let apart : place' * width + (slot' - first) ≡ place * width + (slot - first) → ⊥ =
        λ e. let both = row_same width place' place (slot' - first) (slot - first) lt within e in not
        (both.0, omega (arith, both.1, le, ge)) in
        refers_is first width (put_at referred (place * width + (slot - first)) b) place' slot' ge below'
        ∙ put_at_other referred (place * width + (slot - first)) (place' * width + (slot' - first)) b false apart
        ∙ sym (refers_is first width referred place' slot' ge below')
    | inr past ↦
        choose_other (nat_lt slot' first) false _ (le-ltb slot' first ge) ∙ choose_other (nat_lt (slot' - first) width) _ false
        (le-ltb (slot' - first) width past)
        ∙ sym (choose_other (nat_lt slot' first) false _ (le-ltb slot' first ge) ∙ choose_other (nat_lt (slot' - first) width) _ false
        (le-ltb (slot' - first) width past))
  ]
]

-- a list of one value
pub get_replicated : {X : Type 0} (n k : ℕ) (x : X) → get_or (replicate n x) k x ≡ x
get_replicated {X} n k x = elim (cases_lt k n) [
  | inl lt ↦ get_or-replicate n k x x lt
  | inr ge ↦ get_or_past (replicate n x) k x (omega (arith, ge, length-replicate {A = X} n x))
]

pub entry_none : {X : Type 0} (first n slot : ℕ) (x : X) → entry first (replicate n x) slot x ≡ x
entry_none {X} first n slot x = by_test (nat_lt slot first)
  where
    by_test : (b : Bool) → (if b then x else get_or (replicate n x) (slot - first) x) ≡ x
    by_test true = refl
    by_test false = get_replicated n (slot - first) x

pub refers_none : (first width n place slot : ℕ) → refers first width (replicate n false) place slot ≡ false
refers_none first width n place slot = by_tests (nat_lt slot first) (nat_lt (slot - first) width)
  where
    by_tests : (a b : Bool) → (if a then false else if b then get_or (replicate n false) (place * width + (slot - first)) false else
        false) ≡ false
    by_tests true b = refl
    by_tests false true = get_replicated n (place * width + (slot - first)) false
    by_tests false false = refl

pub total_zero : (f : ℕ → Bool) (n : ℕ) → ((k : ℕ) → f k ≡ false) → total f n ≡ 0
total_zero f zero h = refl
total_zero f (suc n) h = omega (arith, total_zero f n h, ap one_if (h n))
