-- Sums over places, and how often the numbers of a range stand in a list.
use Rattle.std.proofs.Common.{ℕ, zero, suc, ◌≡◌, ◌+◌, ◌-◌, ◌<◌, ◌≤◌, ◌==◌, Bool, List, [], ◌∷◌, length, refl, sym, ap, inl, inr, arith}
use Rattle.std.proofs.lemmas.Bool.{cases_lt}
use Rattle.std.proofs.lemmas.Bool.Decides.{eqb_tells}
use Rattle.iox_lanes_machine.specs.LedgerUses.{one_if, count, total}

-- a sum over the first places
abbrev pub sum : (ℕ → ℕ) → ℕ → ℕ
sum f zero = 0
sum f (suc places) = sum f places + f places

pub total_is : (f : ℕ → Bool) (n : ℕ) → total f n ≡ sum (λ k. one_if (f k)) n
total_is f zero = refl
total_is f (suc n) = omega (arith, total_is f n)

pub sum_same : (f g : ℕ → ℕ) (n : ℕ) → ((k : ℕ) → k < n → f k ≡ g k) → sum f n ≡ sum g n
sum_same f g zero h = refl
sum_same f g (suc n) h = omega (arith, sum_same f g n (λ k lt. h k (omega (arith, lt))), h n (omega arith))

pub sum_le : (f g : ℕ → ℕ) (n : ℕ) → ((k : ℕ) → k < n → f k ≤ g k) → sum f n ≤ sum g n
sum_le f g zero h = omega arith
sum_le f g (suc n) h = omega (arith, sum_le f g n (λ k lt. h k (omega (arith, lt))), h n (omega arith))

pub sum_plus : (f g : ℕ → ℕ) (n : ℕ) → sum (λ k. f k + g k) n ≡ sum f n + sum g n
sum_plus f g zero = refl
sum_plus f g (suc n) = omega (arith, sum_plus f g n)

pub sum_none : (f : ℕ → ℕ) (n : ℕ) → ((k : ℕ) → k < n → f k ≡ 0) → sum f n ≡ 0
sum_none f zero h = refl
sum_none f (suc n) h = omega (arith, sum_none f n (λ k lt. h k (omega (arith, lt))), h n (omega arith))

-- a sum over a window is no larger than that over all
pub sum_window : (f : ℕ → ℕ) (first n : ℕ) → sum (λ k. f (first + k)) n ≤ sum f (first + n)
sum_window f first zero = omega arith
sum_window f first (suc n) =
    let e : first + suc n ≡ suc (first + n) = omega arith in
    omega (arith, sum_window f first n, ap (sum f) e)

pub sum_more : (f : ℕ → ℕ) (n more : ℕ) → sum f n ≤ sum f (n + more)
sum_more f n zero =
    let e : n + zero ≡ n = omega arith in
    omega (arith, ap (sum f) e)
sum_more f n (suc more) =
    let e : n + suc more ≡ suc (n + more) = omega arith in
    omega (arith, sum_more f n more, ap (sum f) e)

pub sum_within : (f : ℕ → ℕ) (first n all : ℕ) → first + n ≤ all → sum (λ k. f (first + k)) n ≤ sum f all
sum_within f first n all le =
    let e : first + n + (all - (first + n)) ≡ all = omega (arith, le) in
    omega (arith, sum_window f first n, sum_more f (first + n) (all - (first + n)), ap (sum f) e)

-- one place has all of it
pub sum_at : (f : ℕ → ℕ) (n k : ℕ) → k < n → f k ≤ sum f n
sum_at f zero k lt = absurd (omega (arith, lt))
sum_at f (suc n) k lt = elim (cases_lt k n) [
  | inl below ↦ omega (arith, sum_at f n k below)
  | inr past ↦ let e : n ≡ k = omega (arith, lt, past) in omega (arith, ap f e)
]

-- a number stands at most once in a range
apart : (x y : ℕ) → (x ≡ y → ⊥) → one_if (x == y) ≡ 0
apart x y not = elim (eqb_tells x y) [
  | inl same ↦ absurd (not same.1)
  | inr other ↦ ap one_if other.0
]

same_one : (x y : ℕ) → x ≡ y → one_if (x == y) ≡ 1
same_one x y is = elim (eqb_tells x y) [
  | inl same ↦ ap one_if same.0
  | inr other ↦ absurd (other.1 is)
]

point_above : (x first n : ℕ) → first + n ≤ x → sum (λ k. one_if (x == first + k)) n ≡ 0
point_above x first n above = sum_none (λ k. one_if (x == first + k)) n
    (λ k lt. apart x (first + k) (λ e. absurd (omega (arith, above, lt, e))))

pub sum_point : (x first n : ℕ) → first ≤ x → x < first + n → sum (λ k. one_if (x == first + k)) n ≡ 1
sum_point x first zero above below = absurd (omega (arith, above, below))
sum_point x first (suc n) above below = elim (cases_lt x (first + n)) [
  | inl lt ↦ omega (arith, sum_point x first n above lt, apart x (first + n) (λ e. absurd (omega (arith, lt, e))))
  | inr past ↦ omega (arith, point_above x first n past, same_one x (first + n) (omega (arith, past, below)))
]

sum_point_le : (x first n : ℕ) → sum (λ k. one_if (x == first + k)) n ≤ 1
sum_point_le x first n = elim (cases_lt x first) [
  | inl lt ↦ omega (arith, sum_none (λ k. one_if (x == first + k)) n (λ k below. apart x (first + k) (λ e. absurd (omega (arith, lt, e)))))
  | inr ge ↦ elim (cases_lt x (first + n)) [
    | inl below ↦ omega (arith, sum_point x first n ge below)
    | inr past ↦ omega (arith, point_above x first n past)
  ]
]

-- the numbers of a range stand in a list at most as often as it is long
pub sum_count_le : (first n : ℕ) (xs : List ℕ) → sum (λ k. count (first + k) xs) n ≤ length xs
sum_count_le first n [] = omega (arith, sum_none (λ k. count (first + k) []) n (λ k lt. refl))
sum_count_le first n (x ∷ xs) =
    omega (arith, sum_plus (λ k. one_if (x == first + k)) (λ k. count (first + k) xs) n, sum_point_le x first n, sum_count_le first n xs)

one_here : (x : ℕ) (xs : List ℕ) → 0 < count x (x ∷ xs)
one_here x xs = omega (arith, same_one x x refl)

-- just as often, if they are all that stands there
pub sum_count : (first n : ℕ) (xs : List ℕ) → ((x : ℕ) → 0 < count x xs → (first ≤ x) × (x < first + n))
    → sum (λ k. count (first + k) xs) n ≡ length xs
sum_count first n [] h = omega (arith, sum_none (λ k. count (first + k) []) n (λ k lt. refl))
sum_count first n (x ∷ xs) h =
    let own = h x (one_here x xs) in
    omega (
      arith,
      sum_plus (λ k. one_if (x == first + k)) (λ k. count (first + k) xs) n,
      sum_point x first n own.0 own.1,
      sum_count first n xs (λ y some. h y (omega (arith, some))),
    )

-- sums over rows and columns
pub sum_turned : (f : ℕ → ℕ → ℕ) (n m : ℕ) → sum (λ i. sum (λ j. f i j) m) n ≡ sum (λ j. sum (λ i. f i j) n) m
sum_turned f zero m = sym (sum_none (λ j. sum (λ i. f i j) zero) m (λ k lt. refl))
sum_turned f (suc n) m = omega (arith, sum_turned f n m, sum_plus (λ j. sum (λ i. f i j) n) (λ j. f n j) m)

pub sum_most : (f : ℕ → ℕ) (n most : ℕ) → ((k : ℕ) → k < n → f k ≤ most) → sum f n ≤ sum (λ k. most) n
sum_most f n most h = sum_le f (λ k. most) n h
