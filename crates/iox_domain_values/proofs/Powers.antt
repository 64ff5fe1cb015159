-- Powers of two, and the lengths of segments.
use Rattle.std.proofs.Common.{arith, ◌≡◌, ◌+◌, ◌<◌, ◌≤◌, ◌^◌, ◌∙◌, ℕ, suc, Option, None, Some, ◌⊎◌, inl, inr, unwrap_or, refl, sym, ap}
use Rattle.std.proofs.Common.{nat_lt}
use Rattle.std.proofs.Math.Logic.{⊎_elim}
use Rattle.std.proofs.Math.Nat.{pow-le-pow_right, one-le-pow}
use Rattle.std.proofs.lemmas.Bool.{cases_lt, cases_Bool}
use Rattle.std.proofs.lemmas.Option.{none-some}
use Rattle.std.specs.Int.{IsNextPowerOfTwo}
use Rattle.iox_domain_values.specs.Sizes.{within}
use Rattle.iox_domain_values.specs.Segments.{SegmentLength, FitsOneSegment}
use Rattle.iox_domain_values.specs.declared.data_segment.AllocationStrategy.{AllocationStrategy}
use Rattle.iox_domain_values.specs.declared.data_segment.AllocationStrategy.TheVariants as strategy

-- a power of two is positive
positive : (k : ℕ) → 1 ≤ 2 ^ k
positive k = one-le-pow k 2 (omega arith)

-- a power of two is at most another one, or at least twice as large
apart : (j k : ℕ) → (2 ^ j ≤ 2 ^ k) ⊎ (2 ^ k + 2 ^ k ≤ 2 ^ j)
apart j k = ⊎_elim
    (λ less. inr (omega (arith, pow-le-pow_right {n = 2} (omega arith) {i = suc k} {j = j} less)))
    (λ more. inl (pow-le-pow_right {n = 2} (omega arith) {i = j} {j = k} more))
    (cases_lt k j)

-- above 2^31 the next power of two is at least 2^32
pub next_past : (values power : ℕ) → 2147483648 < values → IsNextPowerOfTwo values power → 4294967296 ≤ power
next_past values power long next = ⊎_elim
    (λ few. absurd (omega (arith, long, next.1, next.0.1, few)))
    (λ many. omega (arith, next.0.1, many))
    (apart next.0.0 31)

-- of two next powers of two one isn't above the other
not_above : (values one other : ℕ) → IsNextPowerOfTwo values one → IsNextPowerOfTwo values other → one ≤ other
not_above values one other first second = ⊎_elim
    (λ few. omega (arith, few, first.0.1, second.0.1))
    (λ many. absurd (omega (arith, many, first.0.1, second.0.1, first.2, second.1, positive second.0.0)))
    (apart first.0.0 second.0.0)

-- there is one next power of two
only : (values one other : ℕ) → IsNextPowerOfTwo values one → IsNextPowerOfTwo values other → one ≡ other
only values one other first second = omega (arith, not_above values one other first second, not_above values other one second first)

-- a strategy takes one length
one_length : (allocation : AllocationStrategy) (values : ℕ) (one other : Option ℕ) → SegmentLength allocation values one
    → SegmentLength allocation values other → one ≡ other
one_length strategy.BestFit values one other first second = first ∙ sym second
one_length strategy.Static values one other first second = first ∙ sym second
one_length strategy.PowerOfTwo values None None first second = refl
one_length strategy.PowerOfTwo values None (Some other) first second = absurd (omega (arith, first other second.0, second.1))
one_length strategy.PowerOfTwo values (Some one) None first second = absurd (omega (arith, second one first.0, first.1))
one_length strategy.PowerOfTwo values (Some one) (Some other) first second = ap Some (only values one other first.0 second.0)

-- a number that is within 2^32 - 1
within_is : (values length : ℕ) → Some length ≡ within values → (length ≡ values) × (length < 2 ^ 32)
within_is values length is = ⊎_elim
    (λ small. let same : Some length ≡ Some values = rw small at is in
    let equal : length ≡ values = ap (λ some. unwrap_or some 0) same in
    (equal, grind (arith, small, equal)))
    (λ large. let none : Some length ≡ None = rw large at is in absurd (none-some length (sym none)))
    (cases_Bool (nat_lt values 4294967296))

-- a slice fits
fits : (allocation : AllocationStrategy) (values length : ℕ) → SegmentLength allocation values (Some length) → values ≤ length
fits strategy.BestFit values length is = omega (arith, (within_is values length is).0)
fits strategy.PowerOfTwo values length is = is.0.1
fits strategy.Static values length is = absurd (none-some length (sym is))

-- a length is below 2^32
most : (allocation : AllocationStrategy) (values length : ℕ) → SegmentLength allocation values (Some length) → length < 2 ^ 32
most strategy.BestFit values length is = (within_is values length is).1
most strategy.PowerOfTwo values length is = is.1
most strategy.Static values length is = absurd (none-some length (sym is))

-- all of it
pub fits_one_segment : FitsOneSegment
fits_one_segment = record {
  one = one_length;
  fits = fits;
  least = λ values length some is. omega (arith, some, is.0.2);
  most = most;
}
