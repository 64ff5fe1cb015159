-- Lengths in elements.
use Rattle.std.proofs.Common.{arith, ◌≡◌, ◌*◌, ◌<◌, ◌≤◌, ◌^◌, ◌↔◌, ℕ, max, None, Some, unwrap_or, sym, ap, nat_lt}
use Rattle.std.proofs.Math.Logic.{⊎_elim}
use Rattle.std.proofs.Math.Nat.{mul-le-mul_left, mul-le-mul_right, le_of_mul-le-mul_right}
use Rattle.std.proofs.lemmas.Bool.{cases_Bool}
use Rattle.std.proofs.lemmas.Option.{none-some}
use Rattle.iox_domain_values.proofs.Powers.{fits_one_segment}
use Rattle.iox_domain_values.specs.Segments.{SegmentLength}
use Rattle.iox_domain_values.specs.Sizes.{within}
use Rattle.iox_domain_values.specs.declared.data_segment.AllocationStrategy.{AllocationStrategy}
use Rattle.iox_domain_ports.specs.Lengths.{span, extent, SegmentRoom, CountsElements}

-- a number that is found within 2^32 - 1
within_is : (number found : ℕ) → Some found ≡ within number → (found ≡ number) × (found < 2 ^ 32)
within_is number found is = ⊎_elim
    (λ small. let same : Some found ≡ Some number = rw small at is in
    let equal : found ≡ number = ap (λ some. unwrap_or some 0) same in
    (equal, grind (arith, small, equal)))
    (λ large. let none : Some found ≡ None = rw large at is in absurd (none-some found (sym none)))
    (cases_Bool (nat_lt number 4294967296))

-- and one that isn't
past : (number : ℕ) → None ≡ within number → 2 ^ 32 ≤ number
past number is = ⊎_elim
    (λ small. let some : None ≡ Some number = rw small at is in absurd (none-some number some))
    (λ large. grind (arith, large))
    (cases_Bool (nat_lt number 4294967296))

-- more elements take more room
span_le : (unit one other : ℕ) → one ≤ other → span unit one ≤ span unit other
span_le unit one other le = mul-le-mul_right (max unit 1) le

-- elements have room for their values
values_le : (unit elements : ℕ) → elements * unit ≤ span unit elements
values_le unit elements = mul-le-mul_left {m = unit} {n = max unit 1} elements (omega arith)

-- what a loan takes of a segment that is opened for it
pub room_fits : (allocation : AllocationStrategy) (unit values elements room : ℕ)
    → SegmentRoom allocation unit values elements (Some room) → extent unit values elements ≤ room
room_fits allocation unit values elements room (None, is, found) = absurd (none-some room (sym found))
room_fits allocation unit values elements room (Some length, is, found) =
    omega (
      arith,
      (within_is (extent unit values length) room found).0,
      span_le unit elements length
          (fits_one_segment.fits allocation elements length is),
    )

fits : (unit elements length : ℕ) → (extent unit (elements * unit) elements ≤ span unit length) ↔ (elements ≤ length)
fits unit elements length = (
  λ le. le_of_mul-le-mul_right {m = elements} {n = length} {k = max unit 1} (omega (arith, le)) (omega arith),
  λ le. omega (arith, values_le unit elements, span_le unit elements length le),
)

opens : (allocation : AllocationStrategy) (unit elements room : ℕ) → SegmentRoom allocation unit (elements * unit) elements (Some room)
    → (length : ℕ) × SegmentLength allocation elements (Some length) × (room ≡ span unit length) × (room < 2 ^ 32)
opens allocation unit elements room (None, is, found) = absurd (none-some room (sym found))
opens allocation unit elements room (Some length, is, found) =
    let same = within_is (extent unit (elements * unit) length) room found in (
      length,
      is,
      omega (
        arith,
        same.0,
        values_le unit elements,
        span_le unit elements length
            (fits_one_segment.fits allocation elements length is),
      ),
      same.1,
    )

refuses : (allocation : AllocationStrategy) (unit elements : ℕ) → SegmentRoom allocation unit (elements * unit) elements None
    → (length : ℕ) → SegmentLength allocation elements (Some length) → 2 ^ 32 ≤ span unit length
refuses allocation unit elements (None, is, found) length some
    = absurd (none-some length (fits_one_segment.one allocation elements None (Some length) is some))
refuses allocation unit elements (Some other, is, found) length some =
    let same : other ≡ length = ap (λ o. unwrap_or o 0) (fits_one_segment.one allocation elements (Some other) (Some length) is some) in
    let large : 2 ^ 32 ≤ extent unit (elements * unit) length = rw same at (past (extent unit (elements * unit) other) found) in
    omega (arith, large, values_le unit elements, span_le unit elements length (fits_one_segment.fits allocation elements length some))

-- all of it
pub counts_elements : CountsElements
counts_elements = record { single = λ values. omega arith; fits = fits; opens = opens; refuses = refuses }
