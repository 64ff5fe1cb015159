-- How long loans may be in the segment that a longer slice opens.
use Rattle.std.specs.Prelude.{ℕ, ◌+◌, ◌^◌, ◌<◌, ◌≤◌, ◌≡◌, Option, None, Some}
use Rattle.std.specs.Int.{IsNextPowerOfTwo}
use Rattle.iox_domain_values.specs.Sizes.{within}
use Rattle.iox_domain_values.specs.declared.data_segment.AllocationStrategy.{AllocationStrategy}
use Rattle.iox_domain_values.specs.declared.data_segment.AllocationStrategy.TheVariants as strategy

-- How many values fit into a slot of the segment that a longer slice opens: just as many as the slice has (`BestFit`), or the
-- least power of two that is at least as many (`PowerOfTwo`). No segment is opened for 2^32 values or more, and none with
-- `Static`.
abbrev pub SegmentLength : AllocationStrategy → ℕ → Option ℕ → Type 0
SegmentLength strategy.BestFit values length = length ≡ within values
SegmentLength strategy.PowerOfTwo values None = (power : ℕ) → IsNextPowerOfTwo values power → 2 ^ 32 ≤ power
SegmentLength strategy.PowerOfTwo values (Some length) = IsNextPowerOfTwo values length × (length < 2 ^ 32)
SegmentLength strategy.Static values length = length ≡ None

-- A strategy has just one length for each slice, the slice fits there, the length is below 2^32, and a power of two is less
-- than twice as long as the slice.
pub record FitsOneSegment : Type 0 where
  pub one : (allocation : AllocationStrategy) (values : ℕ) (one other : Option ℕ) → SegmentLength allocation values one
      → SegmentLength allocation values other → one ≡ other
  pub fits : (allocation : AllocationStrategy) (values length : ℕ) → SegmentLength allocation values (Some length) → values ≤ length
  pub least : (values length : ℕ) → 0 < values → SegmentLength strategy.PowerOfTwo values (Some length) → length < values + values
  pub most : (allocation : AllocationStrategy) (values length : ℕ) → SegmentLength allocation values (Some length) → length < 2 ^ 32
