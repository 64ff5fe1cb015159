-- The lengths of loans and segments. They are counted in elements, each of which has `unit` values.
use Rattle.std.specs.Prelude.{ℕ, ◌*◌, ◌^◌, ◌<◌, ◌≤◌, ◌≡◌, ◌↔◌, max, Option, None, Some}
use Rattle.iox_domain_values.specs.Segments.{SegmentLength}
use Rattle.iox_domain_values.specs.Sizes.{within}
use Rattle.iox_domain_values.specs.declared.data_segment.AllocationStrategy.{AllocationStrategy}

-- How many values these elements take memory for. An element without values takes as much as one value.
abbrev pub span : ℕ → ℕ → ℕ
span unit elements = elements * max unit 1

-- How many values a loan takes memory for: as many as its elements, and at least as many as it has.
abbrev pub extent : ℕ → ℕ → ℕ → ℕ
extent unit values elements = max values (span unit elements)

-- How many values fit into a slot of a new segment that is to hold `length` elements: at least as many as the loan has for which the
-- segment is opened. None if that is 2^32 or more.
abbrev pub room_for : ℕ → ℕ → Option ℕ → Option ℕ
room_for unit values None = None
room_for unit values (Some length) = within (extent unit values length)

-- How many values fit into a slot of the segment that a longer loan opens: enough for as many elements as the strategy says. None if
-- no segment is opened.
abbrev pub SegmentRoom : AllocationStrategy → ℕ → ℕ → ℕ → Option ℕ → Type 0
SegmentRoom allocation unit values elements room =
    (length : Option ℕ) × SegmentLength allocation elements length × (room ≡ room_for unit values length)

-- Lengths may be counted in elements instead of values, for a loan that has all values of its elements.
pub record CountsElements : Type 0 where
  -- A loan of elements with one value each is as long as it has values.
  pub single : (values : ℕ) → extent 1 values values ≡ values
  -- A loan fits into a slot with capacity for `length` elements exactly if it has at most `length` elements.
  pub fits : (unit elements length : ℕ) → (extent unit (elements * unit) elements ≤ span unit length) ↔ (elements ≤ length)
  -- A slot of a segment has capacity for just as many elements as the strategy says, and for fewer than 2^32 values.
  pub opens : (allocation : AllocationStrategy) (unit elements room : ℕ)
      → SegmentRoom allocation unit (elements * unit) elements (Some room)
      → (length : ℕ) × SegmentLength allocation elements (Some length) × (room ≡ span unit length) × (room < 2 ^ 32)
  -- No segment is opened exactly where the strategy opens none, or where its elements have 2^32 values or more.
  pub refuses : (allocation : AllocationStrategy) (unit elements : ℕ) → SegmentRoom allocation unit (elements * unit) elements None
      → (length : ℕ) → SegmentLength allocation elements (Some length) → 2 ^ 32 ≤ span unit length
