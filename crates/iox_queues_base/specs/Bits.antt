-- Sets of the numbers below a capacity, and a count for each such number.
use Rattle.std.specs.Prelude.{ℕ, zero, suc, ◌+◌, ◌<◌, ◌≤◌, ◌≡◌, ◌↔◌, Bool, true, false, if◌then◌else◌, List, ◌∷◌, [], length}
use Rattle.std.specs.Prelude.{slice_index_or, Contains}
use Rattle.std.specs.List.{AllPairs}
use Rattle.iox_queues_base.specs.declared.bits.BitState.{BitState}

-- A bit for each number below the capacity, and the number `next` at which the search for the next member begins.
pub record BitList : Type 0 where
  pub bits : List Bool
  pub next : ℕ

-- The members in rising order, where `bits` are the bits of the numbers from `from` on.
abbrev pub members_from : ℕ → List Bool → List ℕ
members_from from [] = []
members_from from (is_set ∷ bits) =
    if is_set then from ∷ members_from (from + 1) bits else members_from (from + 1) bits

-- The members in rising order.
abbrev pub members : List Bool → List ℕ
members bits = members_from 0 bits

-- The numbers are exactly the members, each once, in rising order.
pub record ListsMembers (bits : List Bool) (numbers : List ℕ) : Type 0 where
  pub exact : (i : ℕ) → Contains numbers i ↔ (slice_index_or bits i false ≡ true)
  pub rising : AllPairs (λ i j. i < j) numbers

-- No number at or above `from` and below `to` is a member.
abbrev pub AreClear : List Bool → ℕ → ℕ → Type 0
AreClear bits from to = (k : ℕ) → from ≤ k → k < to → slice_index_or bits k false ≡ false

-- `i` is the first member at or above `from`, wrapping around once.
pub record IsNext (bits : List Bool) (from : ℕ) (i : ℕ) : Type 0 where
  pub is_in : slice_index_or bits i false ≡ true
  pub ahead : from ≤ i → AreClear bits from i
  pub around : i < from → AreClear bits from (length bits)
  pub before : i < from → AreClear bits 0 i

-- The counts above 0 with their numbers, in rising order, where `counts` are the counts of the numbers from `from` on.
abbrev pub counted_from : ℕ → List ℕ → List BitState
counted_from from [] = []
counted_from from (zero ∷ counts) = counted_from (from + 1) counts
counted_from from (suc n ∷ counts) = record { bit = from; count = suc n } ∷ counted_from (from + 1) counts

-- The counts above 0 with their numbers, in rising order.
abbrev pub counted : List ℕ → List BitState
counted counts = counted_from 0 counts

-- The states are exactly the counts above 0 with their numbers, each number once, in rising order.
pub record ListsCounts (counts : List ℕ) (states : List BitState) : Type 0 where
  pub exact : (i n : ℕ) → Contains states (record { bit = i; count = n }) ↔ ((0 < n) × (slice_index_or counts i 0 ≡ n))
  pub rising : AllPairs (λ s t. s.bit < t.bit) states
