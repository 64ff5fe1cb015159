-- How a text is changed and searched, and what a change returns.
use Rattle.std.specs.Prelude.{ℕ, ◌≡◌, ◌+◌, ◌<◌, ◌≤◌, ◌++◌, ◌↔◌, List, length, take, drop, Result, Err, IsOk, Option, MatchOption}
use Rattle.iox_container.specs.declared.string.error.StringModificationError.{StringModificationError}
use Rattle.iox_container.specs.declared.string.error.StringModificationError.TheVariants.{InsertWouldExceedCapacity, InvalidCharacter}
use Rattle.iox_container.specs.StringBytes.{IsStringBytes}

-- The text with the bytes from `from` up to `to` replaced by other bytes.
abbrev pub range_replaced : List ℕ → ℕ → ℕ → List ℕ → List ℕ
range_replaced text from to bytes = take from text ++ (bytes ++ drop to text)

-- The text with bytes inserted before the byte at `idx`.
abbrev pub bytes_inserted : List ℕ → ℕ → List ℕ → List ℕ
bytes_inserted text idx bytes = take idx text ++ (bytes ++ drop idx text)

-- The answer to an insertion of bytes: the capacity is tested first, then the bytes.
pub record AnswersInsertion (capacity : ℕ) (text bytes : List ℕ) (answer : Result (Unit {0}) StringModificationError) : Type 0 where
  pub accepted : IsOk answer ↔ ((length text + length bytes ≤ capacity) × IsStringBytes bytes)
  pub too_long : (answer ≡ Err InsertWouldExceedCapacity) ↔ (capacity < length text + length bytes)
  pub invalid : (answer ≡ Err InvalidCharacter) ↔ ((length text + length bytes ≤ capacity) × ¬ IsStringBytes bytes)

-- The pattern occurs in the text at position `k`.
pub record OccursAt (text pattern : List ℕ) (k : ℕ) : Type 0 where
  pub fits : k + length pattern ≤ length text
  pub same : take (length pattern) (drop k text) ≡ pattern

-- The answer is the first position at which the pattern occurs, or `None` if it doesn't occur.
abbrev pub FindsFirst : List ℕ → List ℕ → Option ℕ → Type 0
FindsFirst text pattern answer =
    MatchOption answer ((k : ℕ) → ¬ OccursAt text pattern k) (λ i. OccursAt text pattern i × ((k : ℕ) → k < i → ¬ OccursAt text pattern k))

-- The answer is the last position at which the pattern occurs, or `None` if it doesn't occur.
abbrev pub FindsLast : List ℕ → List ℕ → Option ℕ → Type 0
FindsLast text pattern answer =
    MatchOption answer ((k : ℕ) → ¬ OccursAt text pattern k) (λ i. OccursAt text pattern i × ((k : ℕ) → i < k → ¬ OccursAt text pattern k))
