-- What a change of a vector returns, and which items a callback makes.
use Rattle.std.specs.Prelude.{ℕ, ◌≡◌, ◌≢◌, ◌+◌, ◌<◌, ◌≤◌, ◌↔◌, List, [], ◌∷◌, ◌++◌, drop, length, Result, Err, IsOk}
use Rattle.std.specs.List.{FoldsTo, refill}
use Rattle.std.proofs.lemmas.List.{take_at}
use Rattle.iox_container.specs.declared.vector.error.VectorModificationError.{VectorModificationError}
use Rattle.iox_container.specs.declared.vector.error.VectorModificationError.TheVariants.{InsertWouldExceedCapacity, OutOfBounds}

-- The answer to a change that would leave `len` items.
pub record AnswersGrowth (capacity len : ℕ) (answer : Result (Unit {0}) VectorModificationError) : Type 0 where
  pub accepted : IsOk answer ↔ (len ≤ capacity)
  pub too_long : (answer ≡ Err InsertWouldExceedCapacity) ↔ (capacity < len)

-- The answer to a change that would leave `len` items, some of them clones, for which memory may run out.
pub record AnswersClones (capacity len : ℕ) (answer : Result (Unit {0}) VectorModificationError) : Type 0 where
  pub accepted : IsOk answer → len ≤ capacity
  pub too_long : (answer ≡ Err InsertWouldExceedCapacity) ↔ (capacity < len)
  pub in_bounds : answer ≢ Err OutOfBounds

-- The answer to an insertion at `index`: the capacity is tested first, then the index.
pub record AnswersInsertionAt (capacity len index : ℕ) (answer : Result (Unit {0}) VectorModificationError) : Type 0 where
  pub accepted : IsOk answer ↔ ((len < capacity) × (index ≤ len))
  pub too_long : (answer ≡ Err InsertWouldExceedCapacity) ↔ (capacity < len + 1)
  pub out_of_bounds : (answer ≡ Err OutOfBounds) ↔ ((len < capacity) × (len < index))

-- The items are those that were kept, followed by those that the callback made, one in each call; `after` is its state after exactly
-- these calls.
abbrev pub AppendsMade : {F X : Type 0} → (F → X → F → Type 0) → F → List X → List X → F → Type 0
AppendsMade {F} {X} step first kept items after = (made : List X) × (items ≡ kept ++ made) × FoldsTo step first made after

-- The items are what the callback returns for the numbers `at`, `at + 1` and so on, one call after another.
abbrev pub MakesInTurn : {F X : Type 0} → (F → ℕ → X → F → Type 0) → F → ℕ → List X → F → Type 0
MakesInTurn step first at [] last = first ≡ last
MakesInTurn {F} step first at (x ∷ xs) last = (next : F) × step first at x next × MakesInTurn step next (at + 1) xs last

-- Overwriting all items of a list by as many others gives those others.
pub refill_same : {X : Type 0} (xs ws : List X) → length ws ≡ length xs → refill (length xs) xs ws ≡ ws
refill_same xs ws same = take_at ws (drop (length ws) xs) (length xs) same
