-- A cell of bytes that is stored and loaded one byte at a time.
use Rattle.std.specs.Prelude.{ℕ, ◌≡◌, ◌<◌, ◌==◌, List, [], ◌∷◌, length, take, Option, Some, None, unwrap_or, slice_index, slice_index_or}
use Rattle.std.specs.Prelude.{nat_lt, if◌then◌else◌}
use Rattle.std.specs.Option.{option_or}
use Rattle.iox_container.specs.declared.byte_cells.byte_machine.ByteStep.{ByteStep}
use Rattle.iox_container.specs.declared.byte_cells.byte_machine.ByteStep.TheVariants.{Store, Load}
use Rattle.iox_container.specs.declared.byte_cells.byte_machine.ByteAnswer.{ByteAnswer}
use Rattle.iox_container.specs.declared.byte_cells.byte_machine.ByteAnswer.TheVariants.{Stored, Loaded, Skipped}

-- The byte that the last store at a place wrote, if there is such a store.
abbrev pub last_store : ℕ → List ByteStep → Option ℕ
last_store place [] = None
last_store place (Load _ ∷ rest) = last_store place rest
last_store place (Store p byte ∷ rest) = option_or (last_store place rest) (if p == place then Some byte else None)

-- The byte at a place after these steps: the last one stored there, or the byte that was there before.
abbrev pub byte_after : List ℕ → List ByteStep → ℕ → ℕ
byte_after before steps place = unwrap_or (last_store place steps) (slice_index before place)

-- The answer to a step after others: a load returns the byte at its place, and a step at a place past the cell is skipped.
abbrev pub answer_after : List ℕ → List ByteStep → ByteStep → ByteAnswer
answer_after before steps (Store place byte) = if nat_lt place (length before) then Stored else Skipped
answer_after before steps (Load place) = if nat_lt place (length before) then Loaded (byte_after before steps place) else Skipped

-- A cell that held the bytes `before` holds `bytes` after these steps.
pub record HoldsAfter (before : List ℕ) (steps : List ByteStep) (bytes : List ℕ) : Type 0 where
  pub long : length bytes ≡ length before
  pub at : (place : ℕ) → place < length before → slice_index bytes place ≡ byte_after before steps place

-- Each answer is the answer to its step after the steps before it.
abbrev pub AnswersInTurn : List ℕ → List ByteStep → List ByteAnswer → Type 0
AnswersInTurn before steps answers =
    (length answers ≡ length steps) × ((k : ℕ) → k < length steps
    → slice_index_or answers k Skipped ≡ answer_after before (take k steps) (slice_index_or steps k (Load 0)))
