-- Rows of values, each with the same capacity.
use Rattle.std.specs.Prelude.{ℕ, ◌≤◌, List, [], ◌∷◌, get_or, set, take, drop}

-- Rows of at most `room` values.
pub record RowsState (T : Type 0) : Type 0 where
  pub room : ℕ
  pub rows : List (List T)

-- The values of a row.
abbrev pub row_at : {T : Type 0} → ℕ → RowsState T → List T
row_at row state = get_or state.rows row []

-- The rows with these values in this row.
abbrev pub with_row : {T : Type 0} → ℕ → List T → RowsState T → RowsState T
with_row row values state = record state { rows = set state.rows row values }

-- The rows of these lengths, which lie in one list of values: each row begins a block of `room` values.
abbrev pub rows_in : {T : Type 0} → ℕ → List ℕ → List T → List (List T)
rows_in room [] values = []
rows_in room (count ∷ lengths) values = take count values ∷ rows_in room lengths (drop room values)

-- Each length is at most `room`.
abbrev pub AllWithin : ℕ → List ℕ → Type 0
AllWithin room lengths = (place : ℕ) → get_or lengths place 0 ≤ room
