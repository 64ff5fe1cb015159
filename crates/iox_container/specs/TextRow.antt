-- How a text is stored in a row of cells: its bytes, followed by zeros.
use Rattle.std.specs.Prelude.{ℕ, ◌≡◌, ◌-◌, ◌≤◌, ◌++◌, List, length, take, drop, replicate}
use Rattle.std.proofs.Common.{arith, length-take-le, take-append-drop}
use Rattle.iox_container.specs.StringBytes.{IsStringBytes}

-- A row of `capacity` cells whose first `len` hold a text, and whose other cells are zero.
pub record IsTextRow (capacity len : ℕ) (cells : List ℕ) : Type 0 where
  pub within : len ≤ capacity
  pub full : length cells ≡ capacity
  pub zeros : drop len cells ≡ replicate (capacity - len) 0
  pub valid : IsStringBytes (take len cells)

-- The text that a row of cells stores has `len` bytes.
pub length-text : (capacity len : ℕ) (cells : List ℕ) → IsTextRow capacity len cells → length (take len cells) ≡ len
length-text capacity len cells row = length-take-le len cells (omega (arith, row.within, row.full))

-- The text followed by zeros is the row.
pub text_then_zeros : (capacity len : ℕ) (cells : List ℕ) → IsTextRow capacity len cells
    → take len cells ++ replicate (capacity - length (take len cells)) 0 ≡ cells
text_then_zeros capacity len cells row =
    rw (length-text capacity len cells row, ← row.zeros) (take-append-drop len cells)

-- A row of cells whose first `len` hold exactly this text.
pub record HoldsText (capacity len : ℕ) (text cells : List ℕ) : Type 0 where
  pub row : IsTextRow capacity len cells
  pub reads : take len cells ≡ text
