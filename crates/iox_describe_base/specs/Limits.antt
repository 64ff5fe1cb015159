-- The limits of texts.
use Rattle.std.specs.Prelude.{ℕ, ◌≤◌, List, length}
use Rattle.iox_container.specs.StringBytes.{IsStringBytes}

-- A text has `least` to `most` bytes, each in 1..=127.
abbrev pub IsText : ℕ → ℕ → List ℕ → Type 0
IsText least most bytes = (least ≤ length bytes) × (length bytes ≤ most) × IsStringBytes bytes
