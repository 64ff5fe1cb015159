-- Which bytes a string may hold.
use Rattle.std.specs.Prelude.{ℕ, ◌≤◌, List, All}

-- A byte that a string may hold is in 1..=127.
abbrev pub IsStringByte : ℕ → Type 0
IsStringByte b = (1 ≤ b) × (b ≤ 127)

-- Each byte is one that a string may hold.
abbrev pub IsStringBytes : List ℕ → Type 0
IsStringBytes bytes = All IsStringByte bytes
