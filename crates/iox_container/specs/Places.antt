-- A row of places: all places after the last one that was ever used are empty.
use Rattle.std.specs.Prelude.{ℕ, ◌-◌, List, ◌++◌, Option, None, length, replicate}

-- These places, followed by empty ones up to `count` places.
abbrev pub padded : {T : Type 0} → ℕ → List (Option T) → List (Option T)
padded count places = places ++ replicate (count - length places) None
