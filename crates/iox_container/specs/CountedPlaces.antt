-- A row of places: all places after the last one that was ever used are empty.
use Rattle.std.specs.Prelude.{ℕ, ◌-◌, List, ◌++◌, Option, None, is_some, not, length, replicate}
use Rattle.std.specs.List.{position, count_by}

-- These places, followed by empty ones up to `count` places.
abbrev pub padded : {C : Type 0} → ℕ → List (Option C) → List (Option C)
padded count places = places ++ replicate (count - length places) None

-- The lowest empty place, if there is one.
abbrev pub lowest_empty : {C : Type 0} → List (Option C) → Option ℕ
lowest_empty places = position (λ place. not (is_some place)) places

-- How many places are filled.
abbrev pub count_filled : {C : Type 0} → List (Option C) → ℕ
count_filled places = count_by is_some places
