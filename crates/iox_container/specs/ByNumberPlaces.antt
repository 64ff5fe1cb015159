-- Places for consecutive numbers.
use Rattle.std.specs.Prelude.{ℕ, ◌+◌, List, [], ◌∷◌, Option, None, Some}

-- The values in a row of places with their numbers, where `first` is the number of the first place.
abbrev pub present : {V : Type 0} → ℕ → List (Option V) → List (ℕ × V)
present first [] = []
present first (None ∷ places) = present (first + 1) places
present first (Some value ∷ places) = (first, value) ∷ present (first + 1) places
