-- Which numbers are owner ids.
use Rattle.std.specs.Prelude.{ℕ, ◌<◌, ◌^◌}

-- An owner id is neither 0 nor in the upper half of the 64-bit numbers.
abbrev pub IsOwner : ℕ → Type 0
IsOwner value = (0 < value) × (value < 2 ^ 63)
