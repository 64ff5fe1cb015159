-- Which ports of a board in threads are missing.
use Rattle.std.specs.Prelude.{ℕ, ◌+◌, Bool, if◌then◌else◌, List, [], ◌∷◌}

-- Those of these numbers whose places have no port. The first number is that of `place`, and the others are those of the places after it.
abbrev pub missing : (ℕ → Bool) → ℕ → List ℕ → List ℕ
missing has place [] = []
missing has place (number ∷ numbers) = if has place then missing has (place + 1) numbers else number ∷ missing has (place + 1) numbers
