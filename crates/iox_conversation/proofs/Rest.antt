-- What is left of bytes of which some are written.
use Rattle.std.proofs.Common.{◌≡◌, ℕ, ◌-◌, List, length, take, drop, arith, length-drop}
use Rattle.std.proofs.lemmas.List.{take_all}

-- what is left after the first bytes is all that is left
pub take-rest : (line : List ℕ) (i : ℕ) → take (length line - i) (drop i line) ≡ drop i line
take-rest line i = take_all (length line - i) (drop i line) (omega (arith, length-drop i line))
