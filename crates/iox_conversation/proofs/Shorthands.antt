-- Names for parts of definitions: lines up to the end of the input, and those that newlines end.
use Rattle.std.specs.Prelude.{ℕ, true, false, List, [], ◌∷◌}
use Rattle.iox_conversation.specs.Lines.{heard_whole, lines_in}

-- a byte stands before the first of the pieces
abbrev pub onto_first : ℕ → List (List ℕ) → List (List ℕ)
onto_first b [] = (b ∷ []) ∷ []
onto_first b (piece ∷ pieces) = (b ∷ piece) ∷ pieces

-- a byte stands before the first of the pieces, if there is any
abbrev pub before_first_of : ℕ → List (List ℕ) → List (List ℕ)
before_first_of b [] = []
before_first_of b (piece ∷ pieces) = (b ∷ piece) ∷ pieces

-- the bytes before each newline; a last line without one counts if it isn't empty
abbrev pub lines_of : List ℕ → List (List ℕ)
lines_of input = lines_in true input

-- the bytes before each newline, and nothing of what stands after the last
abbrev pub ended_lines_of : List ℕ → List (List ℕ)
ended_lines_of input = lines_in false input

-- what is heard of all lines
abbrev pub heard : List ℕ → List (List ℕ)
heard input = heard_whole true input
