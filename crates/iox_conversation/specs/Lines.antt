-- The lines of the input.
use Rattle.std.specs.Prelude.{ℕ, ◌==◌, Bool, List, [], ◌∷◌, map, take, if◌then◌else◌}

-- The lines of the input: the bytes before each newline; and those after the last newline, if there are any and the input ended.
abbrev pub lines_in : Bool → List ℕ → List (List ℕ)
lines_in ended [] = []
lines_in ended (b ∷ bs) =
    if b == 10 then [] ∷ lines_in ended bs else elim (lines_in ended bs) [
      | [] ↦ if ended then (b ∷ []) ∷ [] else []
      | line ∷ lines ↦ (b ∷ line) ∷ lines
    ]

-- What is heard of the lines that were read whole: of each line that a newline ends, and, at the end of the input, also of the last line.
-- Only the first 1,025 bytes of a line are heard, since a longer line is too long whatever follows.
abbrev pub heard_whole : Bool → List ℕ → List (List ℕ)
heard_whole ended read = map (λ line. take 1025 line) (lines_in ended read)
