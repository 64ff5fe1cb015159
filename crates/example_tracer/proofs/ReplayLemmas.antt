-- What one more row adds to a script.
use Rattle.std.proofs.Common.{◌≡◌, sym, refl, ap, ℕ, Bool, true, false, List, [], ◌∷◌, ◌++◌, map}
use Rattle.std.specs.List.{flat_map}
use Rattle.std.proofs.lemmas.List.{flat_map_more}
use Rattle.example_tracer.specs.Replay.{added, script_of}

-- whether there are no rows yet
abbrev pub none_yet : List (List (List ℕ)) → Bool
none_yet [] = true
none_yet (row ∷ rows) = false

pub one_more : (rows : List (List (List ℕ))) (row : List (List ℕ))
    → script_of (rows ++ row ∷ []) ≡ script_of rows ++ added (none_yet rows) row
one_more [] row = refl
one_more (header ∷ rows) row = sym (flat_map_more (added false) [] rows row)

pub no_longer : (rows : List (List (List ℕ))) (row : List (List ℕ)) → none_yet (rows ++ row ∷ []) ≡ false
no_longer [] row = refl
no_longer (header ∷ rows) row = refl

pub lines_again : (others : List ℕ → List (List ℕ)) (lines : List (List ℕ))
    → flat_map (added false) (map (λ line. line ∷ others line) lines) ≡ flat_map (λ line. line ++ 10 ∷ []) lines
lines_again others [] = refl
lines_again others (line ∷ lines) = ap (λ (text : List ℕ). (line ++ 10 ∷ []) ++ text) (lines_again others lines)
