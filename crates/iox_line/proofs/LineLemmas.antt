-- A line is read as the command that it spells.
use Rattle.std.proofs.Common.{◌≡◌, ℕ, ◌+◌, ◌≤◌, ◌==◌, Bool, true, false, List, [], ◌∷◌, None, Some, cond, sym, ap, ◌∙◌, length, arith}
use Rattle.iox_command.specs.declared.command.Command.{Command}
use Rattle.iox_line.specs.Words.{words_of, onto_first}
use Rattle.iox_line.proofs.SpacedLemmas.{spaced-words_of, words_of-spaced, are_words}
use Rattle.iox_line.specs.Reading.{of_words}
use Rattle.iox_line.specs.Spelling.{Spells}
use Rattle.iox_line.proofs.ReadingLemmas.{words_sound, words_complete}
use Rattle.iox_line.proofs.Shorthands.{AreWords, spaced}

onto_length : (b : ℕ) (ws : List (List ℕ)) → length (onto_first b ws) ≤ 1 + length ws
onto_length b [] = omega arith
onto_length b (w ∷ ws) = omega arith

length_at : (b : ℕ) (bs : List ℕ) (t : Bool) → length (words_of bs) ≤ 1 + length bs
    → length (cond t ([] ∷ words_of bs) (onto_first b (words_of bs))) ≤ 1 + length (b ∷ bs)
length_at b bs true h = omega (arith, h)
length_at b bs false h = omega (arith, h, onto_length b (words_of bs))

-- a line has at most one word more than bytes
pub words_length : (line : List ℕ) → length (words_of line) ≤ 1 + length line
words_length [] = omega arith
words_length (b ∷ bs) = length_at b bs (b == 32) (words_length bs)

-- a line that is read as a command spells it
pub line_sound : (line : List ℕ) (c : Command ℕ) → of_words (words_of line) ≡ Some c → Spells line c
line_sound line c h =
    let s = words_sound (words_of line) c h in
    record { words = words_of line; fits = s.0; writes = s.1; are_words = are_words line; spaced_so = sym (spaced-words_of line) }

own_words : (ws : List (List ℕ)) (c : Command ℕ) → AreWords ws → of_words ws ≡ Some c → of_words (words_of (spaced ws)) ≡ Some c
own_words [] c a h = cc
own_words (w ∷ ws) c a h = ap of_words (words_of-spaced w ws a) ∙ h

-- a line that spells a command is read as it
pub line_complete : (line : List ℕ) (c : Command ℕ) → Spells line c → of_words (words_of line) ≡ Some c
line_complete line c s = ap (λ l. of_words (words_of l)) s.spaced_so ∙ own_words s.words c s.are_words
    (words_complete c s.words s.fits s.writes)

-- no line spells two commands
pub one_command : (line : List ℕ) (c d : Command ℕ) → Spells line c → Spells line d → c ≡ d
one_command line c d s t = let e : Some c ≡ Some d = sym (line_complete line c s) ∙ line_complete line d t in cc

-- a line that isn't read spells nothing
pub unread : (line : List ℕ) → of_words (words_of line) ≡ None → (c : Command ℕ) → Spells line c → ⊥
unread line h c s = let e : None ≡ Some c = sym h ∙ line_complete line c s in cc
