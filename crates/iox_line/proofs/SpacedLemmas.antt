-- The words of a line, with spaces between them, are the line; and words with spaces between them have no other words.
use Rattle.std.proofs.lemmas.Grind.{common_steps}
use Rattle.std.proofs.Common.{arith, length, ◌+◌, ◌<◌, ◌≡◌, ℕ, ◌==◌, Bool, true, false, List, [], ◌∷◌, not, ◌&&◌, refl, cond, sym, ap}
use Rattle.std.proofs.Common.{◌∙◌, eqb-true}
use Rattle.std.specs.List.{join_with_byte}
use Rattle.iox_line.specs.Words.{lacks, before, beyond, no_words, words_of, pieces_of, pieces_left, onto_first}
use Rattle.iox_line.proofs.WordLemmas.{pieces_first, pieces_of-separated, pieces_of-alone}
use Rattle.iox_line.proofs.Shorthands.{AllLack, AreWords, spaced}

joined-onto : (sep b : ℕ) (w : List ℕ) (ws : List (List ℕ)) → join_with_byte sep ((b ∷ w) ∷ ws) ≡ b ∷ join_with_byte sep (w ∷ ws)
joined-onto sep b w [] = refl
joined-onto sep b w (v ∷ ws) = refl

-- a text has a first piece
pub pieces_some : (sep : ℕ) (text : List ℕ) → (w : List ℕ) × (ws : List (List ℕ)) × (pieces_of sep text ≡ w ∷ ws)
pieces_some sep text = (before sep text, pieces_left sep (beyond sep text), pieces_first sep text)

joined_at : (sep b : ℕ) (bs w : List ℕ) (ws : List (List ℕ)) (t : Bool) → (b == sep) ≡ t → pieces_of sep bs ≡ w ∷ ws
    → join_with_byte sep (pieces_of sep bs) ≡ bs
    → join_with_byte sep (cond t ([] ∷ pieces_of sep bs) (onto_first b (pieces_of sep bs))) ≡ b ∷ bs
joined_at sep b bs w ws true e h p =
    ap (λ l. join_with_byte sep ([] ∷ l)) h ∙ ap (λ l. sep ∷ join_with_byte sep l) (sym h) ∙ ap (λ l. sep ∷ l) p
    ∙ ap (λ x. x ∷ bs) (sym (eqb-true b sep e))
joined_at sep b bs w ws false e h p =
    ap (λ l. join_with_byte sep (onto_first b l)) h ∙ joined-onto sep b w ws ∙ ap (λ l. b ∷ join_with_byte sep l) (sym h)
    ∙ ap (λ l. b ∷ l) p

-- the pieces of a text, with separators between them, are the text
pub joined-pieces_of : (sep : ℕ) (text : List ℕ) → join_with_byte sep (pieces_of sep text) ≡ text
joined-pieces_of sep [] = refl
joined-pieces_of sep (b ∷ bs) = let r = pieces_some sep bs in joined_at sep b bs r.0 r.1 (b == sep) refl r.2 (joined-pieces_of sep bs)

-- the words of a line, with spaces between them, are the line
pub spaced-words_of : (line : List ℕ) → spaced (words_of line) ≡ line
spaced-words_of line = joined-pieces_of 32 line

both_lack : (sep b : ℕ) (w : List ℕ) → (b == sep) ≡ false → lacks sep w ≡ true → lacks sep (b ∷ w) ≡ true
both_lack sep b w e h = ap (λ t. not t && lacks sep w) e ∙ h

onto_lack : (sep b : ℕ) (ws : List (List ℕ)) → (b == sep) ≡ false → AllLack sep ws → AllLack sep (onto_first b ws)
onto_lack sep b [] e a = (both_lack sep b [] e refl, tt)
onto_lack sep b (w ∷ ws) e a = (both_lack sep b w e a.0, a.1)

lack_at : (sep b : ℕ) (bs : List ℕ) (t : Bool) → (b == sep) ≡ t → AllLack sep (pieces_of sep bs)
    → AllLack sep (cond t ([] ∷ pieces_of sep bs) (onto_first b (pieces_of sep bs)))
lack_at sep b bs true e a = (refl, a)
lack_at sep b bs false e a = onto_lack sep b (pieces_of sep bs) e a

-- no piece of a text has the separator
pub pieces_lack : (sep : ℕ) (text : List ℕ) → AllLack sep (pieces_of sep text)
pieces_lack sep [] = (refl, tt)
pieces_lack sep (b ∷ bs) = lack_at sep b bs (b == sep) refl (pieces_lack sep bs)

-- no word of a line has a space
pub are_words : (line : List ℕ) → AreWords (words_of line)
are_words line = pieces_lack 32 line

-- pieces with separators between them have these pieces
pub pieces_of-joined : (sep : ℕ) (w : List ℕ) (ws : List (List ℕ)) → AllLack sep (w ∷ ws)
    → pieces_of sep (join_with_byte sep (w ∷ ws)) ≡ w ∷ ws
pieces_of-joined sep w [] a = pieces_of-alone sep w a.0
pieces_of-joined sep w (v ∷ vs) a = pieces_of-separated sep w (join_with_byte sep (v ∷ vs)) a.0
    ∙ ap (λ l. w ∷ l) (pieces_of-joined sep v vs a.1)

-- words with spaces between them have these words
pub words_of-spaced : (w : List ℕ) (ws : List (List ℕ)) → AreWords (w ∷ ws) → words_of (spaced (w ∷ ws)) ≡ w ∷ ws
words_of-spaced w ws a = pieces_of-joined 32 w ws a

some_words : (ws : List (List ℕ)) → (v : List ℕ) × (vs : List (List ℕ)) × (ws ≡ v ∷ vs) → no_words ws ≡ false
some_words ws h = ap no_words h.2

-- what is left of a text has a word
pub text_has_words : (sep : ℕ) (text : List ℕ) → false ≡ no_words (pieces_of sep text)
text_has_words sep text = sym (some_words (pieces_of sep text) (pieces_some sep text))

-- after n words none is left exactly if there are n
pub so_many : (ws : List (List ℕ)) (n count : ℕ) → count + length ws ≡ n → no_words ws ≡ (n == count)
so_many [] n count h = let e : n ≡ count = omega (arith, h) in grind (arith, common_steps, e)
so_many (w ∷ ws) n count h = grind (arith, common_steps, h)

-- where none is left too early, there are fewer
pub too_few : (n counter count : ℕ) → counter + 0 ≡ n → counter < count → false ≡ (n == count)
too_few n counter count h l = grind (arith, common_steps, h, l)
