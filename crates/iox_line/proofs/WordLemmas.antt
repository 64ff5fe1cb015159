-- What a word without a space is in its line, and that numbers only grow with more digits.
use Rattle.std.proofs.Common.{eq-eqb, eqb-true, Bool, Option, ◌&&◌, ◌≡◌, ℕ, ◌+◌, ◌-◌, ◌*◌, ◌^◌, ◌≤◌, ◌==◌, true, false, not, List, []}
use Rattle.std.proofs.Common.{◌∷◌, ◌++◌, None, Some, refl, arith, cond, ◌<◌, length, take, drop, get_or, sym, ap, ◌∙◌, suc, add-one}
use Rattle.std.proofs.Common.{take-append-drop, drop-cons, length-drop}
use Rattle.std.proofs.lemmas.List.{take_all, drop_all}
use Rattle.std.proofs.lemmas.Grind.{common_steps}
use Rattle.iox_line.specs.Words.{lacks, pieces_of, pieces_left, onto_first, before, beyond}
use Rattle.iox_line.specs.Numbers.{is_digit, digits_from, below_limit}

-- two parts with a separator between them, or the first alone
abbrev pub whole : ℕ → List ℕ → Option (List ℕ) → List ℕ
whole sep xs None = xs
whole sep xs (Some ys) = xs ++ sep ∷ ys

onto_whole : (sep b : ℕ) (xs : List ℕ) (o : Option (List ℕ)) → b ∷ whole sep xs o ≡ whole sep (b ∷ xs) o
onto_whole sep b xs None = refl
onto_whole sep b xs (Some ys) = refl

same : (n : ℕ) → (n == n) ≡ true
same n = eq-eqb n n refl

other_at : (sep x : ℕ) (xs : List ℕ) (t : Bool) → (not t && lacks sep xs) ≡ true → (t ≡ false) × (lacks sep xs ≡ true)
other_at sep x xs true h = cc
other_at sep x xs false h = (refl, h)

-- a byte that isn't the one that a text lacks, and the rest of the text
pub other : (sep x : ℕ) (xs : List ℕ) → lacks sep (x ∷ xs) ≡ true → ((x == sep) ≡ false) × (lacks sep xs ≡ true)
other sep x xs h = other_at sep x xs (x == sep) h

-- what stands before the first separator
pub before-separated : (sep : ℕ) (xs ys : List ℕ) → lacks sep xs ≡ true → before sep (xs ++ sep ∷ ys) ≡ xs
before-separated sep [] ys h = ap (λ t. cond t [] (sep ∷ before sep ys)) (same sep)
before-separated sep (x ∷ xs) ys h =
    let o = other sep x xs h in
    ap (λ t. cond t [] (x ∷ before sep (xs ++ sep ∷ ys))) o.0 ∙ ap (λ l. x ∷ l) (before-separated sep xs ys o.1)

-- what stands after it
pub beyond-separated : (sep : ℕ) (xs ys : List ℕ) → lacks sep xs ≡ true → beyond sep (xs ++ sep ∷ ys) ≡ Some ys
beyond-separated sep [] ys h = ap (λ t. cond t (Some ys) (beyond sep ys)) (same sep)
beyond-separated sep (x ∷ xs) ys h =
    let o = other sep x xs h in
    ap (λ t. cond t (Some (xs ++ sep ∷ ys)) (beyond sep (xs ++ sep ∷ ys))) o.0 ∙ beyond-separated sep xs ys o.1

-- where there is none, all stands before it
pub before-alone : (sep : ℕ) (xs : List ℕ) → lacks sep xs ≡ true → before sep xs ≡ xs
before-alone sep [] h = refl
before-alone sep (x ∷ xs) h = let o
    = other sep x xs h in ap (λ t. cond t [] (x ∷ before sep xs)) o.0 ∙ ap (λ l. x ∷ l) (before-alone sep xs o.1)

-- and nothing after it
pub beyond-alone : (sep : ℕ) (xs : List ℕ) → lacks sep xs ≡ true → beyond sep xs ≡ None
beyond-alone sep [] h = refl
beyond-alone sep (x ∷ xs) h = let o = other sep x xs h in ap (λ t. cond t (Some xs) (beyond sep xs)) o.0 ∙ beyond-alone sep xs o.1

first_at : (sep b : ℕ) (bs : List ℕ) (t : Bool) → pieces_of sep bs ≡ before sep bs ∷ pieces_left sep (beyond sep bs)
    → cond t ([] ∷ pieces_of sep bs) (onto_first b (pieces_of sep bs)) ≡ cond t [] (b ∷ before sep bs)
    ∷ pieces_left sep (cond t (Some bs) (beyond sep bs))
first_at sep b bs true h = refl
first_at sep b bs false h = ap (λ l. onto_first b l) h

-- the first piece is what stands before the first separator, and the others are those of what stands after it
pub pieces_first : (sep : ℕ) (text : List ℕ) → pieces_of sep text ≡ before sep text ∷ pieces_left sep (beyond sep text)
pieces_first sep [] = refl
pieces_first sep (b ∷ bs) = first_at sep b bs (b == sep) (pieces_first sep bs)

-- a word before a separator is the first word
pub pieces_of-separated : (sep : ℕ) (xs ys : List ℕ) → lacks sep xs ≡ true → pieces_of sep (xs ++ sep ∷ ys) ≡ xs ∷ pieces_of sep ys
pieces_of-separated sep xs ys h =
    pieces_first sep (xs ++ sep ∷ ys) ∙ ap (λ x. x ∷ pieces_left sep (beyond sep (xs ++ sep ∷ ys))) (before-separated sep xs ys h)
    ∙ ap (λ o. xs ∷ pieces_left sep o) (beyond-separated sep xs ys h)

-- bytes with no separator are one word
pub pieces_of-alone : (sep : ℕ) (xs : List ℕ) → lacks sep xs ≡ true → pieces_of sep xs ≡ xs ∷ []
pieces_of-alone sep xs h =
    pieces_first sep xs ∙ ap (λ x. x ∷ pieces_left sep (beyond sep xs)) (before-alone sep xs h) ∙ ap (λ o. xs ∷ pieces_left sep o)
    (beyond-alone sep xs h)

lacks_at : (sep b : ℕ) (bs : List ℕ) (t : Bool) → (b == sep) ≡ t → lacks sep (before sep bs) ≡ true
    → lacks sep (cond t [] (b ∷ before sep bs)) ≡ true
lacks_at sep b bs true e h = refl
lacks_at sep b bs false e h = ap (λ x. not x && lacks sep (before sep bs)) e ∙ h

-- no separator stands before the first
pub before_lacks : (sep : ℕ) (text : List ℕ) → lacks sep (before sep text) ≡ true
before_lacks sep [] = refl
before_lacks sep (b ∷ bs) = lacks_at sep b bs (b == sep) refl (before_lacks sep bs)

joined_at : (sep b : ℕ) (bs : List ℕ) (t : Bool) → (b == sep) ≡ t → bs ≡ whole sep (before sep bs) (beyond sep bs)
    → b ∷ bs ≡ whole sep (cond t [] (b ∷ before sep bs)) (cond t (Some bs) (beyond sep bs))
joined_at sep b bs true e h = ap (λ x. x ∷ bs) (eqb-true b sep e)
joined_at sep b bs false e h = ap (λ l. b ∷ l) h ∙ onto_whole sep b (before sep bs) (beyond sep bs)

-- a text is what stands before its first separator, and then the separator and what stands after it, if there is one
pub whole_text : (sep : ℕ) (text : List ℕ) → text ≡ whole sep (before sep text) (beyond sep text)
whole_text sep [] = refl
whole_text sep (b ∷ bs) = joined_at sep b bs (b == sep) refl (whole_text sep bs)

-- a number that is too large stays so with more digits
pub below_limit-too_large : (front : ℕ) (bs : List ℕ) → 2 ^ 64 ≤ front → below_limit (digits_from front bs) ≡ None
below_limit-too_large front [] h = grind (arith, common_steps)
below_limit-too_large front (b ∷ bs) h
    = elim (is_digit b) as (λ t. below_limit (cond t (digits_from (front * 10 + (b - 48)) bs) None) ≡ None)
    [ true ↦ below_limit-too_large (front * 10 + (b - 48)) bs (omega arith) | false ↦ refl ]

-- a text whose first separator is at i is cut there
pub cut_there : (sep : ℕ) (text : List ℕ) (i : ℕ) → i < length text → get_or text i 0 ≡ sep → lacks sep (take i text) ≡ true
    → (take i text ≡ before sep text) × (Some (drop (i + 1) text) ≡ beyond sep text)
cut_there sep text i within here none =
    let rest = rw (here, ← add-one i) at (drop-cons text i 0 within) in
    let parts : take i text ++ sep ∷ drop (i + 1) text ≡ text = ap (λ l. take i text ++ l) (sym rest) ∙ take-append-drop i text in (
      sym (before-separated sep (take i text) (drop (i + 1) text) none) ∙ ap (λ l. before sep l) parts,
      sym
          (beyond-separated sep (take i text) (drop (i + 1) text) none) ∙ ap (λ l. beyond sep l) parts,
    )

-- and so are its pieces
pub pieces_cut : (sep : ℕ) (text : List ℕ) (i : ℕ) → i < length text → get_or text i 0 ≡ sep → lacks sep (take i text) ≡ true
    → pieces_of sep text ≡ take i text ∷ pieces_of sep (drop (i + 1) text)
pieces_cut sep text i within here none =
    let cut = cut_there sep text i within here none in
    pieces_first sep text ∙ ap (λ x. x ∷ pieces_left sep (beyond sep text)) (sym cut.0) ∙ ap (λ o. take i text ∷ pieces_left sep o)
    (sym cut.1)

-- what is left after the first bytes is all that is left
pub take-rest : (line : List ℕ) (i : ℕ) → take (length line - i) (drop i line) ≡ drop i line
take-rest line i = take_all (length line - i) (drop i line) (omega (arith, length-drop i line))

-- digits that were read to their end spell what was counted
pub below_limit-whole : (word : List ℕ) (i front : ℕ) → length word ≤ i → digits_from 0 word ≡ digits_from front (drop i word)
    → front < 2 ^ 64 → Some front ≡ below_limit (digits_from 0 word)
below_limit-whole word i front end so_far small = rw (so_far, drop_all i word end) (grind (arith, common_steps))
