-- A number at the front of a text is read with its word.
use Rattle.std.proofs.Common.{◌≡◌, ℕ, ◌+◌, ◌-◌, ◌*◌, ◌^◌, ◌==◌, ◌<◌, ◌≤◌, Bool, true, false, List, [], ◌∷◌}
use Rattle.std.proofs.Common.{Option, None, Some, refl, cond, sym}
use Rattle.std.proofs.Common.{ap, ◌∙◌, arith, rules, length, suc, nat_lt, get_or, drop, drop-cons}
use Rattle.std.proofs.lemmas.Grind.{common_steps}
use Rattle.std.specs.Option.{option_map}
use Rattle.iox_line.specs.Numbers.{is_digit, digits_from, below_limit, number_of, tagged, number_and_rest, number_first, tagged_first}
use Rattle.iox_line.specs.Reading.{bind, both, three, only, with_number, with_two, numbers, with_values}
use Rattle.iox_line.specs.Words.{before, beyond, pieces_of, pieces_left, no_words}
use Rattle.iox_line.proofs.WordLemmas.{below_limit-too_large, pieces_first}

-- the number of digits up to the first separator, and what stands after it
abbrev pub digits_and_rest : ℕ → ℕ → List ℕ → Option (ℕ × Option (List ℕ))
digits_and_rest sep front text = number_and_rest (below_limit (digits_from front (before sep text))) (beyond sep text)

-- the number of a word up to the first separator, and what stands after it
abbrev pub word_and_rest : ℕ → List ℕ → Option (ℕ × Option (List ℕ))
word_and_rest sep text = number_and_rest (number_of (before sep text)) (beyond sep text)

-- a number below the limit
pub below : {A : Type 0} (n : ℕ) (rest : A) → n < 2 ^ 64 → Some (n, rest) ≡ number_and_rest (below_limit (Some n)) rest
below n rest small = grind (arith, common_steps, small)

-- a digit is added
pub digit_read : (sep front b : ℕ) (bs : List ℕ) → (b == sep) ≡ false → is_digit b ≡ true
    → digits_and_rest sep front (b ∷ bs) ≡ digits_and_rest sep (front * 10 + (b - 48)) bs
digit_read sep front b bs other digit =
    ap (λ t. number_and_rest (below_limit (digits_from front (cond t [] (b ∷ before sep bs)))) (cond t (Some bs) (beyond sep bs))) other
    ∙ ap (λ t. number_and_rest (below_limit (cond t (digits_from (front * 10 + (b - 48)) (before sep bs)) None)) (beyond sep bs)) digit

-- another byte spells no number
pub other_read : (sep front b : ℕ) (bs : List ℕ) → (b == sep) ≡ false → is_digit b ≡ false → None ≡ digits_and_rest sep front (b ∷ bs)
other_read sep front b bs other digit = sym (
    ap (λ t. number_and_rest (below_limit (digits_from front (cond t [] (b ∷ before sep bs)))) (cond t (Some bs) (beyond sep bs))) other
    ∙ ap (λ t. number_and_rest (below_limit (cond t (digits_from (front * 10 + (b - 48)) (before sep bs)) None)) (beyond sep bs)) digit)

-- nor does a digit that leads past the limit
pub large_read : (sep front b : ℕ) (bs : List ℕ) → (b == sep) ≡ false → is_digit b ≡ true → 2 ^ 64 ≤ front * 10 + (b - 48)
    → None ≡ digits_and_rest sep front (b ∷ bs)
large_read sep front b bs other digit large = sym (digit_read sep front b bs other digit
    ∙ ap (λ o. number_and_rest o (beyond sep bs)) (below_limit-too_large (front * 10 + (b - 48)) (before sep bs) large))

-- what is read of what is made of the rest
pub rest_made : {A B : Type 0} (make : A → B) (o : Option ℕ) (rest : A)
    → number_and_rest o (make rest) ≡ option_map (λ read. (read.0, make read.1)) (number_and_rest o rest)
rest_made make None rest = refl
rest_made make (Some n) rest = refl

-- the number of the first of the words that are left
pub first_read : (sep : ℕ) (text : List ℕ)
    → number_first (pieces_of sep text) ≡ option_map (λ read. (read.0, pieces_left sep read.1)) (word_and_rest sep text)
first_read sep text = ap number_first (pieces_first sep text)
    ∙ rest_made (λ rest. pieces_left sep rest) (number_of (before sep text)) (beyond sep text)

-- the number of a word after its letter up to the first separator, and what stands after it
abbrev pub tagged_and_rest : ℕ → ℕ → List ℕ → Option (ℕ × Option (List ℕ))
tagged_and_rest letter sep text = number_and_rest (tagged letter (before sep text)) (beyond sep text)

-- the number after its letter of the first of the words that are left
pub tagged_read : (letter sep : ℕ) (text : List ℕ)
    → tagged_first letter (pieces_of sep text) ≡ option_map (λ read. (read.0, pieces_left sep read.1)) (tagged_and_rest letter sep text)
tagged_read letter sep text = ap (tagged_first letter) (pieces_first sep text)
    ∙ rest_made (λ rest. pieces_left sep rest) (tagged letter (before sep text)) (beyond sep text)

-- the words of an argument, read one after the other
pub only_read : (letter : ℕ) (ws : List (List ℕ))
    → only letter ws ≡ bind (tagged_first letter ws) (λ p. cond (no_words p.1) (Some p.0) None)
only_read letter [] = refl
only_read letter (w ∷ []) = elim (tagged letter w) as (λ o. o ≡ bind (number_and_rest o []) (λ p. cond (no_words p.1) (Some p.0) None))
    [ None ↦ refl | Some n ↦ refl ]
only_read letter (w ∷ v ∷ vs) =
    elim (tagged letter w) as (λ o. None ≡ bind (number_and_rest o (v ∷ vs)) (λ p. cond (no_words p.1) (Some p.0) None))
    [ None ↦ refl | Some n ↦ refl ]

-- the two numbers of words of which the first was read
abbrev second_of : ℕ → Option (ℕ × List (List ℕ)) → Option (ℕ × ℕ)
second_of n second = bind second (λ q. cond (no_words q.1) (Some (n, q.0)) None)

-- the two numbers of words, read one after the other
abbrev pub two_read : Option (ℕ × List (List ℕ)) → Option (ℕ × ℕ)
two_read first = bind first (λ p. second_of p.0 (number_first p.1))

second_alone : (n : ℕ) (y : Option ℕ) → both (Some n) y ≡ second_of n (number_and_rest y [])
second_alone n None = refl
second_alone n (Some m) = refl

second_more : (n : ℕ) (y : Option ℕ) (u : List ℕ) (us : List (List ℕ)) → None ≡ second_of n (number_and_rest y (u ∷ us))
second_more n None u us = refl
second_more n (Some m) u us = refl

number_at : (x : Option ℕ) (v : List ℕ) → both x (number_of v) ≡ two_read (number_and_rest x (v ∷ []))
number_at None v = refl
number_at (Some n) v = second_alone n (number_of v)

number_more : (x : Option ℕ) (v u : List ℕ) (us : List (List ℕ)) → None ≡ two_read (number_and_rest x (v ∷ u ∷ us))
number_more None v u us = refl
number_more (Some n) v u us = second_more n (number_of v) u us

number_lacks : (x : Option ℕ) → None ≡ two_read (number_and_rest x [])
number_lacks None = refl
number_lacks (Some n) = refl

pub with_number_read : (letter : ℕ) (ws : List (List ℕ)) → with_number letter ws ≡ two_read (tagged_first letter ws)
with_number_read letter [] = refl
with_number_read letter (w ∷ []) = number_lacks (tagged letter w)
with_number_read letter (w ∷ v ∷ []) = number_at (tagged letter w) v
with_number_read letter (w ∷ v ∷ u ∷ us) = number_more (tagged letter w) v u us

-- the three numbers of words of which two were read, and of which one was
abbrev third_of : ℕ → ℕ → Option (ℕ × List (List ℕ)) → Option (ℕ × ℕ × ℕ)
third_of n m third = bind third (λ r. cond (no_words r.1) (Some (n, m, r.0)) None)

abbrev others_of : ℕ → Option (ℕ × List (List ℕ)) → Option (ℕ × ℕ × ℕ)
others_of n second = bind second (λ q. third_of n q.0 (number_first q.1))

-- the three numbers of words, read one after the other
abbrev pub three_read : Option (ℕ × List (List ℕ)) → Option (ℕ × ℕ × ℕ)
three_read first = bind first (λ p. others_of p.0 (number_first p.1))

third_alone : (n m : ℕ) (z : Option ℕ) → three (Some n) (Some m) z ≡ third_of n m (number_and_rest z [])
third_alone n m None = refl
third_alone n m (Some k) = refl

third_more : (n m : ℕ) (z : Option ℕ) (u : List ℕ) (us : List (List ℕ)) → None ≡ third_of n m (number_and_rest z (u ∷ us))
third_more n m None u us = refl
third_more n m (Some k) u us = refl

second_of_three : (n : ℕ) (y : Option ℕ) (u : List ℕ) → three (Some n) y (number_of u) ≡ others_of n (number_and_rest y (u ∷ []))
second_of_three n None u = refl
second_of_three n (Some m) u = third_alone n m (number_of u)

second_of_more : (n : ℕ) (y : Option ℕ) (u t : List ℕ) (ts : List (List ℕ)) → None ≡ others_of n (number_and_rest y (u ∷ t ∷ ts))
second_of_more n None u t ts = refl
second_of_more n (Some m) u t ts = third_more n m (number_of u) t ts

second_of_two : (n : ℕ) (y : Option ℕ) → None ≡ others_of n (number_and_rest y [])
second_of_two n None = refl
second_of_two n (Some m) = refl

first_of_one : (x : Option ℕ) → None ≡ three_read (number_and_rest x [])
first_of_one None = refl
first_of_one (Some n) = refl

first_of_two : (x : Option ℕ) (v : List ℕ) → None ≡ three_read (number_and_rest x (v ∷ []))
first_of_two None v = refl
first_of_two (Some n) v = second_of_two n (number_of v)

first_of_three : (x : Option ℕ) (v u : List ℕ) → three x (number_of v) (number_of u) ≡ three_read (number_and_rest x (v ∷ u ∷ []))
first_of_three None v u = refl
first_of_three (Some n) v u = second_of_three n (number_of v) u

first_of_more : (x : Option ℕ) (v u t : List ℕ) (ts : List (List ℕ)) → None ≡ three_read (number_and_rest x (v ∷ u ∷ t ∷ ts))
first_of_more None v u t ts = refl
first_of_more (Some n) v u t ts = second_of_more n (number_of v) u t ts

pub with_two_read : (letter : ℕ) (ws : List (List ℕ)) → with_two letter ws ≡ three_read (tagged_first letter ws)
with_two_read letter [] = refl
with_two_read letter (w ∷ []) = first_of_one (tagged letter w)
with_two_read letter (w ∷ v ∷ []) = first_of_two (tagged letter w) v
with_two_read letter (w ∷ v ∷ u ∷ []) = first_of_three (tagged letter w) v u
with_two_read letter (w ∷ v ∷ u ∷ t ∷ ts) = first_of_more (tagged letter w) v u t ts

second_values : (n : ℕ) (y : Option (List ℕ)) → both (Some n) y ≡ option_map (λ ns. (n, ns)) y
second_values n None = refl
second_values n (Some ns) = refl

values_at : (x : Option ℕ) (ws : List (List ℕ)) → both x (numbers ws)
    ≡ bind (number_and_rest x ws) (λ p. option_map (λ ns. (p.0, ns)) (numbers p.1))
values_at None ws = refl
values_at (Some n) ws = second_values n (numbers ws)

pub with_values_read : (letter : ℕ) (ws : List (List ℕ)) → with_values letter ws
    ≡ bind (tagged_first letter ws) (λ p. option_map (λ ns. (p.0, ns)) (numbers p.1))
with_values_read letter [] = refl
with_values_read letter (w ∷ ws) = values_at (tagged letter w) ws

front_value : (m : ℕ) (y : Option (List ℕ)) → option_map (λ p. p.0 ∷ p.1) (both (Some m) y) ≡ option_map (λ ns. m ∷ ns) y
front_value m None = refl
front_value m (Some ns) = refl

step_at : (x : Option ℕ) (us rest : List (List ℕ)) (n : ℕ) → number_and_rest x us ≡ Some (n, rest)
    → option_map (λ p. p.0 ∷ p.1) (both x (numbers us)) ≡ option_map (λ ns. n ∷ ns) (numbers rest)
step_at None us rest n h = cc
step_at (Some m) us rest n h =
    let pair : ◌≡◌ {A = ℕ × List (List ℕ)} (m, us) (n, rest) = cc in
    let same : m ≡ n = ap (λ p. p.0) pair in
    let left : us ≡ rest = ap (λ p. p.1) pair in
    front_value m (numbers us) ∙ ap (λ k. option_map (λ ns. k ∷ ns) (numbers us)) same
    ∙ ap (λ l. option_map (λ ns. n ∷ ns) (numbers l)) left

-- the numbers of words, of which the first was read
pub numbers_step : (ws rest : List (List ℕ)) (n : ℕ) → number_first ws ≡ Some (n, rest)
    → numbers ws ≡ option_map (λ ns. n ∷ ns) (numbers rest)
numbers_step [] rest n h = cc
numbers_step (w ∷ us) rest n h = step_at (number_of w) us rest n h

none_at : (x : Option ℕ) (us : List (List ℕ)) → number_and_rest x us ≡ None → None ≡ option_map (λ p. p.0 ∷ p.1) (both x (numbers us))
none_at None us h = refl
none_at (Some m) us h = cc

-- words whose first is no number
pub numbers_none : (ws : List (List ℕ)) → no_words ws ≡ false → number_first ws ≡ None → None ≡ numbers ws
numbers_none [] some h = cc
numbers_none (w ∷ us) some h = none_at (number_of w) us h

-- no words
pub numbers_end : (ws : List (List ℕ)) → no_words ws ≡ true → numbers ws ≡ Some []
numbers_end [] end = refl
numbers_end (w ∷ us) end = cc

shorter_at : (x : Option ℕ) (us rest : List (List ℕ)) (n : ℕ) → number_and_rest x us ≡ Some (n, rest) → length us ≡ length rest
shorter_at None us rest n h = cc
shorter_at (Some m) us rest n h =
    let pair : ◌≡◌ {A = ℕ × List (List ℕ)} (m, us) (n, rest) = cc in
    ap (λ p. length p.1) pair

-- a word fewer is left
pub first_shorter : (ws rest : List (List ℕ)) (n : ℕ) → number_first ws ≡ Some (n, rest) → length ws ≡ 1 + length rest
first_shorter [] rest n h = cc
first_shorter (w ∷ us) rest n h = omega (arith, shorter_at (number_of w) us rest n h)

pub tagged_shorter : (letter : ℕ) (ws rest : List (List ℕ)) (n : ℕ) → tagged_first letter ws ≡ Some (n, rest) → length ws ≡ 1 + length rest
tagged_shorter letter [] rest n h = cc
tagged_shorter letter (w ∷ us) rest n h = omega (arith, shorter_at (tagged letter w) us rest n h)

-- the words that are left, where the first was read as a number or not
pub first_none : (sep : ℕ) (text : List ℕ) → None ≡ word_and_rest sep text → number_first (pieces_of sep text) ≡ None
first_none sep text h = first_read sep text ∙ ap (option_map (λ read. (read.0, pieces_left sep read.1))) (sym h)

pub first_some : (sep n : ℕ) (text : List ℕ) (rest : Option (List ℕ)) → Some (n, rest) ≡ word_and_rest sep text
    → number_first (pieces_of sep text) ≡ Some (n, pieces_left sep rest)
first_some sep n text rest h = first_read sep text ∙ ap (option_map (λ read. (read.0, pieces_left sep read.1))) (sym h)

-- the same after its letter
pub tagged_none : (letter sep : ℕ) (text : List ℕ) → None ≡ tagged_and_rest letter sep text
    → tagged_first letter (pieces_of sep text) ≡ None
tagged_none letter sep text h = tagged_read letter sep text ∙ ap (option_map (λ read. (read.0, pieces_left sep read.1))) (sym h)

pub tagged_some : (letter sep n : ℕ) (text : List ℕ) (rest : Option (List ℕ)) → Some (n, rest) ≡ tagged_and_rest letter sep text
    → tagged_first letter (pieces_of sep text) ≡ Some (n, pieces_left sep rest)
tagged_some letter sep n text rest h =
    tagged_read letter sep text ∙ ap (option_map (λ read. (read.0, pieces_left sep read.1))) (sym h)

large_at : (n : ℕ) (t : Bool) → nat_lt n (2 ^ 64) ≡ t → None ≡ cond t (Some n) None → 2 ^ 64 ≤ n
large_at n true e h = cc
large_at n false e h = search (rules, e)

none_large : (n : ℕ) → None ≡ below_limit (Some n) → 2 ^ 64 ≤ n
none_large n h = large_at n (nat_lt n (2 ^ 64)) refl h

none_digit : (sep value b : ℕ) (bs : List ℕ) (t : Bool) → is_digit b ≡ t → (b == sep) ≡ false
    → None ≡ cond t (below_limit (Some (value * 10 + (b - 48)))) None → None ≡ digits_and_rest sep value (b ∷ bs)
none_digit sep value b bs true digit other h = large_read sep value b bs other digit (none_large (value * 10 + (b - 48)) h)
none_digit sep value b bs false digit other h = other_read sep value b bs other digit

-- a byte that adds no digit ends the reading
pub none_there : (sep front value : ℕ) (text : List ℕ) (end : ℕ) → end < length text → (get_or text end 0 == sep) ≡ false
    → digits_and_rest sep front text ≡ digits_and_rest sep value (drop end text)
    → None ≡ cond (is_digit (get_or text end 0)) (below_limit (Some (value * 10 + (get_or text end 0 - 48)))) None
    → None ≡ digits_and_rest sep front text
none_there sep front value text end within other so_far h =
    none_digit sep value (get_or text end 0) (drop (suc end) text) (is_digit (get_or text end 0)) refl other h
    ∙ sym (so_far ∙ ap (λ l. digits_and_rest sep value l) (drop-cons text end 0 within))

none_word : (front b : ℕ) (bs : List ℕ) (t : Bool) → None ≡ cond t (below_limit (Some (front * 10 + (b - 48)))) None
    → None ≡ below_limit (cond t (digits_from (front * 10 + (b - 48)) bs) None)
none_word front b bs true h = sym (below_limit-too_large (front * 10 + (b - 48)) bs (none_large (front * 10 + (b - 48)) h))
none_word front b bs false h = refl

-- nor does it spell a number in a word
pub no_digit : (word : List ℕ) (i front : ℕ) → i < length word → digits_from 0 word ≡ digits_from front (drop i word)
    → None ≡ cond (is_digit (get_or word i 0)) (below_limit (Some (front * 10 + (get_or word i 0 - 48)))) None
    → None ≡ below_limit (digits_from 0 word)
no_digit word i front within so_far h =
    none_word front (get_or word i 0) (drop (suc i) word) (is_digit (get_or word i 0)) h
    ∙ sym (ap below_limit (so_far ∙ ap (λ l. digits_from front l) (drop-cons word i 0 within)))
