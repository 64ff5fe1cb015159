-- What is heard of a line that comes in pieces.
use Rattle.std.proofs.Common.{◌≡◌, ℕ, ◌<◌, ◌≤◌, ◌==◌, Bool, true, false, not, List, [], ◌∷◌, ◌++◌, length, take, map, drop, min, ◌+◌, ◌-◌}
use Rattle.std.proofs.Common.{zero, suc, get_or, refl, sym, ap, ◌∙◌, arith, add-one, drop-cons, append_assoc, take-append-drop}
use Rattle.std.specs.List.{list_all}
use Rattle.std.proofs.lemmas.List.{append-nil, take_all, take_min}
use Rattle.std.proofs.Math.Nat.{min_comm}
use Rattle.std.proofs.Math.Seq.{take-append-add}
use Rattle.std.proofs.lemmas.Grind.{common_steps}
use Rattle.iox_conversation.proofs.Shorthands.{heard, lines_of, onto_first}
use Rattle.iox_conversation.proofs.Rest.{take-rest}

-- no byte of it is a newline
abbrev pub is_unbroken : List ℕ → Bool
is_unbroken line = list_all (λ b. not (b == 10)) line

-- a line before its newline is the first line
pub lines_of-separated : (xs ys : List ℕ) → is_unbroken xs ≡ true → lines_of (xs ++ 10 ∷ ys) ≡ xs ∷ lines_of ys
lines_of-separated [] ys h = refl
lines_of-separated (x ∷ xs) ys h = grind (arith, common_steps, lines_of-separated xs ys)

-- bytes with no newline are one line
pub lines_of-alone : (x : ℕ) (xs : List ℕ) → is_unbroken (x ∷ xs) ≡ true → lines_of (x ∷ xs) ≡ (x ∷ xs) ∷ []
lines_of-alone x [] h = grind (arith, common_steps)
lines_of-alone x (y ∷ xs) h = grind (arith, common_steps, lines_of-alone y xs)

-- bytes stand before the first of the lines, and are a line where there is none
abbrev pub joined : List ℕ → List (List ℕ) → List (List ℕ)
joined [] lines = lines
joined (x ∷ xs) lines = onto_first x (joined xs lines)

lines_of-joined : (xs ys : List ℕ) → is_unbroken xs ≡ true → lines_of (xs ++ ys) ≡ joined xs (lines_of ys)
lines_of-joined [] ys h = refl
lines_of-joined (x ∷ xs) ys h = grind (arith, common_steps, lines_of-joined xs ys)

joined-some : (xs line : List ℕ) (lines : List (List ℕ)) → joined xs (line ∷ lines) ≡ (xs ++ line) ∷ lines
joined-some [] line lines = refl
joined-some (x ∷ xs) line lines = rw (joined-some xs line lines) refl

joined-none : (x : ℕ) (xs : List ℕ) → joined (x ∷ xs) [] ≡ (x ∷ xs) ∷ []
joined-none x [] = refl
joined-none x (y ∷ xs) = rw (joined-none y xs) refl

-- of a line that is whole its first 1,025 bytes are heard
pub heard-whole : (line rest : List ℕ) → is_unbroken line ≡ true → heard (line ++ 10 ∷ rest) ≡ take 1025 line ∷ heard rest
heard-whole line rest unbroken = rw (lines_of-separated line rest unbroken) refl

-- a last line is heard as it is
pub heard-last : (line : List ℕ) → 0 < length line → is_unbroken line ≡ true → length line ≤ 1025 → heard line ≡ line ∷ []
heard-last [] some unbroken short = absurd (omega (arith, some))
heard-last (x ∷ xs) some unbroken short = rw (lines_of-alone x xs unbroken, take_all 1025 (x ∷ xs) short) refl

-- what begins with more bytes than are heard is heard as it begins
take-within : (n : ℕ) (xs ys : List ℕ) → take n (take n xs ++ ys) ≡ take n (xs ++ ys)
take-within zero xs ys = refl
take-within (suc n) [] ys = refl
take-within (suc n) (x ∷ xs) ys = ap (λ l. x ∷ l) (take-within n xs ys)

cut_alike : (x : ℕ) (xs kept : List ℕ) (lines : List (List ℕ)) → ((ys : List ℕ) → take 1025 ((x ∷ kept) ++ ys) ≡ take 1025 ((x ∷ xs) ++ ys))
    → map (λ line. take 1025 line) (joined (x ∷ xs) lines) ≡ map (λ line. take 1025 line) (joined (x ∷ kept) lines)
cut_alike x xs kept [] alike = rw (joined-none x xs, joined-none x kept)
    (ap (λ l. l ∷ []) (sym (rw (append-nil kept, append-nil xs) at (alike []))))
cut_alike x xs kept (line ∷ lines) alike = rw (joined-some (x ∷ xs) line lines, joined-some (x ∷ kept) line lines)
    (ap (λ l. l ∷ map (λ line. take 1025 line) lines) (sym (alike line)))

-- the beginning of bytes with no newline has none either
pub unbroken-take : (n : ℕ) (xs : List ℕ) → is_unbroken xs ≡ true → is_unbroken (take n xs) ≡ true
unbroken-take zero xs h = refl
unbroken-take (suc n) [] h = refl
unbroken-take (suc n) (x ∷ xs) h = grind (arith, common_steps, unbroken-take n xs)

-- bytes with no newline, and more of them
pub unbroken-append : (xs ys : List ℕ) → is_unbroken xs ≡ true → is_unbroken ys ≡ true → is_unbroken (xs ++ ys) ≡ true
unbroken-append [] ys h k = k
unbroken-append (x ∷ xs) ys h k = grind (arith, common_steps, unbroken-append xs ys)

-- of a line in progress no more than its first 1,025 bytes is heard
pub heard-cut : (xs rest : List ℕ) → is_unbroken xs ≡ true → heard (xs ++ rest) ≡ heard (take 1025 xs ++ rest)
heard-cut [] rest unbroken = refl
heard-cut (x ∷ xs) rest unbroken =
    let cut : is_unbroken (take 1025 (x ∷ xs)) ≡ true = unbroken-take 1025 (x ∷ xs) unbroken in
    rw (lines_of-joined (x ∷ xs) rest unbroken, lines_of-joined (take 1025 (x ∷ xs)) rest cut)
    (cut_alike x xs (take 1024 xs) (lines_of rest) (take-within 1025 (x ∷ xs)))

-- bytes before the first newline
pub unbroken-before : (xs : List ℕ) (n : ℕ) → n ≤ length xs → ((k : ℕ) → k < n → (get_or xs k 0 == 10) ≡ true → ⊥)
    → is_unbroken (take n xs) ≡ true
unbroken-before xs zero within none = refl
unbroken-before [] (suc n) within none = refl
unbroken-before (x ∷ xs) (suc n) within none =
    let later = unbroken-before xs n (omega arith) (λ k less. none (suc k) (omega arith)) in
    let first = none 0 (omega arith) in
    grind (arith, common_steps)

-- as much of more bytes is kept as there is room for
pub take-onto : (xs ys : List ℕ) (room : ℕ) → length xs + room ≡ 1025 → xs ++ take (min (length ys) room) ys ≡ take 1025 (xs ++ ys)
take-onto xs ys room all =
    ap (λ n. xs ++ take n ys) (min_comm (length ys) room) ∙ (ap (λ l. xs ++ l) (take_min room ys)
    ∙ (sym (take-append-add xs ys room) ∙ ap (λ n. take n (xs ++ ys)) all))

-- bytes of which none is a newline
pub unbroken-whole : (xs : List ℕ) → ((k : ℕ) → 0 ≤ k → k < length xs → (get_or xs k 0 == 10) ≡ true → ⊥) → is_unbroken xs ≡ true
unbroken-whole xs none =
    let all = unbroken-before xs (length xs) (omega arith) (λ k less. none k (omega arith) less) in
    rw (take_all (length xs) xs (omega arith)) at all

-- a newline, with what stands before and after it
pub newline-at : (xs : List ℕ) (n : ℕ) → n < length xs → (get_or xs n 0 == 10) ≡ true
    → xs ≡ (take n xs ++ 10 ∷ []) ++ take (length xs - (n + 1)) (drop (n + 1) xs)
newline-at xs n within is =
    let newline : get_or xs n 0 ≡ 10 = grind (arith, common_steps) in
    let after : drop n xs ≡ 10 ∷ drop (n + 1) xs = rw (add-one, drop-cons xs n 0) (ap (λ b. b ∷ drop (suc n) xs) newline) in
    rw (take-rest xs (n + 1), append_assoc (take n xs) (10 ∷ []) (drop (n + 1) xs))
    (sym (take-append-drop n xs) ∙ ap (λ l. take n xs ++ l) after)

-- bytes of which one is a newline
pub broken-at : (xs : List ℕ) (n : ℕ) → n < length xs → (get_or xs n 0 == 10) ≡ true → is_unbroken xs ≡ false
broken-at [] n within is = absurd (omega (arith, within))
broken-at (x ∷ xs) zero within is = grind (arith, common_steps)
broken-at (x ∷ xs) (suc n) within is =
    let later = broken-at xs n (omega (arith, within)) is in
    grind (arith, common_steps)
