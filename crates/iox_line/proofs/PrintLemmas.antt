-- What stands before what is appended stays.
use Rattle.std.proofs.Common.{◌≡◌, ℕ, zero, suc, ◌+◌, ◌≤◌, List, [], ◌∷◌, ◌++◌, take, drop, length, refl, ap, ◌∙◌, arith}

take_front : (xs ys : List ℕ) → take (length xs) (xs ++ ys) ≡ xs
take_front [] ys = refl
take_front (x ∷ xs) ys = ap (λ l. x ∷ l) (take_front xs ys)

-- what begins with what begins with a text begins with it
pub kept : (start out new : List ℕ) → take (length start) out ≡ start → take (length out) new ≡ out → take (length start) new ≡ start
kept [] out new h k = refl
kept (s ∷ ss) [] new h k = cc
kept (s ∷ ss) (o ∷ os) [] h k = cc
kept (s ∷ ss) (o ∷ os) (n ∷ ns) h k =
    let a : o ≡ s = cc in
    let b : n ≡ o = cc in
    let c : take (length ss) os ≡ ss = cc in
    let d : take (length os) ns ≡ os = cc in
    ap (λ x. x ∷ take (length ss) ns) (b ∙ a) ∙ ap (λ l. s ∷ l) (kept ss os ns c d)

-- what follows the first bytes
pub after_front : (s : ℕ) (xs ys : List ℕ) → s ≤ length xs → drop s (take s xs ++ ys) ≡ ys
after_front zero xs ys h = refl
after_front (suc s) [] ys h = absurd (omega (arith, h))
after_front (suc s) (x ∷ xs) ys h = after_front s xs ys (omega (arith, h))

take_past : (xs ys : List ℕ) (m k : ℕ) → k ≡ length xs + m → take k (xs ++ ys) ≡ xs ++ take m ys
take_past [] ys m k e = let same : k ≡ m = omega (arith, e) in ap (λ j. take j ys) same
take_past (x ∷ xs) ys m zero e = absurd (omega (arith, e))
take_past (x ∷ xs) ys m (suc k) e = ap (λ l. x ∷ l) (take_past xs ys m k (omega (arith, e)))

take_fewer : (m k : ℕ) (xs : List ℕ) → m ≤ k → take m (take k xs) ≡ take m xs
take_fewer zero k xs h = refl
take_fewer (suc m) zero xs h = absurd (omega (arith, h))
take_fewer (suc m) (suc k) [] h = refl
take_fewer (suc m) (suc k) (x ∷ xs) h = ap (λ l. x ∷ l) (take_fewer m k xs (omega (arith, h)))

-- what follows a text and digits is cut off
pub cut_off : (old kind digits rest part text : List ℕ) (start n : ℕ) → text ≡ kind ++ (digits ++ rest) → part ≡ take 24 text
    → start + (length kind + length digits) ≡ 24 → n + start ≡ length old + 24 → take n (old ++ part) ≡ old ++ (kind ++ digits)
cut_off old kind digits rest part text start n written e s l =
    ap (λ p. take n (old ++ p)) (e ∙ ap (λ t. take 24 t) written)
    ∙ take_past old (take 24 (kind ++ (digits ++ rest))) (length kind + length digits) n (omega (arith, s, l))
    ∙ ap (λ p. old ++ p) (take_fewer (length kind + length digits) 24 (kind ++ (digits ++ rest)) (omega (arith, s))
    ∙ take_past kind (digits ++ rest) (length digits) (length kind + length digits) refl
    ∙ ap (λ p. kind ++ p) (take_front digits rest))

-- what is appended when what follows a text and digits is cut off
pub appended : (old new out part text kind digits rest : List ℕ) (start n : ℕ) → new ≡ old ++ part → out ≡ take n new
    → text ≡ kind ++ (digits ++ rest) → part ≡ take 24 text → start + (length kind + length digits) ≡ 24 → n + start ≡ length old + 24
    → out ≡ old ++ (kind ++ digits)
appended old new out part text kind digits rest start n grown cut written e s l =
    cut ∙ ap (λ x. take n x) grown ∙ cut_off old kind digits rest part text start n written e s l
