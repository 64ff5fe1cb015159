-- The numbers whose places have no port are left, as one after the other goes whose place has one.
use Rattle.std.proofs.Common.{ℕ, zero, suc, ◌≡◌, ◌+◌, ◌<◌, ◌≤◌, Bool, true, false, if◌then◌else◌, List, [], ◌∷◌, ◌++◌, take, drop, length}
use Rattle.std.proofs.Common.{refl, sym, ap, ◌∙◌, arith}
use Rattle.std.specs.List.{remove}
use Rattle.std.proofs.lemmas.List.{take_all, drop_all}
use Rattle.iox_lanes.specs.Missing.{missing}

-- the first ones, and of the others, from a place on, those whose places have no port
abbrev pub left_from : (ℕ → Bool) → ℕ → ℕ → List ℕ → List ℕ
left_from has at place numbers = take at numbers ++ missing has place (drop at numbers)

goes : (has : ℕ → Bool) (at place : ℕ) (numbers : List ℕ) → at < length numbers → has place ≡ true
    → left_from has at (place + 1) (remove numbers at) ≡ left_from has at place numbers
goes has at place [] there is = absurd (omega (arith, there))
goes has zero place (n ∷ ns) there is =
    sym (ap (λ (b : Bool). if b then missing has (place + 1) ns else n ∷ missing has (place + 1) ns) is)
goes has (suc at) place (n ∷ ns) there is =
    let fewer : at < length ns = omega (arith, there) in ap (λ xs. n ∷ xs) (goes has at place ns fewer is)

stays_suc : (has : ℕ → Bool) (at place : ℕ) (numbers : List ℕ) → at < length numbers → has place ≡ false
    → left_from has (suc at) (place + 1) numbers ≡ left_from has at place numbers
stays_suc has at place [] there is = absurd (omega (arith, there))
stays_suc has zero place (n ∷ ns) there is =
    sym (ap (λ (b : Bool). if b then missing has (place + 1) ns else n ∷ missing has (place + 1) ns) is)
stays_suc has (suc at) place (n ∷ ns) there is =
    let fewer : at < length ns = omega (arith, there) in ap (λ xs. n ∷ xs) (stays_suc has at place ns fewer is)

stays : (has : ℕ → Bool) (at place : ℕ) (numbers : List ℕ) → at < length numbers → has place ≡ false
    → left_from has (at + 1) (place + 1) numbers ≡ left_from has at place numbers
stays has at place numbers there is =
    let more : at + 1 ≡ suc at = omega arith in
    ap (λ (k : ℕ). left_from has k (place + 1) numbers) more ∙ stays_suc has at place numbers there is

nothing_behind : (xs : List ℕ) → xs ++ [] ≡ xs
nothing_behind [] = refl
nothing_behind (x ∷ xs) = ap (λ ys. x ∷ ys) (nothing_behind xs)

all_left : (has : ℕ → Bool) (at place : ℕ) (numbers : List ℕ) → length numbers ≤ at → left_from has at place numbers ≡ numbers
all_left has at place numbers past =
    ap (λ (xs : List ℕ). take at numbers ++ missing has place xs) (drop_all at numbers past) ∙ nothing_behind (take at numbers)
    ∙ take_all at numbers past

one_fewer : (numbers : List ℕ) (at : ℕ) → at < length numbers → length (remove numbers at) + 1 ≡ length numbers
one_fewer [] at there = absurd (omega (arith, there))
one_fewer (n ∷ ns) zero there = omega arith
one_fewer (n ∷ ns) (suc at) there =
    let fewer : at < length ns = omega (arith, there) in let k = one_fewer ns at fewer in omega (arith, k)

-- how far numbers were gone over: n places were looked at, and m of their numbers are left
pub record Looked (has : ℕ → Bool) (at place : ℕ) (now all : List ℕ) : Type 0 where
  pub same : left_from has at place now ≡ missing has 0 all
  pub far : length now + place ≡ at + length all

pub looked_at_none : (has : ℕ → Bool) (all : List ℕ) → Looked has 0 0 all all
looked_at_none has all = record { same = refl; far = omega arith }

-- the next number is there while not all places were looked at
pub next_there : (has : ℕ → Bool) (at place : ℕ) (now all : List ℕ) → Looked has at place now all → place < length all
    → at < length now
next_there has at place now all k more = let far = k.far in omega (arith, far, more)

pub looked_on : (has : ℕ → Bool) (at place : ℕ) (now all : List ℕ) (is_there : Bool) (at' : ℕ) (now' : List ℕ)
    → Looked has at place now all → place < length all → is_there ≡ has place
    → (is_there ≡ true → (now' ≡ remove now at) × (at' ≡ at)) → (is_there ≡ false → (now' ≡ now) × (at' ≡ at + 1))
    → Looked has at' (place + 1) now' all
looked_on has at place now all true at' now' k more is there lacks =
    let far = k.far in
    let new = there refl in
    let one = one_fewer now at (next_there has at place now all k more) in
    let few : length now' ≡ length (remove now at) = ap (λ (xs : List ℕ). length xs) (new.0) in
    let at_is = new.1 in
    record {
      same = ap (λ (i : ℕ). left_from has i (place + 1) now') at_is ∙ ap (left_from has at (place + 1)) (new.0)
          ∙ goes has at place now (next_there has at place now all k more) (sym is) ∙ k.same;
      far = omega (arith, far, one, few, at_is);
    }
looked_on has at place now all false at' now' k more is there lacks =
    let far = k.far in
    let new = lacks refl in
    let few : length now' ≡ length now = ap (λ (xs : List ℕ). length xs) (new.0) in
    let at_is = new.1 in
    record {
      same = ap (λ (i : ℕ). left_from has i (place + 1) now') at_is ∙ ap (left_from has (at + 1) (place + 1)) (new.0)
          ∙ stays has at place now (next_there has at place now all k more) (sym is) ∙ k.same;
      far = omega (arith, far, few, at_is);
    }

pub looked_at_all : (has : ℕ → Bool) (at place : ℕ) (now all : List ℕ) → Looked has at place now all → length all ≤ place
    → now ≡ missing has 0 all
looked_at_all has at place now all k past =
    let far = k.far in
    let none : length now ≤ at = omega (arith, far, past) in
    sym (all_left has at place now none) ∙ k.same
