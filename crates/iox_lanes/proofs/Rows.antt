-- A list that grows row by row, and a row that grows one by one.
use Rattle.std.proofs.Common.{append_assoc, nat_lt, Bool, true, false, ℕ, ◌≡◌, ◌+◌, ◌*◌, ◌<◌, ◌≤◌, ◌++◌, List, [], ◌∷◌, length, map, take}
use Rattle.std.proofs.Common.{drop, slice_get, Some, refl, sym, ap, ◌∙◌, arith, zero, suc}
use Rattle.std.proofs.Math.Nat.{mul-le-mul_left}
use Rattle.std.proofs.Math.Seq.{drop-append_seam, take-length}
use Rattle.std.proofs.lemmas.List.{drop-append-le, take-append-le, length-drop}
use Rattle.iox_lanes_machine.proofs.Ends.{some_is}
use Rattle.iox_lanes.specs.Joined.{row_of}

-- a row more leaves those before it
earlier_row : (count place at : ℕ) (before added : List ℕ) → length before ≡ place * count → at < place
    → row_of count (before ++ added) at ≡ row_of count before at
earlier_row count place at before added long below =
    let past : (at + 1) * count ≤ place * count = grind (arith, mul-le-mul_left count below) in
    let start : at * count ≤ length before = omega (arith, past, long) in
    let room : count ≤ length (drop (at * count) before) = omega (arith, past, long, length-drop (at * count) before) in
    ap (take count) (drop-append-le (at * count) before added start) ∙ take-append-le count (drop (at * count) before) added room

-- and is the one after them
last_row : (count place : ℕ) (before added : List ℕ) → length before ≡ place * count → length added ≡ count
    → row_of count (before ++ added) place ≡ added
last_row count place before added long wide =
    ap (λ (n : ℕ). take count (drop n (before ++ added))) (sym long) ∙ ap (take count) (drop-append_seam before added) ∙ ap
    (λ (n : ℕ). take n added) (sym wide) ∙ take-length added

-- each row of a list with a row more is the one that was there, or the new one
pub next_row : (count place at : ℕ) (before added after wanted : List ℕ) → length before ≡ place * count → length added ≡ count
    → after ≡ before ++ added → at < place + 1
    → (at < place → row_of count before at ≡ wanted) → (at ≡ place → added ≡ wanted) → row_of count after at ≡ wanted
next_row count place at before added after wanted long wide grown below was new = by (nat_lt at place) refl
  where
    by : (less : Bool) → nat_lt at place ≡ less → row_of count after at ≡ wanted
    by true less =
        let earlier : at < place = grind (arith, less) in
        ap (λ xs. row_of count xs at) grown ∙ earlier_row count place at before added long earlier ∙ was earlier
    by false less =
        let last : at ≡ place = grind (arith, less, below) in
        ap (λ xs. row_of count xs at) grown ∙ ap (row_of count (before ++ added)) last ∙ last_row count place before added long wide ∙
        new last

taken_one : {X Y : Type 0} (f : X → Y) (xs : List X) (at : ℕ) (x : X) → slice_get xs at ≡ Some x
    → map f (take (suc at) xs) ≡ map f (take at xs) ++ f x ∷ []
taken_one f [] at x there = absurd (cc there)
taken_one f (y ∷ xs) zero x there = ap (λ z. f z ∷ []) (some_is y x there)
taken_one f (y ∷ xs) (suc at) x there = ap (λ ys. f y ∷ ys) (taken_one f xs at x there)

-- what a list of all that were passed becomes with one more
pub one_more : {X Y : Type 0} (f : X → Y) (xs : List X) (at : ℕ) (x : X) (start before after : List Y) → slice_get xs at ≡ Some x
    → before ≡ start ++ map f (take at xs) → after ≡ before ++ f x ∷ []
    → after ≡ start ++ map f (take (at + 1) xs)
one_more f xs at x start before after there sofar added =
    let next : suc at ≡ at + 1 = omega arith in
    added ∙ ap (λ ys. ys ++ f x ∷ []) sofar ∙ append_assoc start (map f (take at xs)) (f x ∷ []) ∙ ap (λ ys. start ++ ys)
    (sym (taken_one f xs at x there)) ∙ ap (λ n. start ++ map f (take n xs)) next

-- and when all were passed
pub all_passed : {X Y : Type 0} (f : X → Y) (xs : List X) (at : ℕ) → length xs ≤ at → map f (take at xs) ≡ map f xs
all_passed f [] zero past = refl
all_passed f [] (suc at) past = refl
all_passed f (y ∷ xs) zero past = absurd (omega (arith, past))
all_passed f (y ∷ xs) (suc at) past = ap (λ ys. f y ∷ ys) (all_passed f xs at (omega (arith, past)))
