-- A segment is full if as many different slots of it are in use as there are.
use Rattle.std.proofs.Common.{rules, arith, ◌≡◌, ◌≢◌, ◌+◌, ◌<◌, ◌≤◌, ◌&&◌, ◌∷◌, [], ℕ, zero, suc, Bool, true, false, cond, if◌then◌else◌}
use Rattle.std.proofs.Common.{List, nat_lt, nat_le, ◌||◌, refl, sym, subst, ap, ◌∙◌}
use Rattle.std.specs.List.{list_any}
use Rattle.std.proofs.Math.Logic.{⊎_elim}
use Rattle.std.proofs.Math.Dec.{eqb}
use Rattle.std.proofs.lemmas.Bool.Decides.{eqb_tells}
use Rattle.iox_domain_slots.specs.Counting.{times}
use Rattle.iox_domain_slots.proofs.Counts.{times_cons, one_same, one_other}
use Rattle.iox_domain_ports.specs.MessagesLaws.{different, of_segment, FullExactlyIf}

-- whether a slot stands in a list
abbrev stands : ℕ → List ℕ → ℕ
stands slot slots = if nat_lt 0 (times slot slots) then 1 else 0

-- how many slots of a segment stand in a list
abbrev used : ℕ → ℕ → List ℕ → ℕ
used first zero slots = 0
used first (suc n) slots = stands (first + n) slots + used first n slots

-- what a slot adds that comes to a list
abbrev further : ℕ → List ℕ → ℕ
further slot slots = if nat_lt 0 (times slot slots) then 0 else 1

stands_few : (slot : ℕ) (slots : List ℕ) → stands slot slots ≤ 1
stands_few slot slots = at (nat_lt 0 (times slot slots))
  where
    at : (b : Bool) → (if b then 1 else 0) ≤ 1
    at true = omega arith
    at false = omega arith

stands_more : (slot : ℕ) (slots : List ℕ) → stands slot slots + further slot slots ≡ 1
stands_more slot slots = at (nat_lt 0 (times slot slots))
  where
    at : (b : Bool) → (if b then 1 else 0) + (if b then 0 else 1) ≡ 1
    at true = refl
    at false = refl

stands_first : (slot : ℕ) (slots : List ℕ) → stands slot (slot ∷ slots) ≡ 1
stands_first slot slots =
    let there : 0 < times slot (slot ∷ slots) = omega (arith, times_cons slot slot slots, one_same slot) in
    let is : nat_lt 0 (times slot (slot ∷ slots)) ≡ true = grind (arith, there) in
    rw is refl

stands_other : (slot other : ℕ) (slots : List ℕ) → eqb slot other ≡ false → stands slot (other ∷ slots) ≡ stands slot slots
stands_other slot other slots apart =
    let same : times slot (other ∷ slots) ≡ times slot slots = omega (arith, times_cons slot other slots, one_other slot other apart) in
    ap (λ n. if nat_lt 0 n then 1 else 0) same

used_outside : (first n x : ℕ) (slots : List ℕ) → ((slot : ℕ) → first ≤ slot → slot < first + n → eqb slot x ≡ false)
    → used first n (x ∷ slots) ≡ used first n slots
used_outside first zero x slots apart = refl
used_outside first (suc n) x slots apart =
    omega (
      arith,
      stands_other (first + n) x slots (apart (first + n) (omega arith) (omega arith)),
      used_outside first n x slots
          (λ slot low high. apart slot low (omega (arith, high))),
    )

apart_of : (slot x : ℕ) → slot ≢ x → eqb slot x ≡ false
apart_of slot x apart = ⊎_elim (λ same. absurd (apart same.1)) (λ other. other.0) (eqb_tells slot x)

used_inside : (first n x : ℕ) (slots : List ℕ) → first ≤ x → x < first + n → used first n (x ∷ slots) ≡ used first n slots + further x slots
used_inside first zero x slots low high = absurd (omega (arith, low, high))
used_inside first (suc n) x slots low high = ⊎_elim
    (λ same.
    let rest : used first n (x ∷ slots) ≡ used first n slots
    = used_outside first n x slots (λ slot above below. apart_of slot x (λ is. absurd (omega (arith, is, same.1, below)))) in
    let here : stands (first + n) (x ∷ slots) ≡ stands (first + n) slots + further x slots =
    subst (λ k. stands k (x ∷ slots) ≡ stands k slots + further x slots) (sym same.1) (stands_first x slots ∙ sym (stands_more x slots)) in
    omega (arith, rest, here))
    (λ other. omega (arith, stands_other (first + n) x slots other.0, used_inside first n x slots low (lower other.1)))
    (eqb_tells (first + n) x)
  where
    lower : first + n ≢ x → x < first + n
    lower apart = at (nat_lt x (first + n)) refl
      where
        at : (b : Bool) → nat_lt x (first + n) ≡ b → x < first + n
        at true is = grind (arith, is)
        at false is =
            let past : first + n ≤ x = grind (arith, is) in
            let same : first + n ≡ x = omega (arith, past, high) in
            absurd (apart same)

used_none : (first n : ℕ) → used first n [] ≡ 0
used_none first zero = refl
used_none first (suc n) = omega (arith, used_none first n)

-- a slot of the segment stands in what of a list is in the segment exactly if it stands in the list
any_stands : (first size x : ℕ) (slots : List ℕ) → first ≤ x → x < first + size
    → list_any (λ other. eqb x other) (of_segment first size slots) ≡ nat_lt 0 (times x slots)
any_stands first size x [] low high = refl
any_stands first size x (y ∷ slots) low high = at (nat_le first y && nat_lt y (first + size)) refl (any_stands first size x slots low high)
  where
    found : (b : Bool) → eqb x y ≡ b → list_any (λ other. eqb x other) (of_segment first size slots) ≡ nat_lt 0 (times x slots)
        → (eqb x y || list_any (λ other. eqb x other) (of_segment first size slots)) ≡ nat_lt 0 (times x (y ∷ slots))
    found true is rest =
        let there : 0 < times x (y ∷ slots) = omega (arith, times_cons x y slots, ap {B = ℕ} (λ b. cond b 1 0) is) in
        let so : nat_lt 0 (times x (y ∷ slots)) ≡ true = grind (arith, there) in
        ap (λ b. b || list_any (λ other. eqb x other) (of_segment first size slots)) is ∙ sym so
    found false is rest =
        let same : times x (y ∷ slots) ≡ times x slots = omega (arith, times_cons x y slots, one_other x y is) in
        ap (λ b. b || list_any (λ other. eqb x other) (of_segment first size slots)) is ∙ rest ∙ ap (nat_lt 0) (sym same)

    outside : (nat_le first y && nat_lt y (first + size)) ≡ false → x ≢ y
    outside is same =
        let low_is : nat_le first y ≡ true = grind (arith, low, same) in
        let high_is : nat_lt y (first + size) ≡ true = grind (arith, high, same) in
        let wrong : (true && true) ≡ false = subst (λ b. (b && true) ≡ false) low_is
        (subst (λ b. (nat_le first y && b) ≡ false) high_is is) in
        search (rules, wrong)

    at : (b : Bool) → (nat_le first y && nat_lt y (first + size)) ≡ b
        → list_any (λ other. eqb x other) (of_segment first size slots) ≡ nat_lt 0 (times x slots)
        → list_any (λ other. eqb x other) (of_segment first size (y ∷ slots)) ≡ nat_lt 0 (times x (y ∷ slots))
    at true is rest = rw is (found (eqb x y) refl rest)
    at false is rest =
        let same : times x (y ∷ slots) ≡ times x slots = omega (arith, times_cons x y slots, one_other x y (apart_of x y (outside is))) in
        rw is (rest ∙ ap (nat_lt 0) (sym same))

-- as many different slots of a segment are in a list as slots of it stand there
different_used : (first size : ℕ) (slots : List ℕ) → different (of_segment first size slots) ≡ used first size slots
different_used first size [] = sym (used_none first size)
different_used first size (x ∷ slots) = at (nat_le first x) (nat_lt x (first + size)) refl refl (different_used first size slots)
  where
    inside : (b : Bool) → nat_lt 0 (times x slots) ≡ b → different (of_segment first size slots) ≡ used first size slots
        → used first size (x ∷ slots) ≡ used first size slots + further x slots
        → (if nat_lt 0 (times x slots) then different (of_segment first size slots) else 1 + different (of_segment first size slots))
        ≡ used first size (x ∷ slots)
    inside true is rest more =
        let none : further x slots ≡ 0 = rw is refl in
        rw is (omega (arith, rest, more, none))
    inside false is rest more =
        let one_more : further x slots ≡ 1 = rw is refl in
        rw is (omega (arith, rest, more, one_more))

    at : (low high : Bool) → nat_le first x ≡ low → nat_lt x (first + size) ≡ high
        → different (of_segment first size slots) ≡ used first size slots
        → different (of_segment first size (x ∷ slots)) ≡ used first size (x ∷ slots)
    at true true low high rest =
        let from : first ≤ x = grind (arith, low) in
        let below : x < first + size = grind (arith, high) in
        rw low (rw high (rw (any_stands first size x slots from below)
        (inside (nat_lt 0 (times x slots)) refl rest (used_inside first size x slots from below))))
    at true false low high rest =
        let past : first + size ≤ x = grind (arith, high) in
        rw low (rw high (rest ∙ sym (used_outside first size x slots
        (λ slot above under. apart_of slot x (λ same. absurd (omega (arith, same, under, past)))))))
    at false high low is rest =
        let before : x < first = grind (arith, low) in
        rw low (rest ∙ sym (used_outside first size x slots
        (λ slot above under. apart_of slot x (λ same. absurd (omega (arith, same, above, before))))))

used_few : (first n : ℕ) (slots : List ℕ) → used first n slots ≤ n
used_few first zero slots = omega arith
used_few first (suc n) slots = omega (arith, stands_few (first + n) slots, used_few first n slots)

stands_is : (slot : ℕ) (slots : List ℕ) → 0 < times slot slots → stands slot slots ≡ 1
stands_is slot slots there = let is : nat_lt 0 (times slot slots) ≡ true = grind (arith, there) in rw is refl

is_standing : (slot : ℕ) (slots : List ℕ) → stands slot slots ≡ 1 → 0 < times slot slots
is_standing slot slots is = at (nat_lt 0 (times slot slots)) refl
  where
    at : (b : Bool) → nat_lt 0 (times slot slots) ≡ b → 0 < times slot slots
    at true there = grind (arith, there)
    at false none = let wrong : 0 ≡ 1 = ap (λ b. if b then 1 else 0) (sym none) ∙ is in absurd (omega (arith, wrong))

all_used : (first n : ℕ) (slots : List ℕ) → ((slot : ℕ) → first ≤ slot → slot < first + n → 0 < times slot slots) → used first n slots ≡ n
all_used first zero slots all = refl
all_used first (suc n) slots all = omega (
  arith,
  stands_is (first + n) slots (all (first + n) (omega arith) (omega arith)),
  all_used first n slots (λ slot low high. all slot low (omega (arith, high))),
)

used_all : (first n : ℕ) (slots : List ℕ) → used first n slots ≡ n → (slot : ℕ) → first ≤ slot → slot < first + n → 0 < times slot slots
used_all first zero slots many slot low high = absurd (omega (arith, low, high))
used_all first (suc n) slots many slot low high = ⊎_elim
    (λ same. subst (λ k. 0 < times k slots) (sym same.1)
    (is_standing (first + n) slots (omega (arith, many, stands_few (first + n) slots, used_few first n slots))))
    (λ other. used_all first n slots (omega (arith, many, stands_few (first + n) slots, used_few first n slots)) slot low (lower other.1))
    (eqb_tells slot (first + n))
  where
    lower : slot ≢ first + n → slot < first + n
    lower apart = at (nat_lt slot (first + n)) refl
      where
        at : (b : Bool) → nat_lt slot (first + n) ≡ b → slot < first + n
        at true is = grind (arith, is)
        at false is =
            let past : first + n ≤ slot = grind (arith, is) in
            let same : slot ≡ first + n = omega (arith, past, high) in
            absurd (apart same)

pub full_exactly_if : FullExactlyIf
full_exactly_if first size slots = (
  (λ all. different_used first size slots ∙ all_used first size slots all),
  (λ many. used_all first size slots (sym (different_used first size slots) ∙ many)),
)
