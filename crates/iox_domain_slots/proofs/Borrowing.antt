-- What is borrowed of a connection is found in the cells near the one that its slot names.
use Rattle.std.proofs.Common.{arith, ◌≡◌, ◌≢◌, inl, inr, ◌+◌, ◌-◌, ◌<◌, ◌≤◌, ◌==◌, ◌%◌, ◌∷◌, [], ◌++◌, ℕ, zero, suc, Bool, true, false}
use Rattle.std.proofs.Common.{List, length, get_or, nat_lt, remove, reverse, is_some, Option, None, Some, refl, sym, ap, ◌∙◌, subst}
use Rattle.std.specs.Option.{IfSome, IfNone}
use Rattle.std.proofs.Math.Logic.{⊎_elim}
use Rattle.std.proofs.Math.Dec.{eqb}
use Rattle.std.proofs.Math.ListN.{set}
use Rattle.std.proofs.lemmas.Bool.{cases_eq, cases_Bool}
use Rattle.std.proofs.lemmas.Bool.Decides.{eqb_tells, nat_tests}
use Rattle.std.proofs.lemmas.List.{append-nil, append_assoc, reverse-reverse, get_or-set_same, get_or-set_other, map-append}
use Rattle.iox_container.specs.SlotTable.{Among}
use Rattle.iox_container.specs.Links.{LinksKeys, walk}
use Rattle.iox_container.specs.Unique.{is_among}
use Rattle.iox_domain_slots.specs.Counting.{times}
use Rattle.iox_domain_slots.specs.Loans.{place_in}
use Rattle.iox_domain_slots.specs.Borrowed.{cell_behind, cell_of, slots_in, IsOldest, IsNear, IsNearBelow, IsOnce}
use Rattle.iox_domain_slots.proofs.Counts.{one, times_cons}
use Rattle.iox_domain_slots.proofs.Enough.{pigeons}
use Rattle.iox_domain_slots.proofs.Loaned.{among, is_there, isnt_there, isnt_lent, not_true, reverse_step, further_on}

-- each cell lies n steps after any other
pub steps_to : (cells home cell : ℕ) → home < cells → cell < cells → (step : ℕ) × (step < cells) × (cell_behind cells home step ≡ cell)
steps_to cells home cell low within = at (nat_lt cell home) refl
  where
    at : (before : Bool) → nat_lt cell home ≡ before → (step : ℕ) × (step < cells) × (cell_behind cells home step ≡ cell)
    at true is =
        let below : cell < home = grind (arith, is, nat_tests) in
        let test : nat_lt (cells - home + cell) (cells - home) ≡ false = grind (arith, nat_tests) in
        (cells - home + cell, omega (arith, below, low, within), rw test (omega (arith, low, within)))
    at false is =
        let above : home ≤ cell = grind (arith, is, nat_tests) in
        let less : cell - home < cells - home = omega (arith, above, low, within) in
        let test : nat_lt (cell - home) (cells - home) ≡ true = grind (arith, nat_tests, less) in
        (cell - home, omega (arith, above, low, within), rw test (omega (arith, above, low, within)))

-- who is among others is counted there
pub among_counted : (k : ℕ) (xs : List ℕ) → is_among k xs ≡ true → 0 < times k xs
among_counted k xs there = ⊎_elim (λ some. grind (arith, some, nat_tests)) (λ none. absurd (nowhere none))
    (cases_Bool (nat_lt 0 (times k xs)))
  where
    nowhere : nat_lt 0 (times k xs) ≡ false → ⊥
    nowhere none = not_true (sym (isnt_lent k xs (grind (arith, none, nat_tests))) ∙ there)

-- not all cells are taken where fewer are taken than there are
pub some_free : (order : List ℕ) (cells slot : ℕ) → slot % cells < cells
    → ((step : ℕ) → step < cells → is_among (cell_of cells slot step) order ≡ true) → length order < cells → ⊥
some_free order cells slot low all few =
    let many : cells ≤ length order = pigeons 0 cells order (λ cell from below.
    let (step, within, is) = steps_to cells (slot % cells) cell low (omega (arith, below)) in
    among_counted cell order (subst (λ at. is_among at order ≡ true) is (all step within))) in
    omega (arith, many, few)

-- a slot that is among those of cells lies in one of them
pub lies_in : (slots order : List ℕ) (slot : ℕ) → Among slot (slots_in slots order)
    → (cell : ℕ) × Among cell order × (get_or slots cell 0 ≡ slot)
lies_in slots [] slot there = absurd there
lies_in slots (x ∷ xs) slot there = elim there as (λ _. (cell : ℕ) × Among cell (x ∷ xs) × (get_or slots cell 0 ≡ slot)) [
  | inl e ↦ (x, inl refl, sym e)
  | inr h ↦ let (cell, among_xs, is) = lies_in slots xs slot h in (cell, inr among_xs, is)
]

-- the other way round
pub lies_among : (slots order : List ℕ) (slot cell : ℕ) → Among cell order → get_or slots cell 0 ≡ slot → Among slot (slots_in slots order)
lies_among slots [] slot cell there is = absurd there
lies_among slots (x ∷ xs) slot cell there is = elim there as (λ _. Among slot (slots_in slots (x ∷ xs))) [
  | inl e ↦ inl (sym is ∙ ap (λ at. get_or slots at 0) e)
  | inr h ↦ inr (lies_among slots xs slot cell h is)
]

-- a slot that lies in none of the cells near the one that it names isn't there
nowhere_near : (cells : ℕ) (slots order : List ℕ) (slot reach : ℕ) → IsNear cells slots order reach
    → ((step : ℕ) → step ≤ reach → is_among (cell_of cells slot step) order ≡ true
    → get_or slots (cell_of cells slot step) 0 ≡ slot → ⊥)
    → is_among slot (slots_in slots order) ≡ false
nowhere_near cells slots order slot reach near none = isnt_there slot (slots_in slots order) lies
  where
    lies : Among slot (slots_in slots order) → ⊥
    lies there =
        let (cell, taken, same) = lies_in slots order slot there in
        let (step, low, is) = near cell (is_there cell order taken) in
        let here : cell ≡ cell_of cells slot step = is ∙ ap (λ s. cell_of cells s step) same in
        none step low (subst (λ at. is_among at order ≡ true) here (is_there cell order taken))
        (subst (λ at. get_or slots at 0 ≡ slot) here same)

differ : (x y : ℕ) → (x ≡ y → ⊥) → (x == y) ≡ false
differ x y apart = grind (arith, nat_tests, apart)

equal : (x y : ℕ) → x ≡ y → (x == y) ≡ true
equal x y same = grind (arith, nat_tests, same)

-- where each slot is there once, one of this number is the oldest
pub sole_oldest : (slots order : List ℕ) (slot cell : ℕ) → IsOnce slots order → Among cell order → get_or slots cell 0 ≡ slot
    → place_in slot (slots_in slots order) ≡ place_in cell order
sole_oldest slots [] slot cell once there same = absurd there
sole_oldest slots (x ∷ xs) slot cell once there same =
    elim (cases_eq cell x) as (λ _. place_in slot (slots_in slots (x ∷ xs)) ≡ place_in cell (x ∷ xs)) [
      | inl e ↦
          rw (equal (get_or slots x 0) slot (ap (λ at. get_or slots at 0) (sym e) ∙ same)) (rw (equal x cell (sym e)) refl)
      | inr n ↦
          let later : Among cell xs = elim there as (λ _. Among cell xs) [ inl e ↦ absurd (n e) | inr h ↦ h ] in
          let rest : IsOnce slots xs = λ one other at_one at_other. once one other
          (is_there one (x ∷ xs) (inr (among one xs at_one))) (is_there other (x ∷ xs) (inr (among other xs at_other))) in
          let other_slot : get_or slots x 0 ≡ slot → ⊥ = λ is. n
          (once cell x (is_there cell (x ∷ xs) there) (is_there x (x ∷ xs) (inl refl)) (same ∙ sym is)) in
          rw (differ (get_or slots x 0) slot other_slot) (rw (differ x cell (λ e. n (sym e)))
          (ap (λ at. 1 + at) (sole_oldest slots xs slot cell rest later same)))
    ]

pub once_found : (slots order : List ℕ) (slot : ℕ) (found : Option ℕ) → IsOnce slots order
    → IfSome found (λ cell. is_among cell order ≡ true) → IfSome found (λ cell. get_or slots cell 0 ≡ slot)
    → IfSome found (λ cell. IsOldest slots order slot cell)
once_found slots order slot None once taken same = taken
once_found slots order slot (Some cell) once taken same = record {
  taken = taken;
  same = same;
  oldest = sole_oldest slots order slot cell once (among cell order taken) same;
}

pub none_found : (cells : ℕ) (slots order : List ℕ) (slot reach : ℕ) (found : Option ℕ) → IsNear cells slots order reach
    → IfNone found ((step : ℕ) → step ≤ reach → is_among (cell_of cells slot step) order ≡ true
    → get_or slots (cell_of cells slot step) 0 ≡ slot → ⊥)
    → IfNone found (is_among slot (slots_in slots order) ≡ false)
none_found cells slots order slot reach None near none = nowhere_near cells slots order slot reach near none
none_found cells slots order slot reach (Some cell) near none = none

-- what was found among those that were gone over, the oldest last
abbrev pub IsFound : List ℕ → List ℕ → ℕ → Option ℕ → Type 0
IsFound slots order slot None = is_among slot (slots_in slots order) ≡ false
IsFound slots order slot (Some cell) = IsOldest slots order slot cell

-- how far the cells are gone over, from the newest on
abbrev pub IsWalked : List ℕ → ℕ → ℕ → List ℕ → ℕ → Option ℕ → ℕ → ℕ → Type 0
IsWalked older len newest slots slot found cell count = (passed : List ℕ)
    × (reverse passed ++ walk older (len - count) cell ≡ walk older len newest) × IsFound slots passed slot found

-- one of this number is older than those before
found_here : (slots passed : List ℕ) (slot cell : ℕ) → get_or slots cell 0 ≡ slot → IsFound slots (cell ∷ passed) slot (Some cell)
found_here slots passed slot cell same = record {
  taken = is_there cell (cell ∷ passed) (inl refl);
  same = same;
  oldest = rw (equal (get_or slots cell 0) slot same) (rw (equal cell cell refl) refl);
}

found_before : (slots passed : List ℕ) (slot cell : ℕ) (found : Option ℕ) → (get_or slots cell 0 ≡ slot → ⊥)
    → IsFound slots passed slot found → IsFound slots (cell ∷ passed) slot found
found_before slots passed slot cell None other found =
    let test : eqb slot (get_or slots cell 0) ≡ false = ⊎_elim (λ same. absurd (other (sym same.1))) (λ apart. apart.0)
    (eqb_tells slot (get_or slots cell 0)) in
    rw test found
found_before slots passed slot cell (Some first) other found =
    let apart : cell ≡ first → ⊥ = λ e. other (ap (λ at. get_or slots at 0) e ∙ found.same) in
    record {
      taken = is_there first (cell ∷ passed) (inr (among first passed found.taken));
      same = found.same;
      oldest = rw (differ (get_or slots cell 0) slot other) (rw (differ cell first apart) (ap (λ at. 1 + at) found.oldest));
    }

-- the cell that comes next
walked_to : (older : List ℕ) (len newest cell count to : ℕ) (passed : List ℕ)
    → reverse passed ++ walk older (len - count) cell ≡ walk older len newest → count < len → to ≡ get_or older cell 0
    → reverse (cell ∷ passed) ++ walk older (len - (count + 1)) to ≡ walk older len newest
walked_to older len newest cell count to passed so_far within is =
    let left : len - count ≡ suc (len - (count + 1)) = omega (arith, within) in
    let on : walk older (len - count) cell ≡ cell ∷ walk older (len - (count + 1)) to
    = ap (λ n. walk older n cell) left ∙ ap (λ at. cell ∷ walk older (len - (count + 1)) at) (sym is) in
    ap (λ xs. xs ++ walk older (len - (count + 1)) to) (reverse_step cell passed)
    ∙ append_assoc (reverse passed) (cell ∷ []) (walk older (len - (count + 1)) to)
    ∙ ap (λ xs. reverse passed ++ xs) (sym on) ∙ so_far

pub walked_on : (older : List ℕ) (len newest : ℕ) (slots : List ℕ) (slot : ℕ) (found now : Option ℕ) (cell count to : ℕ)
    → IsWalked older len newest slots slot found cell count → count < len → to ≡ get_or older cell 0
    → (get_or slots cell 0 ≡ slot → now ≡ Some cell) → ((get_or slots cell 0 ≡ slot → ⊥) → now ≡ found)
    → IsWalked older len newest slots slot now to (count + 1)
walked_on older len newest slots slot found now cell count to walked within is here elsewhere = (
  cell ∷ walked.0,
  walked_to older len newest cell count to walked.0 walked.1 within is,
  elim (cases_eq (get_or slots cell 0) slot) as (λ _. IsFound slots (cell ∷ walked.0) slot now) [
    | inl e ↦ subst (λ one. IsFound slots (cell ∷ walked.0) slot one) (sym (here e)) (found_here slots walked.0 slot cell e)
    | inr n ↦ subst (λ one. IsFound slots (cell ∷ walked.0) slot one) (sym (elsewhere n))
        (found_before slots walked.0 slot cell found n walked.2)
  ],
)

among_mid : (xs ys : List ℕ) (k : ℕ) → Among k (xs ++ k ∷ ys)
among_mid [] ys k = inl refl
among_mid (x ∷ xs) ys k = inr (among_mid xs ys k)

-- a cell that is gone over is one that there is
pub walked_within : (older newer : List ℕ) (newest made len : ℕ) (slots : List ℕ) (slot : ℕ) (found : Option ℕ) (cell count : ℕ)
    → LinksKeys older newer newest made len (walk older len newest)
    → IsWalked older len newest slots slot found cell count → count < len → cell < made
walked_within older newer newest made len slots slot found cell count links walked within =
    let left : len - count ≡ suc (len - (count + 1)) = omega (arith, within) in
    let on : reverse walked.0 ++ cell ∷ walk older (len - (count + 1)) (get_or older cell 0) ≡ walk older len newest
    = ap (λ n. reverse walked.0 ++ walk older n cell) (sym left) ∙ walked.1 in
    links.below cell (subst (λ xs. Among cell xs) on (among_mid (reverse walked.0) _ cell))

-- all are gone over
pub walked_all : (older : List ℕ) (len newest : ℕ) (slots : List ℕ) (slot : ℕ) (found : Option ℕ) (cell count : ℕ)
    → IsWalked older len newest slots slot found cell count → len ≤ count → IsFound slots (reverse (walk older len newest)) slot found
walked_all older len newest slots slot found cell count walked over =
    let none : len - count ≡ 0 = omega (arith, over) in
    let all : reverse walked.0 ≡ walk older len newest
    = sym (append-nil (reverse walked.0)) ∙ ap (λ n. reverse walked.0 ++ walk older n cell) (sym none) ∙ walked.1 in
    let is : walked.0 ≡ reverse (walk older len newest) = sym (reverse-reverse walked.0) ∙ ap reverse all in
    subst (λ xs. IsFound slots xs slot found) is walked.2

pub found_some : (slots order : List ℕ) (slot : ℕ) (found : Option ℕ) → IsFound slots order slot found
    → IfSome found (λ cell. IsOldest slots order slot cell)
found_some slots order slot None found = tt
found_some slots order slot (Some cell) found = found

pub found_none : (slots order : List ℕ) (slot : ℕ) (found : Option ℕ) → IsFound slots order slot found
    → IfNone found (is_among slot (slots_in slots order) ≡ false)
found_none slots order slot None found = found
found_none slots order slot (Some cell) found = tt

-- whether a slot is there is told by whether it was found
pub found_tells : (slots order : List ℕ) (slot : ℕ) (found : Option ℕ) → IfSome found (λ cell. IsOldest slots order slot cell)
    → IfNone found (is_among slot (slots_in slots order) ≡ false) → is_some found ≡ is_among slot (slots_in slots order)
found_tells slots order slot None some none = sym none
found_tells slots order slot (Some cell) some none
    = sym (is_there slot (slots_in slots order) (lies_among slots order slot cell (among cell order some.taken) some.same))

pub none_twice : (cells : ℕ) (slots order : List ℕ) (slot reach : ℕ) (found : Option ℕ) → IsNear cells slots order reach
    → IfNone found ((step : ℕ) → step ≤ reach → is_among (cell_of cells slot step) order ≡ true
    → get_or slots (cell_of cells slot step) 0 ≡ slot → ⊥)
    → is_some found ≡ false → is_among slot (slots_in slots order) ≡ false
none_twice cells slots order slot reach None near none is = nowhere_near cells slots order slot reach near none
none_twice cells slots order slot reach (Some cell) near none is = absurd (not_true (sym is))

pub some_twice : (slots order : List ℕ) (slot : ℕ) (found : Option ℕ) → IfSome found (λ cell. is_among cell order ≡ true)
    → IfSome found (λ cell. get_or slots cell 0 ≡ slot) → is_some found ≡ true → is_among slot (slots_in slots order) ≡ true
some_twice slots order slot None taken same is = absurd (not_true is)
some_twice slots order slot (Some cell) taken same is
    = is_there slot (slots_in slots order) (lies_among slots order slot cell (among cell order taken) same)

-- a cell that isn't taken may be written
pub slots_kept : (slots order : List ℕ) (cell slot : ℕ) → (Among cell order → ⊥)
    → slots_in (set slots cell slot) order ≡ slots_in slots order
slots_kept slots [] cell slot free = refl
slots_kept slots (x ∷ xs) cell slot free =
    let apart : x ≡ cell → ⊥ = λ e. free (inl (sym e)) in
    ap (λ first. first ∷ slots_in (set slots cell slot) xs) (get_or-set_other slots cell x slot 0 apart)
    ∙ ap (λ rest. get_or slots x 0 ∷ rest) (slots_kept slots xs cell slot (λ there. free (inr there)))

-- cells that are made as others were tell the same of those that are taken
pub near_made : (cells : ℕ) (slots more order : List ℕ) (reach : ℕ) → ((at : ℕ) → get_or more at 0 ≡ get_or slots at 0)
    → IsNear cells slots order reach → IsNear cells more order reach
near_made cells slots more order reach same near cell there =
    let (at, few, is) = near cell there in
    (at, few, is ∙ ap (λ s. cell_of cells s at) (sym (same cell)))

pub once_made : (slots more order : List ℕ) → ((at : ℕ) → get_or more at 0 ≡ get_or slots at 0)
    → IsOnce slots order → IsOnce more order
once_made slots more order same once one other there there_too is
    = once one other there there_too (sym (same one) ∙ is ∙ same other)

pub slots_made : (slots more order : List ℕ) → ((at : ℕ) → get_or more at 0 ≡ get_or slots at 0)
    → slots_in more order ≡ slots_in slots order
slots_made slots more [] same = refl
slots_made slots more (x ∷ xs) same
    = ap (λ first. first ∷ slots_in more xs) (same x) ∙ ap (λ rest. get_or slots x 0 ∷ rest) (slots_made slots more xs same)

-- a cell more, with nothing in it
pub cell_made : (slots : List ℕ) (at : ℕ) → get_or (slots ++ 0 ∷ []) at 0 ≡ get_or slots at 0
cell_made [] zero = refl
cell_made [] (suc at) = refl
cell_made (x ∷ xs) zero = refl
cell_made (x ∷ xs) (suc at) = cell_made xs at

-- a slot comes into a free cell, as the newest
pub slots_pushed : (slots order : List ℕ) (cell slot : ℕ) → is_among cell order ≡ false → cell < length slots
    → slots_in (set slots cell slot) (order ++ cell ∷ []) ≡ slots_in slots order ++ slot ∷ []
slots_pushed slots order cell slot free within =
    map-append (λ at. get_or (set slots cell slot) at 0) order (cell ∷ [])
    ∙ ap (λ xs. xs ++ get_or (set slots cell slot) cell 0 ∷ []) (slots_kept slots order cell slot
    (λ there. not_true (sym free ∙ is_there cell order there)))
    ∙ ap (λ x. slots_in slots order ++ x ∷ []) (get_or-set_same slots cell slot 0 within)

among_end : (k x : ℕ) (xs : List ℕ) → Among k (xs ++ x ∷ []) → (k ≢ x) → Among k xs
among_end k x [] there apart = elim there as (λ _. Among k []) [ inl e ↦ absurd (apart e) | inr h ↦ h ]
among_end k x (y ∷ ys) there apart = elim there as (λ _. Among k (y ∷ ys)) [ inl e ↦ inl e | inr h ↦ inr (among_end k x ys h apart) ]

-- who was there before a push
before_push : (k x : ℕ) (xs : List ℕ) → is_among k (xs ++ x ∷ []) ≡ true → (k ≢ x) → is_among k xs ≡ true
before_push k x xs there apart = is_there k xs (among_end k x xs (among k (xs ++ x ∷ []) there) apart)

pub near_pushed : (cells : ℕ) (slots order : List ℕ) (reach further step cell slot : ℕ) → IsNear cells slots order reach
    → is_among cell order ≡ false → cell < length slots → cell ≡ cell_of cells slot step → step ≤ further → reach ≤ further
    → IsNear cells (set slots cell slot) (order ++ cell ∷ []) further
near_pushed cells slots order reach further step cell slot near free within is low more other there =
    elim (cases_eq other cell) as (λ _. (at : ℕ) × (at ≤ further)
    × (other ≡ cell_of cells (get_or (set slots cell slot) other 0) at)) [
      | inl e ↦ (
        step,
        low,
        e ∙ is
            ∙ ap (λ s. cell_of cells s step)
            (sym (ap (λ at. get_or (set slots cell slot) at 0) e ∙ get_or-set_same slots cell slot 0 within)),
      )
      | inr n ↦
          let (at, few, was) = near other (before_push other cell order there n) in (
            at,
            omega (arith, few, more),
            was ∙ ap (λ s. cell_of cells s at) (sym (get_or-set_other slots cell other slot 0 n)),
          )
    ]

pub once_pushed : (slots order : List ℕ) (cell slot : ℕ) → IsOnce slots order → is_among slot (slots_in slots order) ≡ false
    → cell < length slots → IsOnce (set slots cell slot) (order ++ cell ∷ [])
once_pushed slots order cell slot once none within one other there there_too same =
    elim (cases_eq one cell) as (λ _. one ≡ other) [
      | inl e ↦ elim (cases_eq other cell) as (λ _. one ≡ other) [
        | inl f ↦ e ∙ sym f
        | inr n ↦
            let is : get_or slots other 0 ≡ slot = sym (get_or-set_other slots cell other slot 0 n) ∙ sym same
            ∙ ap (λ at. get_or (set slots cell slot) at 0) e ∙ get_or-set_same slots cell slot 0 within in
            absurd (not_true (sym none ∙ is_there slot (slots_in slots order)
            (lies_among slots order slot other (among other order (before_push other cell order there_too n)) is)))
      ]
      | inr m ↦ elim (cases_eq other cell) as (λ _. one ≡ other) [
        | inl f ↦
            let is : get_or slots one 0 ≡ slot = sym (get_or-set_other slots cell one slot 0 m) ∙ same
            ∙ ap (λ at. get_or (set slots cell slot) at 0) f ∙ get_or-set_same slots cell slot 0 within in
            absurd (not_true (sym none ∙ is_there slot (slots_in slots order)
            (lies_among slots order slot one (among one order (before_push one cell order there m)) is)))
        | inr n ↦ once one other (before_push one cell order there m) (before_push other cell order there_too n)
            (sym (get_or-set_other slots cell one slot 0 m) ∙ same ∙ get_or-set_other slots cell other slot 0 n)
      ]
    ]

-- who is left when one is taken out was there
left_among : (k : ℕ) (xs : List ℕ) (at : ℕ) → Among k (remove xs at) → Among k xs
left_among k [] zero there = there
left_among k [] (suc at) there = there
left_among k (x ∷ xs) zero there = inr there
left_among k (x ∷ xs) (suc at) there = elim there as (λ _. Among k (x ∷ xs)) [ inl e ↦ inl e | inr h ↦ inr (left_among k xs at h) ]

pub was_among : (k : ℕ) (xs : List ℕ) (at : ℕ) → is_among k (remove xs at) ≡ true → is_among k xs ≡ true
was_among k xs at there = is_there k xs (left_among k xs at (among k (remove xs at) there))

pub near_removed : (cells : ℕ) (slots order : List ℕ) (reach at : ℕ) → IsNear cells slots order reach
    → IsNear cells slots (remove order at) reach
near_removed cells slots order reach at near cell there = near cell (was_among cell order at there)

pub once_removed : (slots order : List ℕ) (at : ℕ) → IsOnce slots order → IsOnce slots (remove order at)
once_removed slots order at once one other there there_too
    = once one other (was_among one order at there) (was_among other order at there_too)

pub slots_removed : (slots order : List ℕ) (at : ℕ) → slots_in slots (remove order at) ≡ remove (slots_in slots order) at
slots_removed slots [] zero = refl
slots_removed slots [] (suc at) = refl
slots_removed slots (x ∷ xs) zero = refl
slots_removed slots (x ∷ xs) (suc at) = ap (λ rest. get_or slots x 0 ∷ rest) (slots_removed slots xs at)

-- a slot of a list stands where it is first
stands_at : (k : ℕ) (xs : List ℕ) → Among k xs → (get_or xs (place_in k xs) 0 ≡ k) × (place_in k xs < length xs)
stands_at k [] there = absurd there
stands_at k (x ∷ xs) there = elim (cases_eq x k) as (λ _. (get_or (x ∷ xs) (place_in k (x ∷ xs)) 0 ≡ k)
    × (place_in k (x ∷ xs) < length (x ∷ xs))) [
      | inl e ↦ rw (equal x k e) (e, omega arith)
      | inr n ↦
          let later : Among k xs = elim there as (λ _. Among k xs) [ inl e ↦ absurd (n (sym e)) | inr h ↦ h ] in
          let at = stands_at k xs later in
          rw (differ x k n) (further_on x xs (place_in k xs) ∙ at.0, omega (arith, at.1))
    ]

times_without : (xs : List ℕ) (at : ℕ) → at < length xs → (k : ℕ) → times k (remove xs at) + one k (get_or xs at 0) ≡ times k xs
times_without [] at below k = absurd (omega (arith, below))
times_without (x ∷ xs) zero below k = omega (arith, times_cons k x xs)
times_without (x ∷ xs) (suc at) below k = omega (
  arith,
  times_cons k x (remove xs at),
  times_cons k x xs,
  times_without xs at (omega (arith, below)) k,
)

length_without : (xs : List ℕ) (at : ℕ) → at < length xs → length (remove xs at) + 1 ≡ length xs
length_without [] at below = absurd (omega (arith, below))
length_without (x ∷ xs) zero below = omega arith
length_without (x ∷ xs) (suc at) below = omega (arith, length_without xs at (omega (arith, below)))

-- a slot that is taken out of a list is counted there once less
pub taken_out : (slot : ℕ) (xs : List ℕ) → is_among slot xs ≡ true
    → (k : ℕ) → times k (remove xs (place_in slot xs)) + one k slot ≡ times k xs
taken_out slot xs there k =
    let at = stands_at slot xs (among slot xs there) in
    omega (arith, times_without xs (place_in slot xs) at.1 k, ap (one k) at.0)

pub one_fewer : (slot : ℕ) (xs : List ℕ) → is_among slot xs ≡ true → length (remove xs (place_in slot xs)) + 1 ≡ length xs
one_fewer slot xs there = length_without xs (place_in slot xs) (stands_at slot xs (among slot xs there)).1

-- what holds of the taken cells below one holds still: where cells are made, where one is taken, where one is taken no longer
pub below_made : (cells : ℕ) (slots more order : List ℕ) (reach count : ℕ) → ((at : ℕ) → get_or more at 0 ≡ get_or slots at 0)
    → IsNearBelow cells slots order reach count → IsNearBelow cells more order reach count
below_made cells slots more order reach count same near cell below there =
    let (at, few, is) = near cell below there in
    (at, few, is ∙ ap (λ s. cell_of cells s at) (sym (same cell)))

pub below_pushed : (cells : ℕ) (slots order : List ℕ) (reach count further step cell slot : ℕ) → IsNearBelow cells slots order reach count
    → is_among cell order ≡ false → cell < length slots → cell ≡ cell_of cells slot step → step ≤ further → reach ≤ further
    → IsNearBelow cells (set slots cell slot) (order ++ cell ∷ []) further count
below_pushed cells slots order reach count further step cell slot near free within is low more other below there =
    elim (cases_eq other cell) as (λ _. (at : ℕ) × (at ≤ further)
    × (other ≡ cell_of cells (get_or (set slots cell slot) other 0) at)) [
      | inl e ↦ (
        step,
        low,
        e ∙ is
            ∙ ap (λ s. cell_of cells s step)
            (sym (ap (λ at. get_or (set slots cell slot) at 0) e ∙ get_or-set_same slots cell slot 0 within)),
      )
      | inr n ↦
          let (at, few, was) = near other below (before_push other cell order there n) in (
            at,
            omega (arith, few, more),
            was ∙ ap (λ s. cell_of cells s at) (sym (get_or-set_other slots cell other slot 0 n)),
          )
    ]

pub below_removed : (cells : ℕ) (slots order : List ℕ) (reach count at : ℕ) → IsNearBelow cells slots order reach count
    → IsNearBelow cells slots (remove order at) reach count
below_removed cells slots order reach count at near cell below there = near cell below (was_among cell order at there)

-- one cell more is examined
pub below_next : (cells : ℕ) (slots order : List ℕ) (reach further step count : ℕ) → IsNearBelow cells slots order reach count
    → (is_among count order ≡ true → count ≡ cell_of cells (get_or slots count 0) step) → step ≤ further → reach ≤ further
    → IsNearBelow cells slots order further (count + 1)
below_next cells slots order reach further step count near here low more cell below there =
    elim (cases_eq cell count) as (λ _. (at : ℕ) × (at ≤ further) × (cell ≡ cell_of cells (get_or slots cell 0) at)) [
      | inl e ↦ (
        step,
        low,
        e ∙ here (subst (λ at. is_among at order ≡ true) e there) ∙ ap (λ at. cell_of cells (get_or slots at 0) step) (sym e),
      )
      | inr n ↦ let (at, few, is) = near cell (omega (arith, below, n)) there in (at, omega (arith, few, more), is)
    ]

-- where all cells that were made were examined, what was found is a reach
pub below_all : (cells : ℕ) (slots order : List ℕ) (reach count : ℕ) → IsNearBelow cells slots order reach count
    → ((cell : ℕ) → is_among cell order ≡ true → cell < count) → IsNear cells slots order reach
below_all cells slots order reach count near made cell there = near cell (made cell there) there

-- how far a cell lies behind another
pub lies_before : (cells home cell : ℕ) → home < cells → cell < home → cell ≡ cell_behind cells home (cells - home + cell)
lies_before cells home cell low before =
    let test : nat_lt (cells - home + cell) (cells - home) ≡ false = grind (arith, nat_tests) in
    rw test (omega (arith, before, low))

pub lies_behind : (cells home cell : ℕ) → home < cells → cell < cells → home ≤ cell → cell ≡ cell_behind cells home (cell - home)
lies_behind cells home cell low within behind =
    let less : cell - home < cells - home = omega (arith, behind, low, within) in
    let test : nat_lt (cell - home) (cells - home) ≡ true = grind (arith, nat_tests, less) in
    rw test (omega (arith, behind, low, within))
