-- The slots below the mark keep their uses, so the first slot without a use is the first one from the mark on.
use Rattle.std.proofs.Common.{ℕ, zero, suc, ◌≡◌, ◌+◌, ◌-◌, ◌<◌, ◌≤◌, ◌==◌, nat_lt, List, [], ◌∷◌}
use Rattle.std.proofs.Common.{length, set, get_or, Bool, true, false, ◌||◌, if◌then◌else◌, Some, None, refl, sym, ◌∙◌, ap, subst}
use Rattle.std.proofs.Common.{inl, inr, arith}
use Rattle.std.specs.List.{list_any}
use Rattle.std.proofs.lemmas.Bool.{cases_lt, cases_eq, cond-true, cond-false, eq-eqb, eqb-false, ne_eqb, lt-ltb, le-ltb}
use Rattle.std.proofs.lemmas.List.{length-set, get_or-set_same, get_or-set_other, get_or_default}
use Rattle.iox_lanes_parties.specs.QueuesSteps.Access.{successor}
use Rattle.iox_lanes_parties.specs.PublisherKeeping.{put_at, counted_up, counted_down, first_free, stands_in}
use Rattle.iox_lanes_parties.specs.UseCounts.{AreUsedBelow}

found_from : (counts : List ℕ) (mark from : ℕ) → AreUsedBelow mark counts → get_or counts mark 0 ≡ 0 → mark < length counts
    → first_free counts from ≡ Some (from + mark)
found_from [] mark from used free within = absurd (omega (arith, within))
found_from (count ∷ counts) zero from used free within =
    cond-true (count == 0) (Some from) (first_free counts (from + 1)) (eq-eqb count 0 free) ∙ ap Some (omega arith)
found_from (count ∷ counts) (suc mark) from used free within =
    cond-false (count == 0) (Some from) (first_free counts (from + 1))
    (ne_eqb count 0 (λ none. omega (arith, none, used zero (omega arith) (omega arith))))
    ∙ found_from counts mark (from + 1) (λ slot below inside. used (suc slot) (omega (arith, below)) (omega (arith, inside))) free
    (omega (arith, within)) ∙ ap Some (omega arith)

none_from : (counts : List ℕ) (mark from : ℕ) → AreUsedBelow mark counts → length counts ≤ mark → first_free counts from ≡ None
none_from [] mark from used past = refl
none_from (count ∷ counts) mark from used past =
    cond-false (count == 0) (Some from) (first_free counts (from + 1))
    (ne_eqb count 0 (λ none. omega (arith, none, used zero (omega (arith, past)) (omega arith))))
    ∙ none_from counts (mark - 1) (from + 1)
    (λ slot below inside. used (suc slot) (omega (arith, below)) (omega (arith, inside))) (omega (arith, past))

pub found_at_mark : (counts : List ℕ) (mark : ℕ) → AreUsedBelow mark counts → get_or counts mark 0 ≡ 0 → mark < length counts
    → first_free counts 0 ≡ Some mark
found_at_mark counts mark used free within = found_from counts mark 0 used free within ∙ ap Some (omega arith)

pub none_found : (counts : List ℕ) (mark : ℕ) → AreUsedBelow mark counts → length counts ≤ mark → first_free counts 0 ≡ None
none_found counts mark used past = none_from counts mark 0 used past

-- a place that is put at another value
put_at_other : (xs : List ℕ) (at k x : ℕ) → (k ≡ at → ⊥) → get_or (put_at xs at x) k 0 ≡ get_or xs k 0
put_at_other xs at k x apart = elim (cases_lt at (length xs)) [
  | inl within ↦ ap (λ ys. get_or ys k 0) (cond-true (nat_lt at (length xs)) (set xs at x) xs (lt-ltb at (length xs) within))
      ∙ get_or-set_other xs at k x 0 apart
  | inr past ↦ ap (λ ys. get_or ys k 0) (cond-false (nat_lt at (length xs)) (set xs at x) xs (le-ltb at (length xs) past))
]

put_at_same : (xs : List ℕ) (at x : ℕ) → at < length xs → get_or (put_at xs at x) at 0 ≡ x
put_at_same xs at x within =
    ap (λ ys. get_or ys at 0) (cond-true (nat_lt at (length xs)) (set xs at x) xs (lt-ltb at (length xs) within))
    ∙ get_or-set_same xs at x 0 within

put_at_length : (xs : List ℕ) (at x : ℕ) → length (put_at xs at x) ≡ length xs
put_at_length xs at x = elim (cases_lt at (length xs)) [
  | inl within ↦ ap length (cond-true (nat_lt at (length xs)) (set xs at x) xs (lt-ltb at (length xs) within)) ∙ length-set xs at x
  | inr past ↦ ap length (cond-false (nat_lt at (length xs)) (set xs at x) xs (le-ltb at (length xs) past))
]

-- where the slot that a change is of has a use afterwards, or lies at the mark or above, the slots below have theirs
kept_below : (counts : List ℕ) (mark at x : ℕ) → AreUsedBelow mark counts → (at < mark → at < length counts → 0 < x)
    → AreUsedBelow mark (put_at counts at x)
kept_below counts mark at x used some slot below inside = elim (cases_eq slot at) [
  | inl same ↦
      let within : at < length counts = omega (arith, inside, same, put_at_length counts at x) in
      subst (λ n. 0 < get_or (put_at counts at x) n 0) (sym same)
      (subst (λ n. 0 < n) (sym (put_at_same counts at x within)) (some (omega (arith, below, same)) within))
  | inr apart ↦
      subst (λ n. 0 < n) (sym (put_at_other counts at slot x apart))
      (used slot below (omega (arith, inside, put_at_length counts at x)))
]

pub used_more : (counts : List ℕ) (mark at : ℕ) → AreUsedBelow mark counts → AreUsedBelow mark (counted_up counts at)
used_more counts mark at used = kept_below counts mark at (successor (get_or counts at 0)) used (λ below within. omega arith)

-- one use less, of a slot that still has one
pub used_less : (counts : List ℕ) (mark at : ℕ) → AreUsedBelow mark counts
    → ((get_or (counted_down counts at) at 1 == 0) ≡ false) → AreUsedBelow mark (counted_down counts at)
used_less counts mark at used left = kept_below counts mark at (get_or counts at 0 - 1) used by
  where
    by : at < mark → at < length counts → 0 < get_or counts at 0 - 1
    by below within =
        let now : get_or (counted_down counts at) at 1 ≡ get_or counts at 0 - 1 =
        get_or_default (counted_down counts at) at 1 0 (omega (arith, within, put_at_length counts at (get_or counts at 0 - 1)))
        ∙ put_at_same counts at (get_or counts at 0 - 1) within in
        let some : get_or (counted_down counts at) at 1 ≡ 0 → ⊥ = eqb-false (get_or (counted_down counts at) at 1) 0 left in
        elim (cases_eq (get_or counts at 0 - 1) 0) [
          | inl none ↦ absurd (some (now ∙ none))
          | inr more ↦ omega (arith, more)
        ]

pub used_above : (counts : List ℕ) (mark at : ℕ) → AreUsedBelow mark counts → mark ≤ at → AreUsedBelow mark (counted_down counts at)
used_above counts mark at used above =
    kept_below counts mark at (get_or counts at 0 - 1) used (λ below within. absurd (omega (arith, below, above)))

-- below the slot itself
pub freed : (counts : List ℕ) (mark at : ℕ) → AreUsedBelow mark counts → at < mark → AreUsedBelow at (counted_down counts at)
freed counts mark at used less =
    kept_below counts at at (get_or counts at 0 - 1) (λ slot below inside. used slot (omega (arith, below, less)) inside)
    (λ below within. absurd (omega (arith, below)))

-- the next slot has a use, too
pub used_on : (counts : List ℕ) (mark : ℕ) → AreUsedBelow mark counts → ((get_or counts mark 0 ≡ 0) → ⊥) → AreUsedBelow (mark + 1) counts
used_on counts mark used some slot below inside = elim (cases_eq slot mark) [
  | inl same ↦ subst (λ n. 0 < get_or counts n 0) (sym same) (elim (cases_eq (get_or counts mark 0) 0) [
    | inl none ↦ absurd (some none)
    | inr more ↦ omega (arith, more)
  ])
  | inr apart ↦ used slot (omega (arith, below, apart)) inside
]

or_is : (b c : Bool) → (b || c) ≡ (if b then true else c)
or_is true c = refl
or_is false c = refl

-- a number is in a list if one of the list equals it
pub stands_if_any : (slot : ℕ) (xs : List ℕ) → list_any (λ x. x == slot) xs ≡ stands_in slot xs
stands_if_any slot [] = refl
stands_if_any slot (x ∷ xs) = ap (λ rest. (x == slot) || rest) (stands_if_any slot xs) ∙ or_is (x == slot) (stands_in slot xs)
