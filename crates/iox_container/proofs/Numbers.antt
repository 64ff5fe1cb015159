-- Entries by rising number: what a search by number tells, and how they still rise where one comes, goes or changes.
use Rattle.std.proofs.Common.{ℕ, zero, suc, ◌≡◌, ◌+◌, ◌-◌, ◌<◌, ◌≤◌, List, [], ◌∷◌, length, get_or, set, Result, Ok, Err, Bool}
use Rattle.std.proofs.Common.{true, false, cond}
use Rattle.std.proofs.Common.{Option, None, Some, is_some, if◌then◌else◌, refl, sym, ap, subst, ◌∙◌, arith}
use Rattle.std.proofs.lemmas.Bool.{eqb-true}
use Rattle.std.proofs.lemmas.Bool.Decides.{nat_tests}
use Rattle.std.proofs.lemmas.Cmp.{nat_cmp_total}
use Rattle.std.proofs.lemmas.List.{get_or-map, length-map}
use Rattle.std.proofs.lemmas.Map.{keys-set_value, lookup-remove_entry}
use Rattle.std.proofs.lemmas.Map.Keys.{below_from_sorted, sorted_head, sorted_tail, IsDistinct-from_sorted}
use Rattle.std.specs.BTreeMap.{insert_entry, is_at}
use Rattle.std.specs.Cmp.{eq_by_cmp_equiv, nat_cmp_is, unsigned_tied}
use Rattle.std.specs.List.{AllByRecursion, HoldsAt, insert, remove}
use Rattle.std.specs.List.Sorted.{IsStrictlySortedBy, IsBinarySearchResult, IsNonDecreasingBy}
use Rattle.std.specs.Map.{keys_of, lookup, remove_entry, set_value}
use Rattle.std.specs.Ordering.{nat_cmp, is_eq, eq_by_cmp, match_ordering, ordering_index, ordering_reverse}
use Rattle.std.specs.Prelude.{IfSome}
use Rattle.std.specs.Result.{result_ok}
use Rattle.std.specs.declared.cmp.Ordering.{Ordering}
use Rattle.std.specs.declared.cmp.Ordering.TheVariants.{Less, Equal, Greater}

-- a key that passes the test is that number
pub is_number : (number key : ℕ) → is_at (nat_cmp number) key ≡ true → number ≡ key
is_number number key passes = eqb-true number key (sym (unsigned_tied number key) ∙ passes)

another : (b : Bool) (number key : ℕ) → is_at (nat_cmp number) key ≡ b → (number ≡ key → ⊥) → b ≡ false
another true number key is apart = absurd (apart (is_number number key is))
another false number key is apart = refl

-- a number that differs from the key doesn't pass the test
pub not_number : (number key : ℕ) → (number ≡ key → ⊥) → is_at (nat_cmp number) key ≡ false
not_number number key apart = another (is_at (nat_cmp number) key) number key refl apart

module _ (number : ℕ) where
  -- a key that is the number
  pub here : (key : ℕ) → key ≡ number → nat_cmp number key ≡ Equal
  here key same = sym (nat_cmp_is number key Equal (sym same))

  -- a key below the number
  pub behind : (key : ℕ) → key < number → nat_cmp number key ≡ Greater
  behind key below = sym (nat_cmp_is number key Greater below)

  -- a key above the number
  pub before : (key : ℕ) → number < key → nat_cmp number key ≡ Less
  before key above = sym (nat_cmp_is number key Less above)

one_number : (number x y : ℕ) → is_at (nat_cmp number) x ≡ true → is_at (nat_cmp number) y ≡ eq_by_cmp nat_cmp x y
one_number number x y passes = ap (λ number. is_at (nat_cmp number) y) (is_number number x passes)

-- numbers that are above one are above any below that
above_all : (low high : ℕ) (numbers : List ℕ) → nat_cmp low high ≡ Less → AllByRecursion (λ number. nat_cmp high number ≡ Less) numbers
    → AllByRecursion (λ number. nat_cmp low number ≡ Less) numbers
above_all low high [] below above = tt
above_all low high (number ∷ numbers) below above
    = (nat_cmp_total.trans low high number below above.0, above_all low high numbers below above.1)

module _ {X : Type 0} where
  all_removed : (P : ℕ → Type 0) (test : ℕ → Bool) (entries : List (ℕ × X)) → AllByRecursion P (keys_of entries)
      → AllByRecursion P (keys_of (remove_entry test entries))
  all_removed P test [] all = tt
  all_removed P test (entry ∷ rest) all =
      elim (test entry.0) as (λ passes. AllByRecursion P (keys_of (cond passes rest (entry ∷ remove_entry test rest)))) [
        | true ↦ all.1
        | false ↦ (all.0, all_removed P test rest all.1)
      ]

  -- what is removed leaves the others rising
  pub rising_removed : (test : ℕ → Bool) (entries : List (ℕ × X)) → IsStrictlySortedBy nat_cmp (keys_of entries)
      → IsStrictlySortedBy nat_cmp (keys_of (remove_entry test entries))
  unfolding IsStrictlySortedBy
  rising_removed test [] rising = tt
  rising_removed test (entry ∷ rest) rising =
      elim (test entry.0) as (λ passes. IsStrictlySortedBy nat_cmp (keys_of (cond passes rest (entry ∷ remove_entry test rest)))) [
        | true ↦ rising.1
        | false ↦ (all_removed (λ number. nat_cmp entry.0 number ≡ Less) test rest rising.0, rising_removed test rest rising.1)
      ]

  all_inserted : (P : ℕ → Type 0) (number : ℕ) (value : X) (entries : List (ℕ × X)) → P number → AllByRecursion P (keys_of entries)
      → AllByRecursion P (keys_of (insert_entry nat_cmp entries number value))
  all_inserted P number value [] comes all = (comes, tt)
  all_inserted P number value (entry ∷ rest) comes all =
      elim (nat_cmp number entry.0) as (λ order. AllByRecursion P
      (keys_of (match_ordering order ((number, value) ∷ entry ∷ rest) ((entry.0, value) ∷ rest)
      (entry ∷ insert_entry nat_cmp rest number value)))) [
        | Less ↦ (comes, all)
        | Equal ↦ all
        | Greater ↦ (all.0, all_inserted P number value rest comes all.1)
      ]

  inserted_at : (order : Ordering) (number : ℕ) (value : X) (entry : ℕ × X) (rest : List (ℕ × X)) → nat_cmp number entry.0 ≡ order
      → IsStrictlySortedBy nat_cmp (keys_of (entry ∷ rest)) → IsStrictlySortedBy nat_cmp (keys_of (insert_entry nat_cmp rest number value))
      → IsStrictlySortedBy nat_cmp (keys_of
      (match_ordering order ((number, value) ∷ entry ∷ rest) ((entry.0, value) ∷ rest)
      (entry ∷ insert_entry nat_cmp rest number value)))
  unfolding IsStrictlySortedBy
  inserted_at Less number value entry rest is rising later = ((is, above_all number entry.0 (keys_of rest) is rising.0), rising)
  inserted_at Equal number value entry rest is rising later = rising
  inserted_at Greater number value entry rest is rising later =
      let below : nat_cmp entry.0 number ≡ Less = nat_cmp_total.antisymm entry.0 number ∙ ap ordering_reverse is in
      (all_inserted (λ other. nat_cmp entry.0 other ≡ Less) number value rest below rising.0, later)

  -- what comes in its place leaves them rising
  pub rising_inserted : (number : ℕ) (value : X) (entries : List (ℕ × X)) → IsStrictlySortedBy nat_cmp (keys_of entries)
      → IsStrictlySortedBy nat_cmp (keys_of (insert_entry nat_cmp entries number value))
  unfolding IsStrictlySortedBy
  rising_inserted number value [] rising = (tt, tt)
  rising_inserted number value (entry ∷ rest) rising
      = inserted_at (nat_cmp number entry.0) number value entry rest refl rising (rising_inserted number value rest rising.1)

  -- another value leaves them rising
  pub rising_changed : (test : ℕ → Bool) (value : X) (entries : List (ℕ × X)) → IsStrictlySortedBy nat_cmp (keys_of entries)
      → IsStrictlySortedBy nat_cmp (keys_of (set_value test entries value))
  rising_changed test value entries rising = subst (IsStrictlySortedBy nat_cmp) (sym (keys-set_value test entries value)) rising

  absent_at : (passes : Bool) (entry : ℕ × X) (rest removed : List (ℕ × X)) (found : Option X) → (found ≡ None → removed ≡ rest)
      → cond passes (Some entry.1) found ≡ None → cond passes rest (entry ∷ removed) ≡ entry ∷ rest
  absent_at true entry rest removed found later none = cc
  absent_at false entry rest removed found later none = ap (λ rest. entry ∷ rest) (later none)

  -- where nothing is found nothing is removed
  pub absent_stays : (test : ℕ → Bool) (entries : List (ℕ × X)) → lookup test entries ≡ None → remove_entry test entries ≡ entries
  absent_stays test [] none = refl
  absent_stays test (entry ∷ rest) none
      = absent_at (test entry.0) entry rest (remove_entry test rest) (lookup test rest) (absent_stays test rest) none

  looked_up : (number other : ℕ) (entries : List (ℕ × X)) → IsStrictlySortedBy nat_cmp (keys_of entries)
      → lookup (is_at (nat_cmp other)) (remove_entry (is_at (nat_cmp number)) entries)
      ≡ cond (is_at (nat_cmp number) other) None (lookup (is_at (nat_cmp other)) entries)
  looked_up number other entries rising
      = lookup-remove_entry (eq_by_cmp_equiv nat_cmp_total) (is_at (nat_cmp number)) (one_number number) other entries
      (IsDistinct-from_sorted nat_cmp (keys_of entries) rising)

  -- a number that was removed isn't found
  pub removed_gone : (number : ℕ) (entries : List (ℕ × X)) → IsStrictlySortedBy nat_cmp (keys_of entries)
      → lookup (is_at (nat_cmp number)) (remove_entry (is_at (nat_cmp number)) entries) ≡ None
  removed_gone number entries rising = looked_up number number entries rising ∙ ap
      (λ order. cond (is_eq order) None (lookup (is_at (nat_cmp number)) entries)) (sym (nat_cmp_is number number Equal refl))

  -- and the others are found as before
  pub others_stay : (number other : ℕ) (entries : List (ℕ × X)) → IsStrictlySortedBy nat_cmp (keys_of entries) → (number ≡ other → ⊥)
      → lookup (is_at (nat_cmp other)) (remove_entry (is_at (nat_cmp number)) entries) ≡ lookup (is_at (nat_cmp other)) entries
  others_stay number other entries rising apart
      = looked_up number other entries rising ∙ ap (λ passes. cond passes None (lookup (is_at (nat_cmp other)) entries))
      (not_number number other apart)

module _ {X : Type 0} (number : ℕ) where
  -- above the number nothing is found
  pub lookup_above : (values : List (ℕ × X)) → AllByRecursion (λ key. nat_cmp number key ≡ Less) (keys_of values)
      → lookup (is_at (nat_cmp number)) values ≡ None
  lookup_above [] above = refl
  lookup_above (value ∷ values) above =
      ap (λ order. cond (is_eq order) (Some value.1) (lookup (is_at (nat_cmp number)) values)) above.0 ∙ lookup_above values above.1

  -- what comes among those above comes first
  pub insert_above : (values : List (ℕ × X)) (value : X) → AllByRecursion (λ key. nat_cmp number key ≡ Less) (keys_of values)
      → insert_entry nat_cmp values number value ≡ (number, value) ∷ values
  insert_above [] value above = refl
  insert_above (first ∷ rest) value above =
      ap (λ order. match_ordering order ((number, value) ∷ first ∷ rest) ((first.0, value) ∷ rest)
      (first ∷ insert_entry nat_cmp rest number value)) above.0

  below_rest : (first : ℕ × X) (rest : List (ℕ × X)) → IsStrictlySortedBy nat_cmp (keys_of (first ∷ rest))
      → nat_cmp number first.0 ≡ Less → lookup (is_at (nat_cmp number)) rest ≡ None
  below_rest first rest rising below =
      lookup_above rest (above_all number first.0 (keys_of rest) below (sorted_head nat_cmp first.0 (keys_of rest) rising))

  found_at : (order : Ordering) (value : X) (first : ℕ × X) (rest inserted : List (ℕ × X)) → nat_cmp number first.0 ≡ order
      → lookup (is_at (nat_cmp number)) inserted ≡ Some value
      → lookup (is_at (nat_cmp number)) (match_ordering order ((number, value) ∷ first ∷ rest) ((first.0, value) ∷ rest)
      (first ∷ inserted)) ≡ Some value
  found_at Less value first rest inserted is further =
      ap (λ order. cond (is_eq order) (Some value) (lookup (is_at (nat_cmp number)) (first ∷ rest))) (here number number refl)
  found_at Equal value first rest inserted is further =
      ap (λ order. cond (is_eq order) (Some value) (lookup (is_at (nat_cmp number)) rest)) is
  found_at Greater value first rest inserted is further =
      ap (λ order. cond (is_eq order) (Some first.1) (lookup (is_at (nat_cmp number)) inserted)) is ∙ further

  -- an inserted value is found
  pub inserted_found : (value : X) (values : List (ℕ × X))
      → lookup (is_at (nat_cmp number)) (insert_entry nat_cmp values number value) ≡ Some value
  inserted_found value [] = ap (λ order. cond (is_eq order) (Some value) None) (here number number refl)
  inserted_found value (first ∷ rest) =
      found_at (nat_cmp number first.0) value first rest (insert_entry nat_cmp rest number value) refl (inserted_found value rest)

  -- 1 for a value, 0 for none
  abbrev pub one_if : Option X → ℕ
  one_if found = if is_some found then 1 else 0

  count_at : (order : Ordering) (value : X) (first : ℕ × X) (rest inserted : List (ℕ × X)) (found : Option X)
      → (order ≡ Less → found ≡ None) → length inserted + one_if found ≡ length rest + 1
      → length (match_ordering order ((number, value) ∷ first ∷ rest) ((first.0, value) ∷ rest) (first ∷ inserted))
      + one_if (cond (is_eq order) (Some first.1) found) ≡ length rest + 2
  count_at Less value first rest inserted found none further = rw (none refl) (omega arith)
  count_at Equal value first rest inserted found none further = omega arith
  count_at Greater value first rest inserted found none further = omega (arith, further)

  -- an inserted value is one more, if its number had none
  pub inserted_count : (value : X) (values : List (ℕ × X)) → IsStrictlySortedBy nat_cmp (keys_of values)
      → length (insert_entry nat_cmp values number value) + one_if (lookup (is_at (nat_cmp number)) values) ≡ length values + 1
  inserted_count value [] rising = refl
  inserted_count value (first ∷ rest) rising =
      let all = count_at (nat_cmp number first.0) value first rest (insert_entry nat_cmp rest number value)
      (lookup (is_at (nat_cmp number)) rest) (below_rest first rest rising)
      (inserted_count value rest (sorted_tail nat_cmp first.0 (keys_of rest) rising)) in
      omega (arith, all)

  gone_at : (passes : Bool) (first : ℕ × X) (rest removed : List (ℕ × X)) (found : Option X)
      → length removed + one_if found ≡ length rest
      → length (cond passes rest (first ∷ removed)) + one_if (cond passes (Some first.1) found) ≡ length rest + 1
  gone_at true first rest removed found further = omega arith
  gone_at false first rest removed found further = omega (arith, further)

  -- a removed value is one fewer, if the number had one
  pub removed_count : (values : List (ℕ × X))
      → length (remove_entry (is_at (nat_cmp number)) values) + one_if (lookup (is_at (nat_cmp number)) values) ≡ length values
  removed_count [] = refl
  removed_count (first ∷ rest) =
      let all = gone_at (is_at (nat_cmp number) first.0) first rest (remove_entry (is_at (nat_cmp number)) rest)
      (lookup (is_at (nat_cmp number)) rest) (removed_count rest) in
      omega (arith, all)

  none_some : (value : X) → None ≡ Some value → ⊥
  none_some value same = cc

  put_at : (order : Ordering) (value old : X) (first : ℕ × X) (rest changed inserted : List (ℕ × X)) (found : Option X)
      → (order ≡ Less → found ≡ None) → (found ≡ Some old → changed ≡ inserted)
      → cond (is_eq order) (Some first.1) found ≡ Some old
      → cond (is_eq order) ((first.0, value) ∷ rest) (first ∷ changed)
      ≡ match_ordering order ((number, value) ∷ first ∷ rest) ((first.0, value) ∷ rest) (first ∷ inserted)
  put_at Less value old first rest changed inserted found none further there = absurd (none_some old (sym (none refl) ∙ there))
  put_at Equal value old first rest changed inserted found none further there = refl
  put_at Greater value old first rest changed inserted found none further there = ap (λ rest. first ∷ rest) (further there)

  -- another value of a number that has one is what is inserted under it
  pub changed_inserted : (value old : X) (values : List (ℕ × X)) → IsStrictlySortedBy nat_cmp (keys_of values)
      → lookup (is_at (nat_cmp number)) values ≡ Some old
      → set_value (is_at (nat_cmp number)) values value ≡ insert_entry nat_cmp values number value
  changed_inserted value old [] rising there = absurd (none_some old there)
  changed_inserted value old (first ∷ rest) rising there =
      put_at (nat_cmp number first.0) value old first rest (set_value (is_at (nat_cmp number)) rest value)
      (insert_entry nat_cmp rest number value) (lookup (is_at (nat_cmp number)) rest) (below_rest first rest rising)
      (changed_inserted value old rest (sorted_tail nat_cmp first.0 (keys_of rest) rising)) there

  same_at : (passes : Bool) (value : X) (first : ℕ × X) (rest changed : List (ℕ × X)) (found : Option X)
      → (found ≡ None → changed ≡ rest) → cond passes (Some first.1) found ≡ None
      → cond passes ((first.0, value) ∷ rest) (first ∷ changed) ≡ first ∷ rest
  same_at true value first rest changed found further none = cc
  same_at false value first rest changed found further none = ap (λ rest. first ∷ rest) (further none)

  -- another value of a number that has none changes nothing
  pub absent_unchanged : (value : X) (values : List (ℕ × X)) → lookup (is_at (nat_cmp number)) values ≡ None
      → set_value (is_at (nat_cmp number)) values value ≡ values
  absent_unchanged value [] none = refl
  absent_unchanged value (first ∷ rest) none =
      same_at (is_at (nat_cmp number) first.0) value first rest (set_value (is_at (nat_cmp number)) rest value)
      (lookup (is_at (nat_cmp number)) rest) (absent_unchanged value rest) none

module _ {V : Type 0} where
  -- the number at a place after the first is above the first
  pub first_below : (first : ℕ × V) (rest : List (ℕ × V)) (place : ℕ) (default : ℕ × V)
      → IsStrictlySortedBy nat_cmp (keys_of (first ∷ rest)) → place < length rest → first.0 < (get_or rest place default).0
  first_below first rest place default rising within =
      omega (
        arith,
        below_from_sorted (keys_of (first ∷ rest)) 0 (suc place) 0 rising (omega arith)
            (omega (arith, length-map rest (λ entry. entry.0))),
        get_or-map (λ entry. entry.0) rest place default 0 within,
      )

  -- those after the first rise, too
  pub rising_rest : (first : ℕ × V) (rest : List (ℕ × V)) → IsStrictlySortedBy nat_cmp (keys_of (first ∷ rest))
      → IsStrictlySortedBy nat_cmp (keys_of rest)
  rising_rest first rest rising = sorted_tail nat_cmp first.0 (keys_of rest) rising

  -- a number at a later place is not lower
  numbers_rise : (entries : List (ℕ × V)) (i j : ℕ) (default : ℕ × V) → IsStrictlySortedBy nat_cmp (keys_of entries) → i ≤ j
      → j < length entries → (get_or entries i default).0 ≤ (get_or entries j default).0
  numbers_rise [] i j default rising le within = absurd (omega arith)
  numbers_rise (first ∷ rest) zero zero default rising le within = omega arith
  numbers_rise (first ∷ rest) zero (suc j) default rising le within = omega (arith, first_below first rest j default rising (omega arith))
  numbers_rise (first ∷ rest) (suc i) zero default rising le within = absurd (omega arith)
  numbers_rise (first ∷ rest) (suc i) (suc j) default rising le within
      = numbers_rise rest i j default (rising_rest first rest rising) (omega arith) (omega arith)

  module _ (number : ℕ) (entries : List (ℕ × V)) (rising : IsStrictlySortedBy nat_cmp (keys_of entries)) where
    comparisons_rise : IsNonDecreasingBy (λ entry. ordering_index (nat_cmp entry.0 number)) entries
    comparisons_rise i j default le within =
        let numbers : (get_or entries i default).0 ≤ (get_or entries j default).0 = numbers_rise entries i j default rising le within in
        grind (arith, nat_tests)

    -- at the place that was found stands the number
    pub stands-at : (place : ℕ) → IsBinarySearchResult (λ entry. nat_cmp entry.0 number) entries (Ok place)
        → HoldsAt (λ entry. entry.0 ≡ number) entries place
    stands-at place equal default = let here = equal default in grind (arith, nat_tests)

    -- before the place that it would have the numbers are lower
    pub lower-before : (place : ℕ) → IsBinarySearchResult (λ entry. nat_cmp entry.0 number) entries (Err place)
        → (at : ℕ) (default : ℕ × V) → at < place → (get_or entries at default).0 < number
    lower-before place parted at default before = let less
        = (parted comparisons_rise).0 at default (omega arith) before in grind (arith, nat_tests)

    -- and from there on they are higher
    pub higher-from : (place : ℕ) → IsBinarySearchResult (λ entry. nat_cmp entry.0 number) entries (Err place)
        → (at : ℕ) (default : ℕ × V) → place ≤ at → at < length entries → number < (get_or entries at default).0
    higher-from place parted at default from within = let greater
        = (parted comparisons_rise).1 at default from within in grind (arith, nat_tests)

    -- where the last number is below it, its place is behind them all
    pub place-behind : ((default : ℕ × V) → 0 < length entries → (get_or entries (length entries - 1) default).0 < number)
        → IsBinarySearchResult (λ entry. nat_cmp entry.0 number) entries (Err (length entries))
    place-behind below rises = (
      λ at default from within.
          before (get_or entries at default).0 number
          (omega (
            arith,
            numbers_rise entries at (length entries - 1) default rising (omega arith) (omega arith),
            below default (omega arith),
          )),
      λ at default from within. absurd (omega arith),
    )

    -- what the place is that was found
    pub found-at : (answer : Result ℕ ℕ) → IsBinarySearchResult (λ entry. nat_cmp entry.0 number) entries answer
        → IfSome (result_ok answer) (λ place. HoldsAt (λ entry. entry.0 ≡ number) entries place)
    found-at (Ok place) equal = stands-at place equal
    found-at (Err place) parted = tt

  module _ (number : ℕ) where
    -- another value under the same number leaves the numbers as they are
    pub keys-set : (place : ℕ) (entry : ℕ × V) (entries : List (ℕ × V)) → place < length entries
        → (get_or entries place entry).0 ≡ entry.0 → keys_of (set entries place entry) ≡ keys_of entries
    keys-set place entry [] within same = absurd (omega arith)
    keys-set zero entry (first ∷ rest) within same = ap (λ key. key ∷ keys_of rest) (sym same)
    keys-set (suc place) entry (first ∷ rest) within same = ap (λ keys. first.0 ∷ keys) (keys-set place entry rest (omega arith) same)

    -- an entry between lower and higher numbers comes in its place
    pub inserted-at : (place : ℕ) (value : V) (entries : List (ℕ × V)) → place ≤ length entries
        → ((at : ℕ) (default : ℕ × V) → at < place → (get_or entries at default).0 < number)
        → ((at : ℕ) (default : ℕ × V) → place ≤ at → at < length entries → number < (get_or entries at default).0)
        → insert entries place (number, value) ≡ insert_entry nat_cmp entries number value
    inserted-at zero value [] within lower higher = refl
    inserted-at (suc place) value [] within lower higher = absurd (omega arith)
    inserted-at zero value (first ∷ rest) within lower higher =
        sym (ap (λ order. match_ordering order ((number, value) ∷ first ∷ rest) ((first.0, value) ∷ rest)
        (first ∷ insert_entry nat_cmp rest number value)) (before number first.0 (higher 0 first (omega arith) (omega arith))))
    inserted-at (suc place) value (first ∷ rest) within lower higher =
        ap (λ rest. first ∷ rest)
        (inserted-at place value rest (omega arith) (λ at default before. lower (suc at) default (omega arith))
        (λ at default from within. higher (suc at) default (omega arith) (omega arith)))
        ∙ sym (ap (λ order. match_ordering order ((number, value) ∷ first ∷ rest) ((first.0, value) ∷ rest)
        (first ∷ insert_entry nat_cmp rest number value)) (behind number first.0 (lower 0 first (omega arith))))

    -- the entry of a number goes where it stands
    pub removed-at : (place : ℕ) (default : ℕ × V) (entries : List (ℕ × V)) → IsStrictlySortedBy nat_cmp (keys_of entries)
        → place < length entries → HoldsAt (λ entry. entry.0 ≡ number) entries place
        → remove entries place ≡ remove_entry (is_at (nat_cmp number)) entries
    removed-at place default [] rising within found = absurd (omega arith)
    removed-at zero default (first ∷ rest) rising within found =
        sym (ap (λ order. cond (is_eq order) rest (first ∷ remove_entry (is_at (nat_cmp number)) rest))
        (here number first.0 (found default)))
    removed-at (suc place) default (first ∷ rest) rising within found =
        ap (λ rest. first ∷ rest) (removed-at place default rest (rising_rest first rest rising) (omega arith) found)
        ∙ sym (ap (λ order. cond (is_eq order) rest (first ∷ remove_entry (is_at (nat_cmp number)) rest))
        (behind number first.0 (omega (arith, first_below first rest place default rising (omega arith), found default))))
