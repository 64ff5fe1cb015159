-- Counts by number: what one finds, what stays where one is set, and how few there are.
use Rattle.std.proofs.Common.{arith, ◌≡◌, ◌+◌, ◌-◌, ◌*◌, ◌<◌, ◌≤◌, ◌==◌, ◌∙◌, ◌||◌, ℕ, zero, suc, List, [], ◌∷◌, length, get_or, set, map}
use Rattle.std.proofs.Common.{Option, None, Some, Bool, true, false, cond, Err, refl, sym, ap, if◌then◌else◌, inl, inr}
use Rattle.std.specs.Prelude.{sum_by, unwrap_or}
use Rattle.std.specs.BTreeMap.{insert_entry, is_at}
use Rattle.std.specs.Cmp.{eq_by_cmp_equiv}
use Rattle.std.specs.List.{AllByRecursion, HoldsAt, list_any}
use Rattle.std.specs.List.Sorted.{IsStrictlySortedBy, IsBinarySearchResult}
use Rattle.std.specs.Map.{keys_of, lookup, remove_entry}
use Rattle.std.specs.Ordering.{nat_cmp, is_eq, match_ordering, eq_by_cmp}
use Rattle.std.specs.declared.cmp.Ordering.TheVariants.{Less, Equal, Greater}
use Rattle.std.proofs.lemmas.Bool.{cases_lt, eqb-true, eqb-false}
use Rattle.std.proofs.lemmas.Cmp.{nat_cmp_total}
use Rattle.std.proofs.lemmas.List.{length-map}
use Rattle.std.proofs.lemmas.List.Sums.{sum_by-cons}
use Rattle.std.proofs.lemmas.Map.Keys.{IsDistinct-from_sorted}
use Rattle.std.proofs.lemmas.Map.Made.{length-le_from_is_member}
use Rattle.iox_container.proofs.Numbers.{here, behind, first_below, rising_rest, not_number, lower-before, higher-from, inserted_found}
use Rattle.iox_container.proofs.Numbers.{removed_gone, others_stay, rising_inserted, rising_removed}
use Rattle.iox_domain_ports.specs.Census.{amount, no_share, tallied}
use Rattle.iox_domain_ports.specs.Tallies.{IsTally, count_under, with_count}
use Rattle.iox_domain_ports.specs.declared.census.Census.{Census}
use Rattle.iox_domain_ports.specs.declared.census.Share.{Share}
use Rattle.iox_domain_ports.proofs.Owned.{is_set, others_beside}

-- the count at the place of a number
lookup-at : (number place : ℕ) (default : ℕ × ℕ) (counts : List (ℕ × ℕ)) → IsStrictlySortedBy nat_cmp (keys_of counts)
    → place < length counts → HoldsAt (λ entry. entry.0 ≡ number) counts place
    → lookup (is_at (nat_cmp number)) counts ≡ Some (get_or counts place default).1
lookup-at number place default [] rising within found = absurd (omega arith)
lookup-at number zero default (first ∷ rest) rising within found =
    ap (λ order. cond (is_eq order) (Some first.1) (lookup (is_at (nat_cmp number)) rest)) (here number first.0 (found default))
lookup-at number (suc place) default (first ∷ rest) rising within found =
    ap (λ order. cond (is_eq order) (Some first.1) (lookup (is_at (nat_cmp number)) rest))
    (behind number first.0 (omega (arith, first_below first rest place default rising (omega arith), found default)))
    ∙ lookup-at number place default rest (rising_rest first rest rising) (omega arith) found

pub count-at : (number place : ℕ) (default : ℕ × ℕ) (counts : List (ℕ × ℕ)) → IsStrictlySortedBy nat_cmp (keys_of counts)
    → place < length counts → HoldsAt (λ entry. entry.0 ≡ number) counts place
    → count_under number counts ≡ (get_or counts place default).1
count-at number place default counts rising within found =
    ap (λ found. unwrap_or found 0) (lookup-at number place default counts rising within found)

-- where no number is this one it has no count
lookup-nowhere : (number : ℕ) (counts : List (ℕ × ℕ))
    → ((at : ℕ) (default : ℕ × ℕ) → at < length counts → (get_or counts at default).0 ≡ number → ⊥)
    → lookup (is_at (nat_cmp number)) counts ≡ None
lookup-nowhere number [] others = refl
lookup-nowhere number (first ∷ rest) others =
    ap (λ passes. cond passes (Some first.1) (lookup (is_at (nat_cmp number)) rest))
    (not_number number first.0 (λ same. others 0 first (omega arith) (sym same)))
    ∙ lookup-nowhere number rest (λ at default within same. others (suc at) default (omega arith) same)

pub none-at : (number place : ℕ) (counts : List (ℕ × ℕ)) → IsStrictlySortedBy nat_cmp (keys_of counts)
    → IsBinarySearchResult (λ entry. nat_cmp entry.0 number) counts (Err place) → lookup (is_at (nat_cmp number)) counts ≡ None
none-at number place counts rising parted =
    lookup-nowhere number counts (λ at default within same. elim (cases_lt at place) [
      | inl before ↦ omega (arith, same, lower-before number counts rising place parted at default before)
      | inr from ↦ omega (arith, same, higher-from number counts rising place parted at default (omega arith) within)
    ])

-- a count that is set at the place of its number is inserted under it
pub set-at : (number place count : ℕ) (counts : List (ℕ × ℕ)) → IsStrictlySortedBy nat_cmp (keys_of counts) → place < length counts
    → HoldsAt (λ entry. entry.0 ≡ number) counts place → set counts place (number, count) ≡ insert_entry nat_cmp counts number count
set-at number place count [] rising within found = absurd (omega arith)
set-at number zero count (first ∷ rest) rising within found =
    ap (λ key. (key, count) ∷ rest) (sym (found first))
    ∙ sym (ap (λ order. match_ordering order ((number, count) ∷ first ∷ rest) ((first.0, count) ∷ rest)
    (first ∷ insert_entry nat_cmp rest number count)) (here number first.0 (found first)))
set-at number (suc place) count (first ∷ rest) rising within found =
    ap (λ rest. first ∷ rest) (set-at number place count rest (rising_rest first rest rising) (omega arith) found)
    ∙ sym (ap (λ order. match_ordering order ((number, count) ∷ first ∷ rest) ((first.0, count) ∷ rest)
    (first ∷ insert_entry nat_cmp rest number count))
    (behind number first.0 (omega (arith, first_below first rest place first rising (omega arith), found first))))

positive_inserted : (number count : ℕ) (counts : List (ℕ × ℕ)) → 0 < count → AllByRecursion (λ entry. 0 < entry.1) counts
    → AllByRecursion (λ entry. 0 < entry.1) (insert_entry nat_cmp counts number count)
positive_inserted number count [] more all = (more, tt)
positive_inserted number count (first ∷ rest) more all =
    elim (nat_cmp number first.0) as (λ order. AllByRecursion (λ entry. 0 < entry.1)
    (match_ordering order ((number, count) ∷ first ∷ rest) ((first.0, count) ∷ rest)
    (first ∷ insert_entry nat_cmp rest number count))) [
      | Less ↦ (more, all)
      | Equal ↦ (more, all.1)
      | Greater ↦ (all.0, positive_inserted number count rest more all.1)
    ]

positive_removed : (test : ℕ → Bool) (counts : List (ℕ × ℕ)) → AllByRecursion (λ entry. 0 < entry.1) counts
    → AllByRecursion (λ entry. 0 < entry.1) (remove_entry test counts)
positive_removed test [] all = tt
positive_removed test (first ∷ rest) all =
    elim (test first.0) as (λ passes. AllByRecursion (λ entry. 0 < entry.1) (cond passes rest (first ∷ remove_entry test rest))) [
      | true ↦ all.1
      | false ↦ (all.0, positive_removed test rest all.1)
    ]

-- no counts stand by rising number, and none of them is 0
pub sound_none : IsTally []
unfolding IsStrictlySortedBy
sound_none = record { rises = tt; positive = tt }

-- they still rise, and none is 0, where one is set
pub sound_inserted : (number count : ℕ) (counts : List (ℕ × ℕ)) → 0 < count → IsTally counts
    → IsTally (insert_entry nat_cmp counts number count)
sound_inserted number count counts more tally = record {
  rises = rising_inserted number count counts tally.rises;
  positive = positive_inserted number count counts more tally.positive;
}

pub sound_removed : (number : ℕ) (counts : List (ℕ × ℕ)) → IsTally counts → IsTally (remove_entry (is_at (nat_cmp number)) counts)
sound_removed number counts tally = record {
  rises = rising_removed (is_at (nat_cmp number)) counts tally.rises;
  positive = positive_removed (is_at (nat_cmp number)) counts tally.positive;
}

-- a count of 0 is taken out, and another one is inserted
pub with_none : (number count : ℕ) (counts : List (ℕ × ℕ)) → count ≡ 0
    → with_count number count counts ≡ remove_entry (is_at (nat_cmp number)) counts
with_none number count counts none = ap (λ count. with_count number count counts) none

pub with_some : (number count : ℕ) (counts : List (ℕ × ℕ)) → 0 < count
    → with_count number count counts ≡ insert_entry nat_cmp counts number count
with_some number count counts some = by (count == 0) refl
  where
    by : (none : Bool) → (count == 0) ≡ none → with_count number count counts ≡ insert_entry nat_cmp counts number count
    by true is = absurd (omega (arith, some, eqb-true count 0 is))
    by false is =
        ap (λ none. if none then (remove_entry (is_at (nat_cmp number)) counts) else (insert_entry nat_cmp counts number count)) is

-- the number has the count that was set, and each other one the count that it had
pub set_counts : (owner number count : ℕ) (counts : List (ℕ × ℕ)) → IsTally counts
    → count_under number (with_count owner count counts) ≡ (if number == owner then count else count_under number counts)
set_counts owner number count counts tally = by (count == 0) refl
  where
    removed : List (ℕ × ℕ)
    removed = remove_entry (is_at (nat_cmp owner)) counts

    inserted : List (ℕ × ℕ)
    inserted = insert_entry nat_cmp counts owner count

    by : (none : Bool) → (count == 0) ≡ none
        → count_under number (with_count owner count counts) ≡ (if number == owner then count else count_under number counts)
    by true is =
        let after : with_count owner count counts ≡ removed = ap (λ none. if none then removed else inserted) is in
        ap (count_under number) after
        ∙ is_set owner number count counts removed
        (ap (λ found. unwrap_or found 0) (removed_gone owner counts tally.rises) ∙ sym (eqb-true count 0 is))
        (others_stay owner number counts tally.rises)
    by false is =
        let after : with_count owner count counts ≡ inserted = ap (λ none. if none then removed else inserted) is in
        ap (count_under number) after
        ∙ is_set owner number count counts inserted (ap (λ found. unwrap_or found 0) (inserted_found owner count counts))
        (others_beside owner number count counts)

-- less is counted of an owner, and more
pub less_counts : (share : Share) (number : ℕ) (counts : List (ℕ × ℕ)) → IsTally counts → share.count ≤ count_under share.owner counts
    → count_under number (with_count share.owner (count_under share.owner counts - share.count) counts) + amount (Some number) share
    ≡ count_under number counts
less_counts share number counts tally enough = by (number == share.owner) refl
  where
    less : ℕ
    less = count_under share.owner counts - share.count

    by : (same : Bool) → (number == share.owner) ≡ same
        → count_under number (with_count share.owner less counts) + amount (Some number) share ≡ count_under number counts
    by true is =
        omega (
          arith,
          enough,
          set_counts share.owner number less counts tally ∙ ap (λ same. if same then less else count_under number counts) is,
          ap (λ same. if same then share.count else 0) is,
          ap (λ number. count_under number counts) (eqb-true number share.owner is),
        )
    by false is =
        omega (
          arith,
          set_counts share.owner number less counts tally ∙ ap (λ same. if same then less else count_under number counts) is,
          ap (λ same. if same then share.count else 0) is,
        )

pub more_counts : (share : Share) (number : ℕ) (counts : List (ℕ × ℕ)) → IsTally counts
    → count_under number (with_count share.owner (count_under share.owner counts + share.count) counts)
    ≡ count_under number counts + amount (Some number) share
more_counts share number counts tally = by (number == share.owner) refl
  where
    more : ℕ
    more = count_under share.owner counts + share.count

    by : (same : Bool) → (number == share.owner) ≡ same
        → count_under number (with_count share.owner more counts) ≡ count_under number counts + amount (Some number) share
    by true is =
        omega (
          arith,
          set_counts share.owner number more counts tally ∙ ap (λ same. if same then more else count_under number counts) is,
          ap (λ same. if same then share.count else 0) is,
          ap (λ number. count_under number counts) (eqb-true number share.owner is),
        )
    by false is =
        omega (
          arith,
          set_counts share.owner number more counts tally ∙ ap (λ same. if same then more else count_under number counts) is,
          ap (λ same. if same then share.count else 0) is,
        )

-- an owner's own share counts whole
pub own_amount : (share : Share) → amount (Some share.owner) share ≡ share.count
own_amount share = by (share.owner == share.owner) refl
  where
    by : (same : Bool) → (share.owner == share.owner) ≡ same → amount (Some share.owner) share ≡ share.count
    by true is = ap (λ same. if same then share.count else 0) is
    by false is = absurd (eqb-false share.owner share.owner is refl)

chosen_most : (same : Bool) (count : ℕ) → (if same then count else 0) ≤ count
chosen_most true count = omega arith
chosen_most false count = omega arith

-- no more of a share counts for an owner than there is
pub amount_most : (owner : Option ℕ) (share : Share) → amount owner share ≤ share.count
amount_most None share = omega arith
amount_most (Some owner) share = chosen_most (owner == share.owner) share.count

-- the sum of small shares
pub small_sum : (owner : Option ℕ) (others : List Share) → AllByRecursion (λ share. share.count < 18446744073709551616) others
    → sum_by (amount owner) others ≤ length others * 18446744073709551615
small_sum owner [] small = omega arith
small_sum owner (share ∷ others) small =
    omega (arith, sum_by-cons (amount owner) share others, amount_most owner share, small.0, small_sum owner others small.1)

chosen_none : (same : Bool) → ◌≡◌ {A = ℕ} (if same then 0 else 0) 0
chosen_none true = refl
chosen_none false = refl

-- nothing counts of no share
pub no_amount : (owner : Option ℕ) → amount owner no_share ≡ 0
no_amount None = refl
no_amount (Some owner) = chosen_none (owner == 0)

-- what is counted of each owner once a share was taken out, and once one was added
pub taken_counts : (share : Share) (old new : Census) (count less : ℕ) → IsTally old.owners.counts
    → count ≡ count_under share.owner old.owners.counts → less ≡ share.count → less ≤ count → less ≤ old.total
    → new.total ≡ old.total - less → new.owners.counts ≡ with_count share.owner (count - less) old.owners.counts
    → (owner : Option ℕ) → tallied owner new + amount owner share ≡ tallied owner old + amount owner no_share
taken_counts share old new count less tally count_is less_is enough most total counts None = omega (arith, total, less_is, most)
taken_counts share old new count less tally count_is less_is enough most total counts (Some number) =
    omega (
      arith,
      no_amount (Some number),
      ap (count_under number)
          (counts ∙ ap (λ count. with_count share.owner count old.owners.counts)
          (ap (λ count. count - less) count_is ∙ ap (λ less. count_under share.owner old.owners.counts - less) less_is)),
      less_counts share number old.owners.counts tally (omega (arith, enough, count_is, less_is)),
    )

pub given_counts : (share : Share) (old new : Census) (count more : ℕ) → IsTally old.owners.counts
    → count ≡ count_under share.owner old.owners.counts → more ≡ share.count → new.total ≡ old.total + more
    → new.owners.counts ≡ with_count share.owner (count + more) old.owners.counts
    → (owner : Option ℕ) → tallied owner new + amount owner no_share ≡ tallied owner old + amount owner share
given_counts share old new count more tally count_is more_is total counts None = omega (arith, total, more_is)
given_counts share old new count more tally count_is more_is total counts (Some number) =
    omega (
      arith,
      no_amount (Some number),
      ap (count_under number)
          (counts ∙ ap (λ count. with_count share.owner count old.owners.counts)
          (ap (λ count. count + more) count_is ∙ ap (λ more. count_under share.owner old.owners.counts + more) more_is)),
      more_counts share number old.owners.counts tally,
    )

-- a number that is among the counts has one above 0
member_counts : (number : ℕ) (counts : List (ℕ × ℕ)) → AllByRecursion (λ entry. 0 < entry.1) counts
    → list_any (eq_by_cmp nat_cmp number) (keys_of counts) ≡ true → 0 < count_under number counts
member_counts number [] positive is = cc
member_counts number (first ∷ rest) positive is =
    by (is_at (nat_cmp number) first.0) refl (λ there. member_counts number rest positive.1 there)
  where
    by : (passes : Bool) → is_at (nat_cmp number) first.0 ≡ passes
        → (list_any (eq_by_cmp nat_cmp number) (keys_of rest) ≡ true → 0 < count_under number rest)
        → 0 < count_under number (first ∷ rest)
    by true here further =
        omega (arith, positive.0, ap (λ passes. unwrap_or (cond passes (Some first.1) (lookup (is_at (nat_cmp number)) rest)) 0) here)
    by false here further =
        let there : list_any (eq_by_cmp nat_cmp number) (keys_of rest) ≡ true
        = ap (λ passes. passes || list_any (eq_by_cmp nat_cmp number) (keys_of rest)) (sym here) ∙ is in
        omega (
          arith,
          further there,
          ap (λ passes. unwrap_or (cond passes (Some first.1) (lookup (is_at (nat_cmp number)) rest)) 0) here,
        )

or_true : (b : Bool) → (b || true) ≡ true
or_true true = refl
or_true false = refl

-- an owner of whom something counts is among the owners
owner_among : (owner : ℕ) (others : List Share) → 0 < sum_by (amount (Some owner)) others
    → list_any (eq_by_cmp nat_cmp owner) (map (λ share. share.owner) others) ≡ true
owner_among owner [] some = absurd (omega (arith, some))
owner_among owner (share ∷ others) some = by (owner == share.owner) refl (λ more. owner_among owner others more)
  where
    rest : Bool
    rest = list_any (eq_by_cmp nat_cmp owner) (map (λ share. share.owner) others)

    by : (same : Bool) → (owner == share.owner) ≡ same → (0 < sum_by (amount (Some owner)) others → rest ≡ true)
        → (eq_by_cmp nat_cmp owner share.owner || rest) ≡ true
    by true is further =
        let same : eq_by_cmp nat_cmp owner share.owner ≡ true
        = ap is_eq (here owner share.owner (sym (eqb-true owner share.owner is))) in
        ap (λ b. b || rest) same
    by false is further =
        let later : rest ≡ true
        = further
        (omega (arith, some, sum_by-cons (amount (Some owner)) share others, ap (λ same. if same then share.count else 0) is)) in
        ap (λ b. eq_by_cmp nat_cmp owner share.owner || b) later ∙ or_true (eq_by_cmp nat_cmp owner share.owner)

-- no more owners have a count than there are shares
pub few_counts : (counts : List (ℕ × ℕ)) (others : List Share) → IsTally counts
    → ((owner : ℕ) → count_under owner counts ≡ sum_by (amount (Some owner)) others) → length counts ≤ length others
few_counts counts others tally same =
    omega (
      arith,
      length-map counts (λ entry. entry.0),
      length-map others (λ share. share.owner),
      length-le_from_is_member (eq_by_cmp_equiv nat_cmp_total) (keys_of counts) (map (λ share. share.owner) others)
          (IsDistinct-from_sorted nat_cmp (keys_of counts) tally.rises)
          (λ owner there. owner_among owner others (omega (arith, same owner, member_counts owner counts tally.positive there))),
    )
