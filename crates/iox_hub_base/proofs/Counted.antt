-- Counts by rising numbers: what a search tells of them, and what stays of them.
use Rattle.std.proofs.Common.{ℕ, ◌≡◌, ◌<◌, ◌≤◌, List, [], ◌∷◌, length, map, get_or, set, Ok, Err, None, Some, refl, sym, ap, subst, ◌∙◌}
use Rattle.std.specs.BTreeMap.{is_at}
use Rattle.std.specs.List.{HoldsAt, insert, remove}
use Rattle.std.specs.List.Sorted.{IsStrictlySortedBy, IsBinarySearchResult}
use Rattle.std.specs.Map.{keys_of, lookup}
use Rattle.std.specs.Ordering.{nat_cmp}
use Rattle.iox_delivery_factories.specs.Domain.Kept.{kept, forgotten, kept_under}
use Rattle.iox_container.proofs.Numbers.{absent_stays, higher-from, lower-before, rising_inserted, rising_removed, stands-at}
use Rattle.iox_hub_base.proofs.Placed.{insert-place, lookup-place, remove-place, replace-place}
use Rattle.iox_hub_base.proofs.Searched.{found-nowhere}

-- a count, as it is
abbrev itself : ℕ → ℕ
itself count = count

seen_so : (counts : List (ℕ × ℕ)) → map (λ entry. (entry.0, itself entry.1)) counts ≡ counts
seen_so [] = refl
seen_so (count ∷ counts) = ap (λ rest. count ∷ rest) (seen_so counts)

-- the numbers still rise where a count is kept
pub rises_kept : (number count : ℕ) (entries changed : List (ℕ × ℕ)) → changed ≡ kept number count entries
    → IsStrictlySortedBy nat_cmp (keys_of entries) → IsStrictlySortedBy nat_cmp (keys_of changed)
rises_kept number count entries changed is rising =
    subst (λ counts. IsStrictlySortedBy nat_cmp (keys_of counts)) (sym is) (rising_inserted number count entries rising)

-- and where one goes
pub rises_forgotten : (number : ℕ) (entries changed : List (ℕ × ℕ)) → changed ≡ forgotten number entries
    → IsStrictlySortedBy nat_cmp (keys_of entries) → IsStrictlySortedBy nat_cmp (keys_of changed)
rises_forgotten number entries changed is rising =
    subst (λ counts. IsStrictlySortedBy nat_cmp (keys_of counts)) (sym is) (rising_removed (is_at (nat_cmp number)) entries rising)

module _ (number : ℕ) (searched entries : List (ℕ × ℕ)) (same : searched ≡ entries)
    (rising : IsStrictlySortedBy nat_cmp (keys_of entries)) where
  module _ (place : ℕ) (position : IsBinarySearchResult (λ entry. nat_cmp entry.0 number) searched (Ok place))
      (bound : place < length searched) where
    within : place < length entries
    within = subst (λ items. place < length items) same bound

    pub found : HoldsAt (λ entry. entry.0 ≡ number) entries place
    found = stands-at number entries rising place
        (subst (λ items. IsBinarySearchResult (λ entry. nat_cmp entry.0 number) items (Ok place)) same position)

    -- the count that stands at the place that was found is the number's
    pub counted : (entry : ℕ × ℕ) → entry ≡ get_or entries place entry → kept_under number entries ≡ Some entry.1
    counted entry stands =
        subst (λ counts. lookup (is_at (nat_cmp number)) counts ≡ Some entry.1) (seen_so entries)
        (lookup-place itself number place entry entries rising within found stands)

    -- another count there is kept under the number
    pub counted_anew : (key count : ℕ) → key ≡ number → set entries place (key, count) ≡ kept number count entries
    counted_anew key count is =
        sym (seen_so (set entries place (key, count)))
        ∙ replace-place itself number place (key, count) entries is rising within found
        ∙ ap (λ counts. kept number count counts) (seen_so entries)

    -- where it is removed, none is kept under the number
    pub counted_out : (default : ℕ × ℕ) → remove entries place ≡ forgotten number entries
    counted_out default =
        sym (seen_so (remove entries place)) ∙ remove-place itself number place default entries rising within found
        ∙ ap (λ counts. forgotten number counts) (seen_so entries)

  module _ (place : ℕ) (position : IsBinarySearchResult (λ entry. nat_cmp entry.0 number) searched (Err place)) where
    missing : IsBinarySearchResult (λ entry. nat_cmp entry.0 number) entries (Err place)
    missing = subst (λ items. IsBinarySearchResult (λ entry. nat_cmp entry.0 number) items (Err place)) same position

    -- where no place was found the number has no count
    pub uncounted : kept_under number entries ≡ None
    uncounted =
        subst (λ counts. lookup (is_at (nat_cmp number)) counts ≡ None) (seen_so entries)
        (found-nowhere itself number entries rising (Err place) missing)

    pub still_uncounted : entries ≡ forgotten number entries
    still_uncounted = sym (absent_stays (is_at (nat_cmp number)) entries uncounted)

    -- a count that comes there is kept under the number
    pub counted_first : (count : ℕ) → place ≤ length searched → insert entries place (number, count) ≡ kept number count entries
    counted_first count bound =
        sym (seen_so (insert entries place (number, count)))
        ∙ insert-place itself number place count entries (subst (λ items. place ≤ length items) same bound)
        (lower-before number entries rising place missing) (higher-from number entries rising place missing)
        ∙ ap (λ counts. kept number count counts) (seen_so entries)
