-- A count for each number.
use Rattle.std.specs.Prelude.{ℕ, ◌<◌, ◌==◌, List, unwrap_or, if◌then◌else◌}
use Rattle.std.specs.BTreeMap.{insert_entry, is_at}
use Rattle.std.specs.List.{AllByRecursion}
use Rattle.std.specs.List.Sorted.{IsStrictlySortedBy}
use Rattle.std.specs.Map.{keys_of, lookup, remove_entry}
use Rattle.std.specs.Ordering.{nat_cmp}

-- The counts with their numbers, and how many numbers there is room for.
pub record TalliesState : Type 0 where
  pub counts : List (ℕ × ℕ)
  pub room : ℕ

-- They stand by rising number, and none of them is 0.
pub record IsTally (counts : List (ℕ × ℕ)) : Type 0 where
  pub rises : IsStrictlySortedBy nat_cmp (keys_of counts)
  pub positive : AllByRecursion (λ entry. 0 < entry.1) counts

-- The count of a number; 0 if it has none.
abbrev pub count_under : ℕ → List (ℕ × ℕ) → ℕ
count_under number counts = unwrap_or (lookup (is_at (nat_cmp number)) counts) 0

-- The counts after this one was set; a count of 0 is taken out.
abbrev pub with_count : ℕ → ℕ → List (ℕ × ℕ) → List (ℕ × ℕ)
with_count number count counts =
    if count == 0 then remove_entry (is_at (nat_cmp number)) counts else insert_entry nat_cmp counts number count
