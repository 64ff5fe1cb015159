-- Values that are stored for ports, each under the number of its port.
use Rattle.std.specs.Prelude.{ℕ, List, Option, None, Some}
use Rattle.std.specs.BTreeMap.{insert_entry, is_at}
use Rattle.std.specs.Map.{lookup, remove_entry}
use Rattle.std.specs.Ordering.{nat_cmp}

-- The value stored under the number, if there is one.
abbrev pub kept_under : {H : Type 0} → ℕ → List (ℕ × H) → Option H
kept_under number values = lookup (is_at (nat_cmp number)) values

-- The values after `value` was stored under the number, in place of one that was there.
abbrev pub kept : {H : Type 0} → ℕ → H → List (ℕ × H) → List (ℕ × H)
kept number value values = insert_entry nat_cmp values number value

-- The values after the one under the number was removed.
abbrev pub forgotten : {H : Type 0} → ℕ → List (ℕ × H) → List (ℕ × H)
forgotten number values = remove_entry (is_at (nat_cmp number)) values

-- The values after the one under the number was restored to what it was before: a value, or none.
abbrev pub put_back : {H : Type 0} → ℕ → Option H → List (ℕ × H) → List (ℕ × H)
put_back number None values = forgotten number values
put_back number (Some value) values = kept number value values
