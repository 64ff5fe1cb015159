-- Values by number, in a list whose entries may have lost their values.
use Rattle.std.specs.Prelude.{ℕ, List, [], ◌∷◌, Option, None, Some, IsSome}
use Rattle.std.specs.BTreeMap.{is_at}
use Rattle.std.specs.Map.{lookup}
use Rattle.std.specs.Ordering.{nat_cmp}
use Rattle.std.specs.declared.boxed.Box.{Box}

module _ {X Z : Type 0} where
  -- An entry's value under its number, before these; nothing more if the entry has no value.
  abbrev pub shown_before : ℕ → Option (Box X Z) → List (ℕ × X) → List (ℕ × X)
  shown_before number None rest = rest
  shown_before number (Some boxed) rest = (number, boxed.value) ∷ rest

  -- The values with their numbers, in the order of the entries, without boxes.
  abbrev pub values_in : List (ℕ × Option (Box X Z)) → List (ℕ × X)
  values_in [] = []
  values_in (entry ∷ rest) = shown_before entry.0 entry.1 (values_in rest)

-- The number has a value.
abbrev pub HasValue : {X : Type 0} → ℕ → List (ℕ × X) → Type 0
HasValue number values = IsSome (lookup (is_at (nat_cmp number)) values)
