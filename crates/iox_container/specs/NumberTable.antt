-- A table of values under numbers, each of which is given out once.
use Rattle.std.specs.Prelude.{ℕ, ◌+◌, ◌≤◌, List, [], ◌∷◌, ◌++◌, Option, nat_eq, max}
use Rattle.std.specs.Map.{lookup, remove_entry, set_value}

-- The values with their numbers, in rising order; the next number that is given out; and the maximum number of values.
pub record NumberTable (V : Type 0) : Type 0 where
  pub entries : List (ℕ × V)
  pub next : ℕ
  pub room : ℕ

-- The numbers of the entries rise; the first is at least `low`, and each is below `next`.
abbrev pub Rises : {V : Type 0} → ℕ → List (ℕ × V) → ℕ → Type 0
Rises low [] next = low ≤ next
Rises low (entry ∷ rest) next = (low ≤ entry.0) × Rises (entry.0 + 1) rest next

module _ {V : Type 0} where
  -- The value under a number, if there is one.
  abbrev pub value_at : NumberTable V → ℕ → Option V
  value_at table number = lookup (nat_eq number) table.entries

  -- The table after a value is put under the next number.
  abbrev pub inserted : NumberTable V → V → NumberTable V
  inserted table value = record { entries = table.entries ++ (table.next, value) ∷ []; next = table.next + 1; room = table.room }

  -- The table after the value under a number is removed.
  abbrev pub removed : NumberTable V → ℕ → NumberTable V
  removed table number = record { entries = remove_entry (nat_eq number) table.entries; next = table.next; room = table.room }

  -- The table with another value under a number that has one.
  abbrev pub with_value : NumberTable V → ℕ → V → NumberTable V
  with_value table number value = record { entries = set_value (nat_eq number) table.entries value; next = table.next; room = table.room }

  -- The table with a capacity of at least `room` values.
  abbrev pub with_room : NumberTable V → ℕ → NumberTable V
  with_room table room = record { entries = table.entries; next = table.next; room = max table.room room }
