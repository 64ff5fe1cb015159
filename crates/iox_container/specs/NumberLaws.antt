-- Theorems about sequences of calls to a table.
use Rattle.std.specs.Prelude.{ℕ, ◌≡◌, ◌≢◌, ◌<◌, ◌≤◌, All, List, [], ◌∷◌, ◌++◌, None, Some}
use Rattle.std.specs.List.{AllPairs}
use Rattle.iox_container.specs.NumberTable.{NumberTable, Rises, value_at, inserted, removed, with_value, with_room}

-- A call that changes a table.
pub data Change (V : Type 0) : Type 0 where
  Inserts : (value : V) → Change V
  Removes : (number : ℕ) → Change V
  Writes : (number : ℕ) (value : V) → Change V
  Reserves : (room : ℕ) → Change V

module _ {V : Type 0} where
  -- The table after a change.
  abbrev pub changed : NumberTable V → Change V → NumberTable V
  changed table (Inserts value) = inserted table value
  changed table (Removes number) = removed table number
  changed table (Writes number value) = with_value table number value
  changed table (Reserves room) = with_room table room

  -- The table after changes, one after another.
  abbrev pub all_changed : NumberTable V → List (Change V) → NumberTable V
  all_changed table [] = table
  all_changed table (change ∷ changes) = all_changed (changed table change) changes

  -- The number that a change gives out, or none.
  abbrev pub given_by : NumberTable V → Change V → List ℕ
  given_by table (Inserts value) = table.next ∷ []
  given_by table (Removes number) = []
  given_by table (Writes number value) = []
  given_by table (Reserves room) = []

  -- The numbers that these changes give out, one after another.
  abbrev pub given : NumberTable V → List (Change V) → List ℕ
  given table [] = []
  given table (change ∷ changes) = given_by table change ++ given (changed table change) changes

  -- The change neither removes nor writes the value under this number.
  abbrev pub LeavesAlone : ℕ → Change V → Type 0
  LeavesAlone number (Inserts value) = Unit {0}
  LeavesAlone number (Removes other) = other ≢ number
  LeavesAlone number (Writes other value) = other ≢ number
  LeavesAlone number (Reserves room) = Unit {0}

-- An inserted value is found under its number, a removed value isn't found, and a written value is read; the other numbers keep their
-- values. Zero and numbers that weren't given out have no value.
pub record FoundAndGone (V : Type 0) : Type 0 where
  pub put : (table : NumberTable V) (value : V) → Rises 1 table.entries table.next → value_at (inserted table value) table.next ≡ Some value
  pub put_others : (table : NumberTable V) (value : V) (other : ℕ) → other ≢ table.next
      → value_at (inserted table value) other ≡ value_at table other
  pub gone : (table : NumberTable V) (number : ℕ) → Rises 1 table.entries table.next → value_at (removed table number) number ≡ None
  pub gone_others : (table : NumberTable V) (number other : ℕ) → other ≢ number
      → value_at (removed table number) other ≡ value_at table other
  pub written : (table : NumberTable V) (number : ℕ) (old value : V) → value_at table number ≡ Some old
      → value_at (with_value table number value) number ≡ Some value
  pub written_others : (table : NumberTable V) (number other : ℕ) (value : V) → other ≢ number
      → value_at (with_value table number value) other ≡ value_at table other
  pub not_given : (table : NumberTable V) (number : ℕ) → Rises 1 table.entries table.next → table.next ≤ number
      → value_at table number ≡ None
  pub zero_is_nobody : (table : NumberTable V) → Rises 1 table.entries table.next → value_at table 0 ≡ None

-- Over any changes, the numbers that are given out rise and are new; a removed value never comes back, and a value that no change removes
-- or writes stays.
pub record GivenOnce (V : Type 0) : Type 0 where
  pub rises : (table : NumberTable V) (changes : List (Change V)) → Rises 1 table.entries table.next
      → Rises 1 (all_changed table changes).entries (all_changed table changes).next
  pub given_rise : (table : NumberTable V) (changes : List (Change V)) → AllPairs (λ earlier later. earlier < later) (given table changes)
  pub given_new : (table : NumberTable V) (changes : List (Change V)) → All (λ number. table.next ≤ number) (given table changes)
  pub given_below : (table : NumberTable V) (changes : List (Change V))
      → All (λ number. number < (all_changed table changes).next) (given table changes)
  pub gone_stays : (table : NumberTable V) (changes : List (Change V)) (number : ℕ) → number < table.next → value_at table number ≡ None
      → value_at (all_changed table changes) number ≡ None
  pub stays : (table : NumberTable V) (changes : List (Change V)) (number : ℕ) (value : V) → number < table.next
      → value_at table number ≡ Some value → All (LeavesAlone number) changes
      → value_at (all_changed table changes) number ≡ Some value
