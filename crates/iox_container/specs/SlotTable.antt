-- A slot map: values at keys, and the free keys.
use Rattle.std.specs.Prelude.{ℕ, ◌≡◌, ◌⊎◌, ◌+◌, ◌<◌, ◌↔◌, ◌==◌, List, [], ◌∷◌, length, Option, Some, None, is_some, count_by}
use Rattle.std.specs.Prelude.{slice_index_or, slice_set, if◌then◌else◌}

-- A value or none at each key from 0 on, and the keys without a value in the order in which they will be given out.
pub record SlotTable (T : Type 0) : Type 0 where
  pub values : List (Option T)
  pub free : List ℕ

-- The key is in the list.
abbrev pub Among : ℕ → List ℕ → Type 0
Among key [] = ⊥
Among key (k ∷ ks) = (key ≡ k) ⊎ Among key ks

-- No key occurs twice in the list.
abbrev pub Distinct : List ℕ → Type 0
Distinct [] = Unit {0}
Distinct (k ∷ ks) = (¬ Among k ks) × Distinct ks

-- The list without this key.
abbrev pub without : ℕ → List ℕ → List ℕ
without key [] = []
without key (k ∷ ks) = if k == key then without key ks else k ∷ without key ks

module _ {T : Type 0} where
  -- The value at a key, if the key holds one.
  abbrev pub value_at : List (Option T) → ℕ → Option T
  value_at values key = slice_index_or values key None

  -- The table after a value is stored at a key, which is then not free.
  abbrev pub stored : SlotTable T → ℕ → T → SlotTable T
  stored table key value = record { values = slice_set table.values key (Some value); free = without key table.free }

  -- The table after the value at a key is removed; the key is then the first free one.
  abbrev pub released : SlotTable T → ℕ → SlotTable T
  released table key = record { values = slice_set table.values key None; free = key ∷ table.free }

  -- The table with another value at a key that holds one.
  abbrev pub with_value : SlotTable T → ℕ → T → SlotTable T
  with_value table key value = record { values = slice_set table.values key (Some value); free = table.free }

  -- How many keys hold a value.
  abbrev pub held_count : SlotTable T → ℕ
  held_count table = count_by is_some table.values

  -- The keys that hold a value, with the values, in rising order, where `at` is the key of the first place.
  abbrev pub held_from : ℕ → List (Option T) → List (ℕ × T)
  held_from at [] = []
  held_from at (None ∷ rest) = held_from (at + 1) rest
  held_from at (Some value ∷ rest) = (at, value) ∷ held_from (at + 1) rest

  -- The free keys are exactly those below the capacity that hold no value, each listed once.
  pub record FreeKeysAreExact (table : SlotTable T) : Type 0 where
    pub exact : (key : ℕ) → Among key table.free ↔ ((key < length table.values) × (value_at table.values key ≡ None))
    pub distinct : Distinct table.free
    pub counted : held_count table + length table.free ≡ length table.values

  -- The list has an entry with this key and this value.
  abbrev pub HasItem : ℕ → T → List (ℕ × T) → Type 0
  HasItem key value [] = ⊥
  HasItem key value (item ∷ items) = ((key ≡ item.0) × (value ≡ item.1)) ⊎ HasItem key value items

  -- Each key in the list is below all later ones.
  abbrev pub Rising : List (ℕ × T) → Type 0
  Rising [] = Unit {0}
  Rising (item ∷ items) = ((key : ℕ) (value : T) → HasItem key value items → item.0 < key) × Rising items

  -- The items are exactly the keys that hold a value, with the values, each key once, in rising order.
  pub record ListsHeldKeys (values : List (Option T)) (items : List (ℕ × T)) : Type 0 where
    pub exact : (key : ℕ) (value : T) → HasItem key value items ↔ (value_at values key ≡ Some value)
    pub rising : Rising items
