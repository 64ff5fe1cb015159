-- Keys that are made one after another as they are needed.
use Rattle.std.specs.Prelude.{ℕ, ◌+◌, ◌-◌, List, [], ◌∷◌, ◌++◌}
use Rattle.std.specs.List.{range_with_len}

-- The keys in their order, how many keys were made so far (each key is below that number), and how many can be made in all.
pub record KeysInOrder : Type 0 where
  pub keys : List ℕ
  pub made : ℕ
  pub room : ℕ

-- The list after the next key is made and appended.
abbrev pub with_next : KeysInOrder → KeysInOrder
with_next of = record { keys = of.keys ++ of.made ∷ []; made = of.made + 1; room = of.room }

-- The keys, followed by those that aren't made yet, in rising order.
abbrev pub all_keys : KeysInOrder → List ℕ
all_keys of = of.keys ++ range_with_len of.made (of.room - of.made)
