-- What a slot map holds after a mutable reference to a value ends.
use Rattle.std.specs.Prelude.{ℕ, Option}
use Rattle.std.specs.Borrow.{Fml, Lends, LendsIf, MutBor, RattleType}
use Rattle.iox_container.specs.SlotTable.{SlotTable, with_value}
use Rattle.iox_container.specs.contracts.slot_map.SlotMap.{the_row}

module _ (T : RattleType) where
  -- When the reference ends, the map has its last value at the key; if the key holds no value, the map stays as it was.
  abbrev pub LendsAt : MutBor (SlotTable T.Denot) → ℕ → Option (MutBor T.Denot) → Fml
  LendsAt map key answer = LendsIf (the_row T) T map answer (with_value map.now key) map.now

  -- When the reference ends, the map has its last value at the key.
  abbrev pub LendsHeld : MutBor (SlotTable T.Denot) → ℕ → MutBor T.Denot → Fml
  LendsHeld map key answer = Lends (the_row T) T map answer (with_value map.now key)
