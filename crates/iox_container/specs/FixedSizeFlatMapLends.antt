-- What a flat map of fixed size holds after a mutable reference to a value ends.
use Rattle.std.specs.Prelude.{Option}
use Rattle.std.specs.Borrow.{Fml, LendsIf, MutBor, RattleType}
use Rattle.std.specs.declared.cmp.PartialEq.{Ghosts}
use Rattle.iox_container.specs.SlotTable.{SlotTable}
use Rattle.iox_container.specs.PairTable.{with_value_of}
use Rattle.iox_container.specs.contracts.flat_map.fixed_size_flat_map.FixedSizeFlatMap.{the_row}

module _ (K V CAPACITY : RattleType) (keys : Ghosts K.Denot) where
  -- When the reference ends, the map has its last value under the key; if the map lacks the key, it stays as it was.
  abbrev pub LendsOf : MutBor (SlotTable (K.Denot × V.Denot)) → K.Denot → Option (MutBor V.Denot) → Fml
  LendsOf map key answer = LendsIf (the_row K V CAPACITY keys) V map answer (with_value_of keys.eq key map.now) map.now
