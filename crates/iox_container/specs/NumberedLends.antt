-- What a table holds after a mutable reference to a value ends.
use Rattle.std.specs.Prelude.{ℕ, Option}
use Rattle.std.specs.Borrow.{Fml, Lends, LendsIf, MutBor, RattleType}
use Rattle.iox_container.specs.NumberTable.{NumberTable, with_value}
use Rattle.iox_container.specs.contracts.by_number.numbered.Numbered.{the_row}

module _ (V : RattleType) where
  -- When the reference ends, the table has its last value under the number; if there was none, the table stays as it was.
  abbrev pub LendsAt : MutBor (NumberTable V.Denot) → ℕ → Option (MutBor V.Denot) → Fml
  LendsAt table number answer = LendsIf (the_row V) V table answer (with_value table.now number) table.now

  -- When the reference ends, the table has its last value under the number.
  abbrev pub LendsHeld : MutBor (NumberTable V.Denot) → ℕ → MutBor V.Denot → Fml
  LendsHeld table number answer = Lends (the_row V) V table answer (with_value table.now number)
