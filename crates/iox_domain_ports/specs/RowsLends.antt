-- The final state of the rows once a `&mut` to one of their values has ended.
use Rattle.std.specs.Prelude.{ℕ, set}
use Rattle.std.specs.Borrow.{Fml, Lends, MutBor, RattleType}
use Rattle.iox_domain_ports.specs.Rows.{RowsState, row_at, with_row}
use Rattle.iox_domain_ports.specs.contracts.messages.rows.Rows.{the_row}

module _ (T : RattleType) where
  -- When the reference ends, the rows have its last value at this place of this row.
  abbrev pub LendsInRow : MutBor (RowsState T.Denot) → ℕ → ℕ → MutBor T.Denot → Fml
  LendsInRow rows row place answer = Lends (the_row T) T rows answer
      (λ value. with_row row (set (row_at row rows.now) place value) rows.now)
