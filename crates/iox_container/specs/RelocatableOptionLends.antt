-- What a relocatable option holds after a mutable reference to its value ends.
use Rattle.std.specs.Prelude.{Option}
use Rattle.std.specs.Borrow.{Fml, LendsIf, MutBor, RattleType}
use Rattle.iox_container.specs.declared.relocatable_option.RelocatableOption.{RelocatableOption}
use Rattle.iox_container.specs.declared.relocatable_option.RelocatableOption.TheVariants as variants
use Rattle.iox_container.specs.contracts.relocatable_option.RelocatableOption.{the_row}

module _ (T : RattleType) where
  -- When the reference ends, the option holds its last value; an empty option stays empty.
  abbrev pub LendsValue : MutBor (RelocatableOption T.Denot) → Option (MutBor T.Denot) → Fml
  LendsValue option answer = LendsIf (the_row T) T option answer (λ w. variants.Some w) option.now
