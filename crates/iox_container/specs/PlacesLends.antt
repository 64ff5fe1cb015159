-- What a row of places holds after a mutable reference to a value ends.
use Rattle.std.specs.Prelude.{ℕ, List, Option, Some, slice_set}
use Rattle.std.specs.Borrow.{Fml, Lends, MutBor, RattleType}
use Rattle.iox_container.specs.contracts.places.Places.{the_row}

module _ (T : RattleType) where
  -- When the reference ends, the places have its last value at the index.
  abbrev pub LendsPlace : MutBor (List (Option T.Denot)) → ℕ → MutBor T.Denot → Fml
  LendsPlace places index answer = Lends (the_row T) T places answer (λ value. slice_set places.now index (Some value))
