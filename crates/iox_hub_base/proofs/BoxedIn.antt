-- What holds of a value in a box.
use Rattle.std.proofs.Common.{◌≡◌, Result, Ok, Err, sym, subst}
use Rattle.std.specs.Prelude.{IfOk}
use Rattle.std.specs.declared.boxed.Box.{Box}

-- what holds of a value holds of it in its box
pub holds-boxed : {X Z E : Type 0} (Holds : X → Type 0) (value : X) (result : Result (Box X Z) E)
    → IfOk result (λ boxed. boxed.value ≡ value) → Holds value → IfOk result (λ boxed. Holds boxed.value)
holds-boxed Holds value (Ok boxed) same holds = subst Holds (sym same) holds
holds-boxed Holds value (Err error) same holds = tt
