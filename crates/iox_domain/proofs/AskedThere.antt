-- Handlers that are looked up where they are asked may answer what those that are stored may answer.
use Rattle.std.proofs.Common.{◌≡◌, Option, None, Some, refl}
use Rattle.iox_domain.specs.DomainValues.declared.degradation.DegradationAction.{DegradationAction}
use Rattle.iox_domain.specs.DomainValues.declared.degradation.DegradationCause.{DegradationCause}
use Rattle.iox_domain.specs.DomainValues.declared.degradation.DegradationCause.TheVariants.{FailedToEstablishConnection}
use Rattle.iox_domain.specs.DomainValues.declared.degradation.DegradationInfo.{DegradationInfo}
use Rattle.iox_domain.specs.Handling.{kept_degrades, stored_degrades}

pub stored_told : {H : Type 0} (degrades : H → DegradationCause → DegradationInfo → DegradationAction → Type 0) (handlers : Option H)
    → stored_degrades degrades handlers FailedToEstablishConnection ≡ kept_degrades degrades handlers
stored_told degrades None = refl
stored_told degrades (Some kept) = refl
