-- The handlers of a port.
use Rattle.std.specs.Prelude.{◌≡◌, Option, None, Some}
use Rattle.iox_domain.specs.DomainValues.declared.backpressure.BackpressureDecision.{BackpressureDecision}
use Rattle.iox_domain.specs.DomainValues.declared.backpressure.BackpressureDecision.TheVariants.{Retry}
use Rattle.iox_domain.specs.DomainValues.declared.backpressure.BackpressureInfo.{BackpressureInfo}
use Rattle.iox_domain.specs.DomainValues.declared.degradation.DegradationAction.{DegradationAction}
use Rattle.iox_domain.specs.DomainValues.declared.degradation.DegradationAction.TheVariants.{Warn}
use Rattle.iox_domain.specs.DomainValues.declared.degradation.DegradationCause.{DegradationCause}
use Rattle.iox_domain.specs.DomainValues.declared.degradation.DegradationCause.TheVariants.{FailedToEstablishConnection}
use Rattle.iox_domain.specs.DomainValues.declared.degradation.DegradationInfo.{DegradationInfo}

-- A failed connection is answered with `Warn`.
abbrev pub passes_over : DegradationCause → DegradationInfo → DegradationAction → Type 0
passes_over cause info action = action ≡ Warn

-- A send blocks at a full mailbox.
abbrev pub waits : BackpressureInfo → BackpressureDecision → Type 0
waits info decision = decision ≡ Retry

-- What may be answered if a connection of a port failed: what the port's handlers may answer, or `Warn` if none are stored for
-- it.
abbrev pub kept_degrades : {H : Type 0} → (H → DegradationCause → DegradationInfo → DegradationAction → Type 0) → Option H
    → DegradationInfo → DegradationAction → Type 0
kept_degrades degrades None = passes_over FailedToEstablishConnection
kept_degrades degrades (Some kept) = degrades kept FailedToEstablishConnection

-- What handlers of a port may answer for a cause: what those that are stored for it may answer, or `Warn` if none are.
abbrev pub stored_degrades : {H : Type 0} → (H → DegradationCause → DegradationInfo → DegradationAction → Type 0) → Option H
    → DegradationCause → DegradationInfo → DegradationAction → Type 0
stored_degrades degrades None = passes_over
stored_degrades degrades (Some kept) = degrades kept

-- What may be decided at a full mailbox: what the publisher's handlers may decide; if none are stored for it, the send blocks.
abbrev pub kept_decides : {H : Type 0} → (H → BackpressureInfo → BackpressureDecision → Type 0) → Option H → BackpressureInfo
    → BackpressureDecision → Type 0
kept_decides decides None = waits
kept_decides decides (Some kept) = decides kept
