-- The service to which ports belong, and what it allows.
use Rattle.std.specs.Prelude.{ℕ, ◌≡◌}
use Rattle.iox_domain.specs.DomainValues.declared.backpressure.BackpressureDecision.{BackpressureDecision}
use Rattle.iox_domain.specs.DomainValues.declared.backpressure.BackpressureInfo.{BackpressureInfo}
use Rattle.iox_domain.specs.DomainValues.declared.degradation.DegradationAction.{DegradationAction}
use Rattle.iox_domain.specs.DomainValues.declared.degradation.DegradationInfo.{DegradationInfo}
use Rattle.iox_domain.specs.declared.ports.service_ports.ServicePorts.{ServicePorts}
use Rattle.iox_domain.specs.Calls.{PortCall, Happens}

-- The ports belong to the same service, with the same limits.
pub record SameService {T U : Type 0} (old new : ServicePorts T U) : Type 0 where
  pub service : new.service ≡ old.service
  pub sizes : new.sizes ≡ old.sizes

-- No call of a port changes the service to which the ports belong, nor its limits.
pub record ServiceStays (T U : Type 0) (overrides : ℕ → ℕ → Type 0) (may : DegradationInfo → DegradationAction
    → Type 0) (decide : BackpressureInfo → BackpressureDecision → Type 0) : Type 0 where
  pub stays : (call : PortCall T U) (old new : ServicePorts T U) → Happens overrides may decide call old new → SameService old new
