-- How each call changes the number of samples that may still be received.
use Rattle.std.specs.Prelude.{ℕ, ◌≡◌, ◌≤◌, ◌+◌}
use Rattle.iox_domain.specs.Calls.{PortCall, Happens}
use Rattle.iox_domain.specs.Ports.{no_ports}
use Rattle.iox_domain.specs.declared.ports.service_ports.ServicePorts.{ServicePorts}
use Rattle.iox_domain.specs.DomainValues.declared.backpressure.BackpressureDecision.{BackpressureDecision}
use Rattle.iox_domain.specs.DomainValues.declared.backpressure.BackpressureInfo.{BackpressureInfo}
use Rattle.iox_domain.specs.DomainValues.declared.degradation.DegradationAction.{DegradationAction}
use Rattle.iox_domain.specs.DomainValues.declared.degradation.DegradationInfo.{DegradationInfo}
use Rattle.iox_domain.specs.DomainValues.declared.service_sizes.ServiceSizes.{ServiceSizes}
use Rattle.iox_domain.specs.Roomy.{AreRoomy}
use Rattle.iox_domain.specs.Samples.{samples_left, received_by, released_by, brought_by}

-- In a new service no sample may be received. A call raises this number at most by the samples that it releases and by those that may
-- be held because of a port that it creates; a sample that it receives lowers the number by one. This holds in a roomy service; a new
-- service is roomy, and each call preserves this.
pub record SamplesLeft (T U : Type 0) (overrides : ℕ → ℕ → Type 0) (may : DegradationInfo → DegradationAction
    → Type 0) (decide : BackpressureInfo → BackpressureDecision → Type 0) : Type 0 where
  -- A new service is roomy.
  pub begins : (service : ℕ) (sizes : ServiceSizes) → AreRoomy {T = T} {U = U} (no_ports service sizes)
  -- No sample may be received in a new service.
  pub nothing : (service : ℕ) (sizes : ServiceSizes) → samples_left {T = T} {U = U} (no_ports service sizes) ≡ 0
  -- Each call preserves that the service is roomy.
  pub goes_on : (call : PortCall T U) (old new : ServicePorts T U) → Happens overrides may decide call old new → AreRoomy old → AreRoomy new
  -- The samples that may be received after the call, and the one that it received, are at most those that might be received
  -- before it, and those that it released or brought.
  pub left : (call : PortCall T U) (old new : ServicePorts T U) → Happens overrides may decide call old new → AreRoomy old
      → samples_left new + received_by call ≤ samples_left old + released_by call + brought_by call old
