-- The parts of a domain agree.
use Rattle.std.specs.Prelude.{ℕ, ◌≡◌, true}
use Rattle.iox_domain.specs.DescribeSettings.declared.static_config.Settings.{Settings}
use Rattle.iox_domain.specs.DomainValues.declared.backpressure.BackpressureDecision.{BackpressureDecision}
use Rattle.iox_domain.specs.DomainValues.declared.backpressure.BackpressureInfo.{BackpressureInfo}
use Rattle.iox_domain.specs.DomainValues.declared.degradation.DegradationAction.{DegradationAction}
use Rattle.iox_domain.specs.DomainValues.declared.degradation.DegradationInfo.{DegradationInfo}
use Rattle.iox_domain.specs.Calls.{PortCall, Happens}
use Rattle.iox_domain.specs.declared.domain_id.DomainId.{DomainId}
use Rattle.iox_domain.specs.Domains.{IsNewDomain}
use Rattle.iox_domain.specs.Parts.{parts_of, agrees}
use Rattle.iox_domain.specs.declared.domain.Domain.{Domain}

-- The parts of a new domain agree, and each call of its ports preserves this.
pub record PartsAgree (T U B D : Type 0) (overrides : ℕ → ℕ → Type 0) (may : DegradationInfo → DegradationAction
    → Type 0) (decide : BackpressureInfo → BackpressureDecision → Type 0) : Type 0 where
  pub new : (which : DomainId) (expired_connection_buffer : ℕ) (settings : Settings) (domain : Domain T U B D)
      → IsNewDomain which expired_connection_buffer settings domain → agrees (parts_of domain) ≡ true
  pub stays : (call : PortCall T U) (old new : Domain T U B D) → Happens overrides may decide call old.state.ports new.state.ports
      → new.id ≡ old.id → new.agreed ≡ old.agreed
      → agrees (parts_of old) ≡ true → agrees (parts_of new) ≡ true
