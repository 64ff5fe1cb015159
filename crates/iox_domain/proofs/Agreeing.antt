-- The parts of a domain agree.
use Rattle.std.proofs.Common.{arith, ◌≡◌, ◌∙◌, ℕ, Bool, true, false, max, refl, ap, nat_le}
use Rattle.std.proofs.lemmas.Bool.{le-leb}
use Rattle.std.proofs.lemmas.Bool.Decides.{eqb_tells}
use Rattle.std.proofs.Math.Logic.{⊎_elim}
use Rattle.std.specs.Bool.{beq}
use Rattle.std.specs.Prelude.{◌==◌, ◌&&◌}
use Rattle.iox_domain.specs.DescribeSettings.declared.static_config.Settings.{Settings}
use Rattle.iox_domain.specs.DescribeSettings.declared.static_config.publish_subscribe.StaticConfig.{StaticConfig}
use Rattle.iox_domain.specs.DomainValues.declared.backpressure.BackpressureDecision.{BackpressureDecision}
use Rattle.iox_domain.specs.DomainValues.declared.backpressure.BackpressureInfo.{BackpressureInfo}
use Rattle.iox_domain.specs.DomainValues.declared.degradation.DegradationAction.{DegradationAction}
use Rattle.iox_domain.specs.DomainValues.declared.degradation.DegradationInfo.{DegradationInfo}
use Rattle.iox_domain.specs.DomainValues.declared.service_sizes.ServiceSizes.{ServiceSizes}
use Rattle.iox_domain.specs.Sizes.{sizes}
use Rattle.iox_domain.proofs.Serviced.{service_stays}
use Rattle.iox_domain.specs.ServiceLaws.{SameService}
use Rattle.iox_domain.specs.declared.domain_id.DomainId.{DomainId}
use Rattle.iox_domain.specs.Domains.{IsNewDomain}
use Rattle.iox_domain.specs.Parts.{parts_of, agrees}
use Rattle.iox_domain.specs.PartsLaws.{PartsAgree}
use Rattle.iox_domain.specs.declared.domain.Domain.{Domain}

-- whether a service of these sizes is that of an id and an agreement
abbrev agree : ℕ → ServiceSizes → DomainId → StaticConfig → Bool
agree service sizes id agreed =
    (service == id.service) && (sizes.max_publishers == agreed.max_publishers) && (sizes.max_subscribers == agreed.max_subscribers)
    && (sizes.subscriber_max_buffer_size == agreed.subscriber_max_buffer_size)
    && (sizes.subscriber_max_borrowed_samples == agreed.subscriber_max_borrowed_samples)
    && (sizes.history_size == agreed.history_size) && beq sizes.enable_safe_overflow agreed.enable_safe_overflow
    && beq sizes.sequence_numbers agreed.sequence_numbers
    && nat_le agreed.subscriber_max_borrowed_samples sizes.expired_connections

same_number : (n : ℕ) → (n == n) ≡ true
same_number n = ⊎_elim (λ same. same.0) (λ other. absurd (other.1 refl)) (eqb_tells n n)

same_switch : (b : Bool) → beq b b ≡ true
same_switch true = refl
same_switch false = refl

within : (n m : ℕ) → nat_le n (max m n) ≡ true
within n m = le-leb n (max m n) (omega arith)

-- new ones
agree_new : (expired : ℕ) (id : DomainId) (agreed : StaticConfig) → agree id.service (sizes expired agreed) id agreed ≡ true
agree_new expired id agreed = rw (same_number id.service)
    (rw (same_number agreed.max_publishers) (rw (same_number agreed.max_subscribers) (rw (same_number agreed.subscriber_max_buffer_size)
    (rw (same_number agreed.subscriber_max_borrowed_samples)
    (rw (same_number agreed.history_size)
    (rw (same_switch agreed.enable_safe_overflow)
    (rw (same_switch agreed.sequence_numbers) (within agreed.subscriber_max_borrowed_samples expired))))))))

new : {T U B D : Type 0} (which : DomainId) (expired : ℕ) (settings : Settings) (domain : Domain T U B D)
    → IsNewDomain which expired settings domain → agrees (parts_of domain) ≡ true
new which expired settings domain made =
    ap (λ service. agree service domain.state.ports.sizes domain.id domain.agreed) (ap (λ ports. ports.service) made.ports)
    ∙ ap (λ counts. agree which.service counts domain.id domain.agreed) (ap (λ ports. ports.sizes) made.ports)
    ∙ ap (λ id. agree which.service (sizes expired domain.agreed) id domain.agreed) made.id ∙ agree_new expired which domain.agreed

same_parts : {T U B D : Type 0} (old new : Domain T U B D) → SameService old.state.ports new.state.ports → new.id ≡ old.id
    → new.agreed ≡ old.agreed → agrees (parts_of new) ≡ agrees (parts_of old)
same_parts old new same id agreed =
    ap (λ service. agree service new.state.ports.sizes new.id new.agreed) same.service
    ∙ ap (λ counts. agree old.state.ports.service counts new.id new.agreed) same.sizes
    ∙ ap (λ which. agree old.state.ports.service old.state.ports.sizes which new.agreed) id
    ∙ ap (λ config. agree old.state.ports.service old.state.ports.sizes old.id config) agreed

-- both
pub parts_agree : {T U B D : Type 0} (overrides : ℕ → ℕ → Type 0) (may : DegradationInfo → DegradationAction → Type 0)
    (decide : BackpressureInfo → BackpressureDecision → Type 0) → PartsAgree T U B D overrides may decide
parts_agree overrides may decide = record {
  new = new;
  stays = λ call old after happens id agreed before. same_parts old after
      ((service_stays overrides may decide).stays call old.state.ports after.state.ports happens) id agreed ∙ before;
}
