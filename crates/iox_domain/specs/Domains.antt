-- One publish-subscribe service with its ports.
use Rattle.std.specs.Prelude.{ℕ, ◌≡◌, []}
use Rattle.iox_domain.specs.DescribeSettings.declared.static_config.Settings.{Settings}
use Rattle.iox_domain.specs.DescribeSettings.declared.static_config.Settings.TheVariants.{PublishSubscribe}
use Rattle.iox_domain.specs.Sizes.{sizes}
use Rattle.iox_domain.specs.Ports.{no_ports}
use Rattle.iox_domain.specs.declared.ports.service_ports.ServicePorts.{ServicePorts}
use Rattle.iox_domain.specs.States.{with_ports as state_with_ports}
use Rattle.iox_domain.specs.declared.domain.Domain.{Domain}
use Rattle.iox_domain.specs.declared.state.DomainState.{DomainState}
use Rattle.iox_domain.specs.declared.domain_id.DomainId.{DomainId}

-- A domain without ports, with the limits that the settings of the publish-subscribe service say.
pub record IsNewDomain {T U B D : Type 0} (which : DomainId) (expired_connection_buffer : ℕ) (settings : Settings)
    (domain : Domain T U B D) : Type 0 where
  pub id : domain.id ≡ which
  pub agreed : settings ≡ PublishSubscribe domain.agreed
  pub ports : domain.state.ports ≡ no_ports which.service (sizes expired_connection_buffer domain.agreed)
  pub publisher_handlers : domain.state.publisher_handlers ≡ []
  pub subscriber_handlers : domain.state.subscriber_handlers ≡ []

-- The domain after this step of its state, and otherwise unchanged.
abbrev pub in_state : {T U B D : Type 0} → (DomainState T U B D → DomainState T U B D) → Domain T U B D → Domain T U B D
in_state step domain = record domain { state = step domain.state }

-- The domain with these ports, and otherwise unchanged.
abbrev pub with_ports : {T U B D : Type 0} → ServicePorts T U → Domain T U B D → Domain T U B D
with_ports ports domain = in_state (state_with_ports ports) domain
