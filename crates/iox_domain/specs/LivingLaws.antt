-- Theorems about the counts of what is alive.
use Rattle.std.specs.Prelude.{ℕ, ◌≡◌, ◌≤◌, ◌↔◌, false, [], All, Option, None, Some}
use Rattle.std.specs.Map.{values_of}
use Rattle.iox_domain.specs.DomainValues.declared.service_sizes.ServiceSizes.{ServiceSizes}
use Rattle.iox_domain.specs.DomainPorts.declared.publisher_port.PublisherPort.{PublisherPort}
use Rattle.iox_domain.specs.DomainPorts.declared.subscriber_port.SubscriberPort.{SubscriberPort}
use Rattle.iox_domain.specs.Ports.{no_ports}
use Rattle.iox_domain.specs.Living.{living}
use Rattle.iox_domain.specs.declared.ports.service_ports.ServicePorts.{ServicePorts}

-- The publisher is closed, and has no loans and no blocked send.
pub record IsSilent {T U : Type 0} (port : PublisherPort T U) : Type 0 where
  pub left : port.stands ≡ false
  pub loans : port.sender.uses.loans ≡ []
  pub sending : port.sender.uses.sending ≡ None

-- The subscriber is closed, and holds no sample.
pub record IsEmptied (port : SubscriberPort) : Type 0 where
  pub left : port.stands ≡ false
  pub held : port.held ≡ 0

-- No port is open, no loan exists, no send is blocked, and no sample is held.
abbrev pub NothingLives : {T U : Type 0} → ServicePorts T U → Type 0
NothingLives ports = All IsSilent (values_of ports.publishers) × All IsEmptied (values_of ports.subscribers)

-- Nothing is alive in a new service. The count of all owners is 0 exactly if nothing is alive. The count of one owner is at
-- most that of all.
pub record LivingTells (T U : Type 0) : Type 0 where
  pub new : (owner : Option ℕ) (service : ℕ) (sizes : ServiceSizes) → living {T = T} {U = U} owner (no_ports service sizes) ≡ 0
  pub none : (ports : ServicePorts T U) → (living None ports ≡ 0) ↔ NothingLives ports
  pub within : (owner : ℕ) (ports : ServicePorts T U) → living (Some owner) ports ≤ living None ports
