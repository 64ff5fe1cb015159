-- What calls of a domain keep of its publishers: slots of one segment, a history no longer than agreed, and connections where a message may
-- wait.
use Rattle.std.specs.Prelude.{ℕ, ◌≡◌, ◌≢◌, ◌<◌, ◌≤◌, Bool, true, false, List, length, get_or, Option, None, Some}
use Rattle.std.specs.List.{All}
use Rattle.iox_domain.specs.Calls.{PortCall, Happens}
use Rattle.iox_domain.specs.Container.declared.container.Member.{Member}
use Rattle.iox_domain.specs.DomainPorts.Ports.{connection_of}
use Rattle.iox_domain.specs.DomainPorts.declared.attached.Taken.{Taken}
use Rattle.iox_domain.specs.DomainPorts.declared.publisher_port.PublisherPort.{PublisherPort}
use Rattle.iox_domain.specs.DomainPorts.declared.subscriber_entry.SubscriberEntry.{SubscriberEntry}
use Rattle.iox_domain.specs.DomainPorts.declared.subscriber_port.SubscriberPort.{SubscriberPort}
use Rattle.iox_domain.specs.DomainSlots.Uses.{is_there}
use Rattle.iox_domain.specs.DomainValues.declared.backpressure.BackpressureDecision.{BackpressureDecision}
use Rattle.iox_domain.specs.DomainValues.declared.backpressure.BackpressureInfo.{BackpressureInfo}
use Rattle.iox_domain.specs.DomainValues.declared.data_segment.AllocationStrategy.TheVariants as strategy
use Rattle.iox_domain.specs.DomainValues.declared.degradation.DegradationAction.{DegradationAction}
use Rattle.iox_domain.specs.DomainValues.declared.degradation.DegradationInfo.{DegradationInfo}
use Rattle.iox_domain.specs.DomainValues.declared.service_sizes.ServiceSizes.{ServiceSizes}
use Rattle.iox_domain.specs.Order.{Happen}
use Rattle.iox_domain.specs.Ports.{no_ports}
use Rattle.iox_domain.specs.declared.domain.Domain.{Domain}
use Rattle.iox_domain.specs.declared.ports.service_ports.ServicePorts.{ServicePorts}
use Rattle.iox_domain_machine.specs.Naming.{Naming}
use Rattle.iox_domain_machine.specs.Standing.{StandsFor}
use Rattle.iox_domain_machine.specs.Tables.{LentSlot}
use Rattle.iox_lanes_opening.specs.Refusals.{first_reason, has_growing}
use Rattle.iox_lanes_opening.specs.declared.refusals.into_lanes_error.IntoLanesError.TheVariants as reason
use Rattle.iox_lanes_sound.specs.Standing.{AllKeepToOne}
use Rattle.iox_machine.specs.Service.{Service}

-- The slots of a publisher whose capacity doesn't grow are of one segment. The publisher keeps at most the agreed history. At least one
-- message may wait at each of its connections that exists, and at each that will be made.
pub record KeepsToOneIfStatic {T U : Type 0} (port : PublisherPort T U) : Type 0 where
  pub first : port.allocation ≡ strategy.Static → port.sender.uses.first ≡ 0
  pub few : length port.sender.uses.history ≤ port.sender.uses.kept
  pub some : (index : ℕ) → is_there (connection_of index port) ≡ true → 0 < (connection_of index port).limit
  pub room : 0 < port.sender.uses.most_waiting

-- The publisher with this number is as `KeepsToOneIfStatic` says.
abbrev pub IsKeptToOne : {T U : Type 0} → ℕ × PublisherPort T U → Type 0
IsKeptToOne (number, port) = KeepsToOneIfStatic port

-- At least one message may wait for the subscriber with this number.
abbrev pub MayWaitFor : ℕ × SubscriberPort → Type 0
MayWaitFor (number, port) = 0 < port.buffer_size

-- A service lets at least one message wait, also for each subscriber that it has or lists, and each publisher keeps to one segment if its
-- capacity doesn't grow.
pub record KeepToOneIfStatic {T U : Type 0} (ports : ServicePorts T U) : Type 0 where
  pub room : 0 < ports.sizes.subscriber_max_buffer_size
  pub publishers : All IsKeptToOne ports.publishers
  pub subscribers : All MayWaitFor ports.subscribers
  pub listed : (place : ℕ) (member : Member SubscriberEntry) → get_or ports.subscriber_list.places place None ≡ Some member
      → 0 < member.value.buffer_size

-- `KeepToOneIfStatic` holds for a new service that lets at least one message wait. It holds after each call, and after any calls from a new
-- service on. Then, if no capacity grows, each publisher keeps to one segment.
pub record CallsKeepToOne (T U : Type 0) (overrides : ℕ → ℕ → Type 0) (may : DegradationInfo → DegradationAction
    → Type 0) (decide : BackpressureInfo → BackpressureDecision → Type 0) : Type 0 where
  pub begins : (service : ℕ) (sizes : ServiceSizes) (ports : ServicePorts T U) → 0 < sizes.subscriber_max_buffer_size
      → ports ≡ no_ports service sizes → KeepToOneIfStatic ports
  pub goes_on : (call : PortCall T U) (old new : ServicePorts T U) → Happens overrides may decide call old new
      → KeepToOneIfStatic old → KeepToOneIfStatic new
  pub stays : (service : ℕ) (sizes : ServiceSizes) (calls : List (PortCall T U × ServicePorts T U)) (new : ServicePorts T U)
      → 0 < sizes.subscriber_max_buffer_size → Happen overrides may decide calls (no_ports service sizes) new → KeepToOneIfStatic new
  pub static : (ports : ServicePorts T U) → KeepToOneIfStatic ports → has_growing ports ≡ false → AllKeepToOne ports

-- A domain whose ports were left by any calls from a new service on, and represent a service of the machine, is never refused as unsound,
-- if the service lets at least one message wait.
abbrev pub NeverUnsound : {T U B D : Type 0} → (B → Option BackpressureDecision) → (D → Bool) → (ℕ → ℕ → Type 0)
    → (DegradationInfo → DegradationAction → Type 0) → (BackpressureInfo → BackpressureDecision → Type 0)
    → Domain T U B D → Type 0
NeverUnsound {T} {U} {B} {D} decision asks overrides may decide domain = (service : ℕ) (sizes : ServiceSizes) (calls : List (PortCall T U ×
    ServicePorts T U))
    (names : Naming) (lent : List (ℕ × LentSlot)) (held : List (ℕ × Taken)) (buffer : ℕ) (machine : Service T)
    → 0 < sizes.subscriber_max_buffer_size → Happen overrides may decide calls (no_ports service sizes) domain.state.ports
    → StandsFor names lent held buffer domain.state.ports machine → first_reason decision asks domain ≢ Some reason.Unsound
