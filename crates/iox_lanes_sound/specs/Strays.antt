-- Calls of a domain never leave a stray tie: a place where nobody is listed that a publisher which followed the list has tied to a
-- connection.
use Rattle.std.specs.Prelude.{ℕ, ◌≡◌, ◌≢◌, ◌<◌, ◌≤◌, ◌==◌, ◌&&◌, ◌⊎◌, true, false, List, get_or, Option, None, Some}
use Rattle.std.specs.List.{All}
use Rattle.iox_domain.specs.Calls.{PortCall, Happens}
use Rattle.iox_domain.specs.Container.declared.container.Member.{Member}
use Rattle.iox_domain.specs.DomainPorts.Publishers.{port_of}
use Rattle.iox_domain.specs.DomainPorts.declared.publisher_entry.PublisherEntry.{PublisherEntry}
use Rattle.iox_domain.specs.DomainPorts.declared.publisher_port.PublisherPort.{PublisherPort}
use Rattle.iox_domain.specs.DomainPorts.declared.subscriber_entry.SubscriberEntry.{SubscriberEntry}
use Rattle.iox_domain.specs.DomainPorts.declared.subscriber_port.SubscriberPort.{SubscriberPort}
use Rattle.iox_domain.specs.DomainValues.declared.backpressure.BackpressureDecision.{BackpressureDecision}
use Rattle.iox_domain.specs.DomainValues.declared.backpressure.BackpressureInfo.{BackpressureInfo}
use Rattle.iox_domain.specs.DomainValues.declared.degradation.DegradationAction.{DegradationAction}
use Rattle.iox_domain.specs.DomainValues.declared.degradation.DegradationInfo.{DegradationInfo}
use Rattle.iox_domain.specs.DomainValues.declared.service_sizes.ServiceSizes.{ServiceSizes}
use Rattle.iox_domain.specs.Order.{Happen}
use Rattle.iox_domain.specs.Ports.{no_ports}
use Rattle.iox_domain.specs.Rolls.{RollState, is_listed}
use Rattle.iox_domain.specs.Subscribers.{subscriber_of}
use Rattle.iox_domain.specs.declared.ports.service_ports.ServicePorts.{ServicePorts}
use Rattle.iox_lanes_opening.specs.Listed.{of_each_listed}
use Rattle.iox_lanes_opening.specs.UpToDate.{has_stray_tie, is_connected, is_current_port}

-- A publisher has seen at most as many changes of the list of subscribers as there were. If it has seen them all, somebody is listed at
-- each place that it has tied to a connection.
pub record IsWithoutStrays {T U : Type 0} (list : RollState SubscriberEntry) (port : PublisherPort T U) : Type 0 where
  pub seen : port.seen ≤ list.changes
  pub listed : port.seen ≡ list.changes → (place index : ℕ) → get_or port.ties.items place None ≡ Some index → is_listed place list ≡ true

-- The publisher with this number is without strays (`IsWithoutStrays`).
abbrev pub IsEntryWithoutStrays : {T U : Type 0} → RollState SubscriberEntry → ℕ × PublisherPort T U → Type 0
IsEntryWithoutStrays list (number, port) = IsWithoutStrays list port

-- Each publisher of a service is without strays (`IsWithoutStrays`), closed publishers included.
abbrev pub AreWithoutStrays : {T U : Type 0} → ServicePorts T U → Type 0
AreWithoutStrays ports = All (IsEntryWithoutStrays ports.subscriber_list) ports.publishers

-- The publishers of a new service are without strays, and so they are after each call, and after any calls from a new service on. Then no
-- publisher that has seen all changes of the list of subscribers has a stray tie. So a publisher is up to date exactly if it has seen all
-- changes, and shares a connection with each listed subscriber.
pub record LeaveNoStrays (T U : Type 0) (overrides : ℕ → ℕ → Type 0) (may : DegradationInfo → DegradationAction
    → Type 0) (decide : BackpressureInfo → BackpressureDecision → Type 0) : Type 0 where
  pub begins : (service : ℕ) (sizes : ServiceSizes) (ports : ServicePorts T U) → ports ≡ no_ports service sizes → AreWithoutStrays ports
  pub goes_on : (call : PortCall T U) (old new : ServicePorts T U) → Happens overrides may decide call old new
      → AreWithoutStrays old → AreWithoutStrays new
  pub stays : (service : ℕ) (sizes : ServiceSizes) (calls : List (PortCall T U × ServicePorts T U)) (new : ServicePorts T U)
      → Happen overrides may decide calls (no_ports service sizes) new → AreWithoutStrays new
  pub tame : (ports : ServicePorts T U) (number : ℕ) (port : PublisherPort T U) → AreWithoutStrays ports
      → port_of number ports.publishers ≡ Some port → port.seen ≡ ports.subscriber_list.changes
      → has_stray_tie ports.subscriber_list port ≡ false
  pub current : (ports : ServicePorts T U) (place number : ℕ) (port : PublisherPort T U) → AreWithoutStrays ports
      → port_of number ports.publishers ≡ Some port
      → is_current_port ports place number (Some port) ≡ (port.seen == ports.subscriber_list.changes)
      && of_each_listed (is_connected place number port ports.subscribers) 0 ports.subscriber_list.places

-- The publisher at this place shares no connection with some listed subscriber.
abbrev pub LacksSubscriber : {T U : Type 0} → ServicePorts T U → ℕ → ℕ → PublisherPort T U → Type 0
LacksSubscriber ports place number port = (other : ℕ) × (member : Member SubscriberEntry)
    × (get_or ports.subscriber_list.places other None ≡ Some member)
    × (is_connected place number port ports.subscribers other member.value ≡ false)

-- The publisher doesn't exist, hasn't seen all changes of the list of subscribers, or shares no connection with some listed subscriber.
abbrev pub PublisherLags : {T U : Type 0} → ServicePorts T U → ℕ → ℕ → Option (PublisherPort T U) → Type 0
PublisherLags ports place number None = Unit {0}
PublisherLags ports place number (Some port)
    = (port.seen < ports.subscriber_list.changes) ⊎ LacksSubscriber ports place number port

-- Some listed publisher lags (`PublisherLags`).
abbrev pub SomePublisherLags : {T U : Type 0} → ServicePorts T U → Type 0
SomePublisherLags ports = (place : ℕ) × (member : Member PublisherEntry) × (get_or ports.publisher_list.places place None ≡ Some member)
    × PublisherLags ports place member.value.publisher (port_of member.value.publisher ports.publishers)

-- The subscriber doesn't exist, hasn't followed the current list of publishers, or has to follow it again.
abbrev pub SubscriberLags : {T U : Type 0} → ServicePorts T U → Option SubscriberPort → Type 0
SubscriberLags ports None = Unit {0}
SubscriberLags ports (Some port) = (port.seen ≢ ports.publisher_list.changes) ⊎ (port.again ≡ true)

-- Some listed subscriber lags (`SubscriberLags`).
abbrev pub SomeSubscriberLags : {T U : Type 0} → ServicePorts T U → Type 0
SomeSubscriberLags ports = (place : ℕ) × (member : Member SubscriberEntry) × (get_or ports.subscriber_list.places place None ≡ Some member)
    × SubscriberLags ports (subscriber_of member.value.subscriber ports.subscribers)
