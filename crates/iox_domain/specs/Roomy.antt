-- What guarantees that only one subscriber borrows from each connection, and no more than the limit.
use Rattle.std.specs.Prelude.{ℕ, ◌≡◌, ◌≤◌, ◌<◌, true, List, get_or, Option, None, Some}
use Rattle.std.specs.List.{All}
use Rattle.std.specs.Map.{keys_of}
use Rattle.iox_domain.specs.Attaching.{AreKeyed}
use Rattle.iox_domain.specs.declared.ports.service_ports.ServicePorts.{ServicePorts}
use Rattle.iox_domain.specs.DomainPorts.Places.{leads_to}
use Rattle.iox_domain.specs.DomainPorts.Ports.{is_live}
use Rattle.iox_domain.specs.DomainPorts.declared.publisher_port.PublisherPort.{PublisherPort}
use Rattle.iox_domain.specs.DomainPorts.Publishers.{port_of}
use Rattle.iox_domain.specs.DomainPorts.Subscribing.{attached_at}
use Rattle.iox_domain.specs.DomainPorts.declared.attached.Attached.{Attached}
use Rattle.iox_domain.specs.DomainPorts.declared.publisher_entry.PublisherEntry.{PublisherEntry}
use Rattle.iox_domain.specs.DomainPorts.declared.subscriber_port.SubscriberPort.{SubscriberPort}
use Rattle.iox_domain.specs.DomainPorts.declared.subscriber_entry.SubscriberEntry.{SubscriberEntry}
use Rattle.iox_domain.specs.Container.declared.container.Member.{Member}
use Rattle.iox_domain.specs.PortLawsLaws.{IsSound, IsApart}
use Rattle.iox_domain.specs.NumberLaws.{IsNumbered}
use Rattle.iox_domain.specs.SizeLaws.{AreAllowed}
use Rattle.iox_domain.specs.Tries.{how_often}

-- No publisher is listed twice, and the number of each is below the next one.
pub record IsListOnce (next : ℕ) (places : List (Option (Member PublisherEntry))) : Type 0 where
  pub apart : (one other : ℕ) (first second : Member PublisherEntry) → get_or places one None ≡ Some first
      → get_or places other None ≡ Some second
      → first.value.publisher ≡ second.value.publisher → one ≡ other
  pub below : (place : ℕ) (member : Member PublisherEntry) → get_or places place None ≡ Some member → member.value.publisher < next

-- The connection at this index is live, and this subscriber reads from it.
pub record IsReadBy {T U : Type 0} (subscriber index : ℕ) (port : PublisherPort T U) : Type 0 where
  pub live : is_live index port ≡ true
  pub reader : get_or port.readers index None ≡ Some (record { subscriber = subscriber; attached = true })

-- The publisher to which the subscriber is attached exists, and the subscriber reads from that connection.
abbrev pub IsAttached : {T U : Type 0} → ℕ → Attached → List (ℕ × PublisherPort T U) → Type 0
IsAttached {T} {U} subscriber attached ports = (port : PublisherPort T U) × (port_of attached.publisher ports ≡ Some port)
    × IsReadBy subscriber attached.index port

-- Each connection of the publisher that leads to a subscriber is live.
abbrev pub LeadsOn : {T U : Type 0} → PublisherPort T U → Type 0
LeadsOn port = (subscriber index : ℕ) → leads_to subscriber (get_or port.readers index None) ≡ true → is_live index port ≡ true

-- Each connection of the publisher in this entry that leads to a subscriber is live.
abbrev pub LeadsOnEntry : {T U : Type 0} → ℕ × PublisherPort T U → Type 0
LeadsOnEntry (number, port) = LeadsOn port

-- The subscriber is the only reader of each of its connections, and has one key for each publisher to which it is connected.
pub record ReadsApart {T U : Type 0} (ports : ServicePorts T U) (number : ℕ) (port : SubscriberPort) : Type 0 where
  -- The subscriber has the number under which it is stored.
  pub named : port.number ≡ number
  -- The subscriber is listed at its place.
  pub listed : (member : Member SubscriberEntry) × (get_or ports.subscriber_list.places port.place None ≡ Some member)
      × (member.value.subscriber ≡ number)
  -- The subscriber reads from each connection that it has.
  pub reads : (key : ℕ) (attached : Attached) → attached_at key port ≡ Some attached → IsAttached number attached ports.publishers
  -- No two of its keys are for the same publisher.
  pub apart : (key other : ℕ) (one two : Attached) → attached_at key port ≡ Some one → attached_at other port ≡ Some two
      → one.publisher ≡ two.publisher → key ≡ other
  -- The key of a connection to a listed publisher is tied to the place at which the publisher is listed.
  pub placed : (key place : ℕ) (attached : Attached) (member : Member PublisherEntry) → attached_at key port ≡ Some attached
      → get_or ports.publisher_list.places place None ≡ Some member
      → attached.publisher ≡ member.value.publisher → get_or port.places.items place None ≡ Some key

-- If the subscriber is open, it reads apart from others.
abbrev pub ReadsApartEntry : {T U : Type 0} → ServicePorts T U → ℕ × SubscriberPort → Type 0
ReadsApartEntry ports (number, port) = port.stands ≡ true → ReadsApart ports number port

-- What guarantees that only one subscriber borrows from each connection, under one key and no more than the limit, and under
-- one key for each publisher.
pub record AreRoomy {T U : Type 0} (ports : ServicePorts T U) : Type 0 where
  -- The number of each publisher is below the next one, and a connection that doesn't exist holds nothing.
  pub sound : IsSound ports
  -- Each publisher is made for what the service allows.
  pub allowed : AreAllowed ports
  -- The keys of each subscriber are consistent.
  pub keyed : AreKeyed ports
  -- No two places of the list of subscribers are tied to the same connection.
  pub tied : IsApart ports
  -- No publisher is listed twice, and the number of each is below the next one.
  pub list : IsListOnce ports.next_port ports.publisher_list.places
  -- Each connection that leads to a subscriber is live.
  pub lead : All LeadsOnEntry ports.publishers
  -- No two subscribers have the same number.
  pub once : (number : ℕ) → how_often number (keys_of ports.subscribers) ≤ 1
  -- The number of each port is below the next one.
  pub numbered : IsNumbered ports
  -- Each open subscriber is the only reader of each of its connections.
  pub apart : All (ReadsApartEntry ports) ports.subscribers
