-- Which connections of a domain's publishers are the connections of its lanes.
use Rattle.std.specs.Prelude.{ℕ, ◌≡◌, ◌+◌, ◌*◌, ◌<◌, List, length, map, get_or, slice_get, unwrap_or, Option, None, Some}
use Rattle.iox_domain.specs.DomainPorts.Ports.{connection_of}
use Rattle.iox_domain.specs.DomainPorts.Publishers.{port_of}
use Rattle.iox_domain.specs.DomainPorts.declared.publisher_port.PublisherPort.{PublisherPort}
use Rattle.iox_domain.specs.DomainPorts.declared.subscriber_port.SubscriberPort.{SubscriberPort}
use Rattle.iox_domain.specs.DomainSlots.declared.stage.Stage.TheVariants as stage
use Rattle.iox_domain.specs.Subscribers.{subscriber_of}
use Rattle.iox_domain.specs.declared.ports.service_ports.ServicePorts.{ServicePorts}
use Rattle.iox_lanes.specs.Holding.{port_if, reader_if}
use Rattle.iox_lanes.specs.Joined.{row_of}

-- The index of the connection to which the publisher has tied the subscriber's place; 0 if there is none.
abbrev pub tie_for : {T U : Type 0} → PublisherPort T U → Option SubscriberPort → ℕ
tie_for port None = 0
tie_for port (Some reader) = unwrap_or (get_or port.ties.items reader.place None) 0

-- The indices of the connections to which the publisher has tied the places of the subscribers with these numbers, in the order of the
-- numbers.
abbrev pub ties_for : {T U : Type 0} → List (ℕ × SubscriberPort) → List ℕ → PublisherPort T U → List ℕ
ties_for subscribers numbers port = map (λ number. tie_for port (subscriber_of number subscribers)) numbers

-- These are, publisher by publisher and in the order of the numbers, the indices of the connections to which the publishers have tied the
-- subscribers' places.
pub record AreTies {T U : Type 0} (ports : ServicePorts T U) (publishers subscribers indices : List ℕ) : Type 0 where
  pub count : length indices ≡ length publishers * length subscribers
  pub rows : (place number : ℕ) (port : PublisherPort T U) → slice_get publishers place ≡ Some number
      → port_of number ports.publishers ≡ Some port
      → row_of (length subscribers) indices place ≡ ties_for ports.subscribers subscribers port

-- If publisher, subscriber and index all exist, the publisher has tied the subscriber's place to the connection with this index, which is
-- live.
abbrev pub IsTied : {T U : Type 0} → Option (PublisherPort T U) → Option SubscriberPort → Option ℕ → Type 0
IsTied None reader index = Unit {0}
IsTied (Some port) None index = Unit {0}
IsTied (Some port) (Some reader) None = Unit {0}
IsTied (Some port) (Some reader) (Some index) = (get_or port.ties.items reader.place None ≡ Some index)
    × ((connection_of index port).stage ≡ stage.Live)

-- Each publisher has tied each subscriber's place to a live connection, whose index is in the list, publisher by publisher.
abbrev pub AreTied : {T U : Type 0} → ServicePorts T U → List ℕ → List ℕ → List ℕ → Type 0
AreTied ports publishers subscribers indices = (publisher subscriber : ℕ) → subscriber < length subscribers
    → IsTied (port_if ports.publishers (slice_get publishers publisher))
    (reader_if ports.subscribers (slice_get subscribers subscriber)) (slice_get indices (publisher * length subscribers + subscriber))
