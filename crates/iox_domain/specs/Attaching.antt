-- When an update of a subscriber allocates nothing.
use Rattle.std.specs.Prelude.{ℕ, ◌+◌, ◌<◌, ◌≤◌, ◌≡◌, ◌≢◌, ◌++◌, ◌∷◌, [], true, false, Bool, is_some, List, length, get_or, Option, None}
use Rattle.std.specs.Prelude.{Some, Result, Err, if◌then◌else◌}
use Rattle.iox_domain.specs.Container.declared.container.Member.{Member}
use Rattle.iox_domain.specs.DomainValues.declared.connection_failure.ConnectionFailure.{ConnectionFailure}
use Rattle.iox_domain.specs.DomainValues.declared.degradation.DegradationAction.{DegradationAction}
use Rattle.iox_domain.specs.DomainValues.declared.degradation.DegradationInfo.{DegradationInfo}
use Rattle.iox_domain.specs.DomainValues.declared.port_error.ReceiveError.{ReceiveError}
use Rattle.iox_domain.specs.DomainValues.declared.port_error.ReceiveError.TheVariants as receiving
use Rattle.iox_domain.specs.DomainValues.declared.port_owner.PortIdentity.{PortIdentity}
use Rattle.iox_domain.specs.DomainPorts.PublisherUpdating.{no_memory}
use Rattle.iox_domain.specs.DomainPorts.declared.publisher_port.PublisherPort.{PublisherPort}
use Rattle.iox_domain.specs.DomainPorts.Arriving.{new_subscriber}
use Rattle.iox_domain.specs.DomainPorts.Following.{lacks_connection}
use Rattle.iox_domain.specs.DomainPorts.Publishers.{port_of, stands_in}
use Rattle.iox_domain.specs.DomainPorts.Receiving.{Receives}
use Rattle.iox_domain.specs.DomainPorts.Subscribing.{attached_at}
use Rattle.iox_domain.specs.DomainPorts.SubscriberUpdating.{Updates, HasSamples, ReceivesNext}
use Rattle.iox_domain.specs.DomainPorts.declared.attached.Taken.{Taken}
use Rattle.iox_domain.specs.DomainPorts.declared.publisher_entry.PublisherEntry.{PublisherEntry}
use Rattle.iox_domain.specs.DomainPorts.declared.subscriber_port.SubscriberPort.{SubscriberPort}
use Rattle.std.specs.List.{All}
use Rattle.iox_domain.specs.DomainValues.declared.backpressure.BackpressureDecision.{BackpressureDecision}
use Rattle.iox_domain.specs.DomainValues.declared.backpressure.BackpressureInfo.{BackpressureInfo}
use Rattle.iox_domain.specs.DomainValues.declared.service_sizes.ServiceSizes.{ServiceSizes}
use Rattle.iox_domain.specs.Ports.{no_ports}
use Rattle.iox_domain.specs.Rolls.{IsListOf}
use Rattle.iox_domain.specs.Subscribers.{subscriber_of}
use Rattle.iox_domain.specs.declared.ports.service_ports.ServicePorts.{ServicePorts}
use Rattle.iox_domain.specs.Calls.{PortCall, Happens}
use Rattle.iox_domain.specs.Tries.{how_often}

-- The keys to which the places are tied.
abbrev pub keys_at : List (Option ℕ) → List ℕ
keys_at [] = []
keys_at (None ∷ places) = keys_at places
keys_at (Some key ∷ places) = key ∷ keys_at places

-- The keys under which a subscriber has connections: those of its places, and the expired ones.
abbrev pub keys_of : SubscriberPort → List ℕ
keys_of port = keys_at port.places.items ++ port.expired.items

-- The keys of a subscriber are consistent: each key with a connection either belongs to exactly one place or is expired; every other
-- key is free; and there are as many keys as there may be places and expired connections together.
pub record KeysFit (port : SubscriberPort) : Type 0 where
  pub used : (key : ℕ) → how_often key (keys_of port) ≡ (if is_some (attached_at key port) then 1 else 0)
  pub free : (key : ℕ) → 0 < how_often key port.connections.free → (key < length port.connections.values) × (attached_at key port ≡ None)
  pub unused : (key : ℕ) → key < length port.connections.values → attached_at key port ≡ None → 0 < how_often key port.connections.free
  pub room : length port.connections.values ≡ port.places.room + port.expired.room
  pub places : length port.places.items ≤ port.places.room
  pub expired : length port.expired.items ≤ port.expired.room

-- No connection has to be made: each listed publisher is open and has a connection to this subscriber.
pub record ConnectsListed {T U : Type 0} (listed : List (Option (Member PublisherEntry))) (subscriber : ℕ) (ports : List (ℕ
    × PublisherPort T U)) : Type 0 where
  pub stands : (place : ℕ) (member : Member PublisherEntry) → get_or listed place None ≡ Some member
      → stands_in member.value.publisher ports ≡ true
  pub connected : (place : ℕ) (member : Member PublisherEntry) → get_or listed place None ≡ Some member
      → lacks_connection subscriber (port_of member.value.publisher ports) ≡ false

-- If no connection has to be made, an update of a subscriber never fails with `OutOfMemory`, nor does a receive or
-- `has_samples`, whatever the handler answers. The keys of a new subscriber are consistent, and stay so.
pub record AttachesWithoutMemory (T U : Type 0) (may : DegradationInfo → DegradationAction → Type 0) : Type 0 where
  pub begins : (identity : PortIdentity) (buffer_size most_connections most_expired : ℕ)
      → KeysFit (new_subscriber identity buffer_size most_connections most_expired)
  pub update : (listed : List (Option (Member PublisherEntry))) (changes : ℕ) (port new : SubscriberPort) (ports new_ports : List (ℕ
      × PublisherPort T U)) (answer : Result (Unit {0}) ConnectionFailure)
      → KeysFit port → length listed ≤ port.places.room → ConnectsListed listed port.number ports
      → Updates may listed changes port ports answer new new_ports → answer ≢ Err no_memory
  pub has_samples : (listed : List (Option (Member PublisherEntry))) (changes : ℕ) (port new : SubscriberPort)
      (ports new_ports : List (ℕ × PublisherPort T U)) (answer : Result Bool ConnectionFailure)
      → KeysFit port → length listed ≤ port.places.room → ConnectsListed listed port.number ports
      → HasSamples may listed changes port ports answer new new_ports → answer ≢ Err no_memory
  pub receive : (listed : List (Option (Member PublisherEntry))) (changes : ℕ) (port new : SubscriberPort) (ports new_ports : List (ℕ
      × PublisherPort T U)) (answer : Result (Option Taken) ReceiveError)
      → KeysFit port → length listed ≤ port.places.room → ConnectsListed listed port.number ports
      → ReceivesNext may listed changes port ports answer new new_ports
      → answer ≢ Err (receiving.ConnectionFailure no_memory)
  pub goes_on : (listed : List (Option (Member PublisherEntry))) (changes : ℕ) (port new : SubscriberPort) (ports new_ports : List (ℕ
      × PublisherPort T U)) (answer : Result (Unit {0}) ConnectionFailure)
      → KeysFit port → length listed ≤ port.places.room → Updates may listed changes port ports answer new new_ports → KeysFit new
      × (new.places.room ≡ port.places.room)
  pub takes : (port new : SubscriberPort) (ports new_ports : List (ℕ × PublisherPort T U)) (answer : Result (Option Taken) ReceiveError)
      → KeysFit port → Receives port ports answer new new_ports → KeysFit new × (new.places.room ≡ port.places.room)

-- The keys of the subscriber are consistent, and it has capacity for `places` places.
abbrev pub IsKeyedEntry : ℕ → ℕ × SubscriberPort → Type 0
IsKeyedEntry places (number, port) = KeysFit port × (port.places.room ≡ places)

-- The list of publishers has as many places as the service allows publishers, and the keys of each subscriber are consistent,
-- with as many places.
pub record AreKeyed {T U : Type 0} (ports : ServicePorts T U) : Type 0 where
  pub list : length ports.publisher_list.places ≡ ports.sizes.max_publishers
  pub keyed : All (IsKeyedEntry ports.sizes.max_publishers) ports.subscribers

-- `AreKeyed` holds of a new service, and each call preserves it; with it, each subscriber has capacity for every place that is
-- listed.
pub record KeysStay (T U : Type 0) (overrides : ℕ → ℕ → Type 0) (may : DegradationInfo → DegradationAction
    → Type 0) (decide : BackpressureInfo → BackpressureDecision → Type 0) : Type 0 where
  pub begins : (service : ℕ) (sizes : ServiceSizes) → AreKeyed {T = T} {U = U} (no_ports service sizes)
  pub goes_on : (call : PortCall T U) (old new : ServicePorts T U) → Happens overrides may decide call old new → AreKeyed old → AreKeyed new
  pub each : (ports : ServicePorts T U) (number : ℕ) (port : SubscriberPort) (listed : List (Option (Member PublisherEntry)))
      → AreKeyed ports → subscriber_of number ports.subscribers ≡ Some port → IsListOf listed ports.publisher_list
      → KeysFit port × (length listed ≤ port.places.room)
