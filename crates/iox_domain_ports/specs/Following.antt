-- What a subscriber does at one place of the list of publishers.
use Rattle.std.specs.Prelude.{ℕ, ◌+◌, ◌<◌, ◌==◌, ◌≡◌, ◌≢◌, ◌||◌, ◌&&◌, is_none, Bool, true, false, List, [], length, get_or}
use Rattle.std.specs.Prelude.{slice_get, nat_le, Option, None, Some, Result, Ok, Err}
use Rattle.std.specs.declared.alloc.AllocError.{AllocError}
use Rattle.iox_container.specs.SlotTable.{stored}
use Rattle.iox_domain_values.specs.declared.connection_failure.ZeroCopyCreationError.{ZeroCopyCreationError}
use Rattle.iox_domain_values.specs.declared.connection_failure.ZeroCopyCreationError.TheVariants as creation
use Rattle.iox_domain_ports.specs.Ties.{ties_reached, tie_put}
use Rattle.iox_domain_ports.specs.Ports.{connection_to}
use Rattle.iox_domain_ports.specs.declared.publisher_port.PublisherPort.{PublisherPort}
use Rattle.iox_domain_ports.specs.Keys.{with_last}
use Rattle.iox_domain_ports.specs.Publishers.{port_of, AttachesTo}
use Rattle.iox_domain_ports.specs.Subscribing.{attached_at, connection_by, is_idle, ended_key, ended_ports}
use Rattle.iox_domain_ports.specs.Receiving.{IsMet, dropped_port, dropped_ports}
use Rattle.iox_domain_ports.specs.declared.attached.Attached.{Attached}
use Rattle.iox_domain_ports.specs.declared.subscriber_port.SubscriberPort.{SubscriberPort}

-- Whether nothing of the connection with this key is borrowed.
abbrev pub is_unborrowed : {T U : Type 0} → SubscriberPort → List (ℕ × PublisherPort T U) → ℕ → Bool
is_unborrowed port ports key = length (connection_by (attached_at key port) ports).borrowed == 0

-- Whether the entry is a connection to the publisher with this number.
abbrev pub is_of : ℕ → Option Attached → Bool
is_of number None = false
is_of number (Some attached) = attached.publisher == number

-- The subscriber after the connection with this key was appended to its expired ones.
abbrev pub expired_port : ℕ → SubscriberPort → SubscriberPort
expired_port key port = record port { expired = with_last key port.expired }

-- The subscriber after the expired connection `out`, which was at `place` of its list, ended, and the connection with `key`
-- expired.
abbrev pub replaced_port : ℕ → ℕ → ℕ → SubscriberPort → SubscriberPort
replaced_port place out key port = expired_port key (dropped_port place (Some out) port)

-- The publishers after the expired connection with key `out` ended.
abbrev pub replaced_ports : {T U : Type 0} → ℕ → SubscriberPort → List (ℕ × PublisherPort T U) → List (ℕ × PublisherPort T U)
replaced_ports out port ports = dropped_ports (Some out) port ports

-- The connection with `key` expires in place of the expired connection `out`, of which nothing is borrowed; without such a
-- connection everything stays, and the place isn't free.
abbrev pub PartsFor : {T U : Type 0} → Option ℕ → ℕ → ℕ → SubscriberPort → List (ℕ × PublisherPort T U) → Bool → SubscriberPort
    → List (ℕ × PublisherPort T U) → Type 0
PartsFor None place key port ports is_free new new_ports = (is_free ≡ false) × (new ≡ port) × (new_ports ≡ ports)
PartsFor (Some out) place key port ports is_free new new_ports =
    (is_free ≡ true) × (new ≡ replaced_port place out key port) × (new_ports ≡ replaced_ports out port ports)

-- If nothing is borrowed from the connection with `key`, it ends. Otherwise it expires in place of the first expired connection
-- of which nothing is borrowed.
abbrev pub PartsBorrowed : {T U : Type 0} → Bool → ℕ → SubscriberPort → List (ℕ × PublisherPort T U) → Bool → SubscriberPort
    → List (ℕ × PublisherPort T U) → Type 0
PartsBorrowed true key port ports is_free new new_ports = (is_free ≡ true) × (new ≡ ended_key key port)
    × (new_ports ≡ ended_ports (attached_at key port) ports)
PartsBorrowed false key port ports is_free new new_ports =
    (place : ℕ) × IsMet (is_unborrowed port ports) port.expired.items place
    × PartsFor (slice_get port.expired.items place) place key port ports is_free new new_ports

-- The connection with `key` expires in place of the idle expired connection `out`; without such a connection `PartsBorrowed`
-- says what happens.
abbrev pub PartsOver : {T U : Type 0} → Option ℕ → ℕ → ℕ → SubscriberPort → List (ℕ × PublisherPort T U) → Bool → SubscriberPort
    → List (ℕ × PublisherPort T U) → Type 0
PartsOver None place key port ports is_free new new_ports
    = PartsBorrowed (is_unborrowed port ports key) key port ports is_free new new_ports
PartsOver (Some out) place key port ports is_free new new_ports =
    (is_free ≡ true) × (new ≡ replaced_port place out key port) × (new_ports ≡ replaced_ports out port ports)

-- What becomes of the connection with `key`, which isn't idle, when the list of expired connections is full: it expires in
-- place of the first idle one, or as `PartsOver` says.
abbrev pub PartsFull : {T U : Type 0} → ℕ → SubscriberPort → List (ℕ × PublisherPort T U) → Bool → SubscriberPort
    → List (ℕ × PublisherPort T U) → Type 0
PartsFull key port ports is_free new new_ports =
    (place : ℕ) × IsMet (is_idle port ports) port.expired.items place
    × PartsOver (slice_get port.expired.items place) place key port ports is_free new new_ports

-- An idle connection ends. Another one expires, if the list of expired connections isn't full; if it is full, `PartsFull` says what
-- happens.
abbrev pub PartsIf : {T U : Type 0} → Bool → Bool → ℕ → SubscriberPort → List (ℕ × PublisherPort T U) → Bool → SubscriberPort
    → List (ℕ × PublisherPort T U) → Type 0
PartsIf true is_full key port ports is_free new new_ports = (is_free ≡ true) × (new ≡ ended_key key port)
    × (new_ports ≡ ended_ports (attached_at key port) ports)
PartsIf false false key port ports is_free new new_ports = (is_free ≡ true) × (new ≡ expired_port key port) × (new_ports ≡ ports)
PartsIf false true key port ports is_free new new_ports = PartsFull key port ports is_free new new_ports

-- The publisher of the connection with `key` was closed: the connection ends if it has neither waiting nor borrowed messages,
-- and otherwise expires. `is_free` says whether its place is free then.
abbrev pub Parts : {T U : Type 0} → ℕ → SubscriberPort → List (ℕ × PublisherPort T U) → Bool → SubscriberPort
    → List (ℕ × PublisherPort T U) → Type 0
Parts key port ports is_free new new_ports =
    PartsIf (is_idle port ports key) (nat_le port.expired.room (length port.expired.items)) key port ports is_free new new_ports

-- The subscriber after it stored the connection under `key` and tied `place` to it; the ties reach at least to that place.
abbrev pub kept_at : ℕ → ℕ → Attached → SubscriberPort → SubscriberPort
kept_at place key attached port = record port
    { connections = stored port.connections key attached; places = tie_put place (Some key) (ties_reached (place + 1) port.places) }

-- The subscriber stored the connection under the next free key and tied `place`, which is reached already, to it.
abbrev pub KeepsReached : ℕ → Attached → SubscriberPort → SubscriberPort → Type 0
KeepsReached place attached port new =
    (key : ℕ) × (slice_get port.connections.free 0 ≡ Some key)
    × (new ≡ record port { connections = stored port.connections key attached; places = tie_put place (Some key) port.places })

-- The subscriber stored the connection under the next free key and tied `place` to it.
abbrev pub KeepsAt : ℕ → Attached → SubscriberPort → SubscriberPort → Type 0
KeepsAt place attached port new = (key : ℕ) × (slice_get port.connections.free 0 ≡ Some key) × (new ≡ kept_at place key attached port)

-- What the subscriber stores after the publisher `number` was asked for the connection: the connection, if there is one;
-- nothing, if there is no such publisher.
abbrev pub ConnectsBy : ℕ → ℕ → Option (Result ℕ AllocError) → SubscriberPort → SubscriberPort → Type 0
ConnectsBy place number None port new = new ≡ port
ConnectsBy place number (Some (Err error)) port new = ⊥
ConnectsBy place number (Some (Ok index)) port new = KeepsAt place (record { publisher = number; index = index }) port new

-- Whether the publisher has no connection yet for this subscriber; false if there is no publisher.
abbrev pub lacks_connection : {T U : Type 0} → ℕ → Option (PublisherPort T U) → Bool
lacks_connection subscriber None = false
lacks_connection subscriber (Some publisher) = is_none (connection_to subscriber publisher)

-- Whether nothing is tied to the place, and the publisher has no connection yet for this subscriber: a connection would have to be made.
abbrev pub lacks_at : {T U : Type 0} → ℕ → ℕ → SubscriberPort → List (ℕ × PublisherPort T U) → Bool
lacks_at place number port ports = is_none (get_or port.places.items place None) && lacks_connection port.number (port_of number ports)

-- Whether connecting to a publisher at a place may fail: no key is free, the place is beyond the capacity for ties, or the
-- publisher has no connection yet for this subscriber, so that one must be allocated.
abbrev pub may_fail : {T U : Type 0} → ℕ → ℕ → SubscriberPort → List (ℕ × PublisherPort T U) → Bool
may_fail place number port ports =
    (length port.connections.free == 0) || (nat_le port.places.room place || lacks_connection port.number (port_of number ports))

-- The subscriber connects to the publisher `number` at `place`. It fails only with `OutOfMemory` and where `may_fail` says so;
-- then nothing changes.
abbrev pub Connects : {T U : Type 0} → ℕ → ℕ → SubscriberPort → List (ℕ × PublisherPort T U) → Result (Unit {0}) ZeroCopyCreationError
    → SubscriberPort → List (ℕ × PublisherPort T U) → Type 0
Connects place number port ports (Err failure) new new_ports =
    (failure ≡ creation.OutOfMemory) × (may_fail place number port ports ≡ true) × (new ≡ port) × (new_ports ≡ ports)
Connects place number port ports (Ok done) new new_ports =
    (answer : Option (Result ℕ AllocError)) × AttachesTo number port.number port.buffer_size ports answer new_ports
    × ConnectsBy place number answer port new

-- The subscriber after the place was untied.
abbrev pub unplaced : ℕ → SubscriberPort → SubscriberPort
unplaced place port = record port { places = tie_put place None port.places }

-- The subscriber connects to the new publisher if the place is free. Otherwise the call fails with
-- `ExpiredConnectionBufferFull`, and the list is followed again at the next update.
abbrev pub FollowsFreed : {T U : Type 0} → Bool → ℕ → ℕ → SubscriberPort → List (ℕ × PublisherPort T U)
    → Result (Unit {0}) ZeroCopyCreationError → SubscriberPort → List (ℕ × PublisherPort T U) → Type 0
FollowsFreed false place number port ports answer new new_ports = (answer ≡ Err creation.ExpiredConnectionBufferFull)
    × (new ≡ record port { again = true }) × (new_ports ≡ ports)
FollowsFreed true place number port ports answer new new_ports = Connects place number (unplaced place port) ports answer new new_ports

-- If the place is tied to the listed publisher, nothing changes. Otherwise the former connection first ends or expires, as `Parts`
-- says.
abbrev pub FollowsKey : {T U : Type 0} → Bool → ℕ → ℕ → ℕ → SubscriberPort → List (ℕ × PublisherPort T U)
    → Result (Unit {0}) ZeroCopyCreationError → SubscriberPort → List (ℕ × PublisherPort T U) → Type 0
FollowsKey true key place number port ports answer new new_ports = (answer ≡ Ok tt) × (new ≡ port) × (new_ports ≡ ports)
FollowsKey {T} {U} false key place number port ports answer new new_ports =
    (is_free : Bool) × (between : SubscriberPort) × (between_ports : List (ℕ × PublisherPort T U))
    × Parts key port ports is_free between between_ports × FollowsFreed is_free place number between between_ports answer new new_ports

-- What happens at a place that lists the publisher `number` and is tied to this key, or to none.
abbrev pub FollowsAt : {T U : Type 0} → Option ℕ → ℕ → ℕ → SubscriberPort → List (ℕ × PublisherPort T U)
    → Result (Unit {0}) ZeroCopyCreationError → SubscriberPort → List (ℕ × PublisherPort T U) → Type 0
FollowsAt None place number port ports answer new new_ports = Connects place number port ports answer new new_ports
FollowsAt (Some key) place number port ports answer new new_ports
    = FollowsKey (is_of number (attached_at key port)) key place number port ports answer new new_ports

-- What happens at a place that lists the publisher `number`.
abbrev pub FollowsListed : {T U : Type 0} → ℕ → ℕ → SubscriberPort → List (ℕ × PublisherPort T U)
    → Result (Unit {0}) ZeroCopyCreationError → SubscriberPort → List (ℕ × PublisherPort T U) → Type 0
FollowsListed place number port ports answer new new_ports
    = FollowsAt (get_or port.places.items place None) place number port ports answer new new_ports

-- The subscriber after the place was untied, if it is free.
abbrev pub freed_if : Bool → ℕ → SubscriberPort → SubscriberPort
freed_if true place port = unplaced place port
freed_if false place port = port

-- What happens at a place that lists no publisher and is tied to this key, or to none: the connection of the key ends or expires, as
-- `Parts` says.
abbrev pub FollowsNoneAt : {T U : Type 0} → Option ℕ → ℕ → SubscriberPort → List (ℕ × PublisherPort T U) → SubscriberPort
    → List (ℕ × PublisherPort T U) → Type 0
FollowsNoneAt None place port ports new new_ports = (new ≡ port) × (new_ports ≡ ports)
FollowsNoneAt {T} {U} (Some key) place port ports new new_ports =
    (is_free : Bool) × (between : SubscriberPort) × Parts key port ports is_free between new_ports × (new ≡ freed_if is_free place between)

-- What happens at a place that lists no publisher.
abbrev pub FollowsNone : {T U : Type 0} → ℕ → SubscriberPort → List (ℕ × PublisherPort T U) → SubscriberPort
    → List (ℕ × PublisherPort T U) → Type 0
FollowsNone place port ports new new_ports = FollowsNoneAt (get_or port.places.items place None) place port ports new new_ports

-- Following a publisher succeeds if the place isn't tied yet and is within the capacity, a key is free, and the publisher has
-- the connection already.
abbrev pub AttachesAtOnce : Type 0 → Type 0 → Type 0
AttachesAtOnce T U = (place number : ℕ) (port new : SubscriberPort) (ports new_ports : List (ℕ
    × PublisherPort T U)) (answer : Result (Unit {0}) ZeroCopyCreationError)
    → get_or port.places.items place None ≡ None → place < port.places.room → port.connections.free ≢ []
    → lacks_connection port.number (port_of number ports) ≡ false
    → FollowsListed place number port ports answer new new_ports → answer ≡ Ok tt
