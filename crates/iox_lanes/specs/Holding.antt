-- What the lanes of a domain have.
use Rattle.std.specs.Prelude.{ℕ, ◌≡◌, ◌+◌, ◌*◌, ◌<◌, Bool, true, false, is_some, count_by, List, [], ◌∷◌, length, take, get_or, slice_get}
use Rattle.std.specs.Prelude.{Option, None, Some}
use Rattle.iox_domain.specs.Container.declared.container.Member.{Member}
use Rattle.iox_domain.specs.DomainPorts.Publishers.{port_of}
use Rattle.iox_domain.specs.DomainPorts.Subscribing.{attached_at}
use Rattle.iox_domain.specs.DomainPorts.declared.attached.Attached.{Attached}
use Rattle.iox_domain.specs.DomainPorts.declared.subscriber_port.SubscriberPort.{SubscriberPort}
use Rattle.iox_domain.specs.DomainPorts.Ports.{connection_of}
use Rattle.iox_domain.specs.DomainPorts.declared.publisher_port.PublisherPort.{PublisherPort}
use Rattle.iox_domain.specs.Subscribers.{subscriber_of}
use Rattle.iox_domain.specs.declared.domain.Domain.{Domain}
use Rattle.iox_lanes_machine.specs.Links.{LinkState}
use Rattle.iox_lanes_machine.specs.World.{World}
use Rattle.iox_lanes_machine.specs.LanesBase.declared.calls.route.Route.{Route}
use Rattle.iox_lanes_machine.specs.LanesParties.Parties.{PublisherLaneState, SubscriberLaneState}
use Rattle.iox_lanes_machine.specs.LanesBase.Table.{TableWords}
use Rattle.iox_queues_steps.specs.declared.rings.ends.RingKind.{RingKind}
use Rattle.iox_queues_steps.specs.declared.rings.ends.RingKind.TheVariants as kind
use Rattle.iox_lanes.specs.Lying.{AreLaid, AreSlotsOf}
use Rattle.iox_lanes.specs.Spelling.{Spelling}

-- The numbers of the listed ports, in the order of their places.
abbrev pub numbers_of : {V : Type 0} → (V → ℕ) → List (Option (Member V)) → List ℕ
numbers_of number [] = []
numbers_of number (None ∷ rest) = numbers_of number rest
numbers_of number (Some member ∷ rest) = number member.value ∷ numbers_of number rest

-- The kind of a ring: overflowing for `true`, refusing for `false`.
abbrev pub kind_of : Bool → RingKind
kind_of true = kind.Overflowing
kind_of false = kind.Refusing

-- The publisher with this number, if there is a number and such a publisher.
abbrev pub port_if : {T U : Type 0} → List (ℕ × PublisherPort T U) → Option ℕ → Option (PublisherPort T U)
port_if ports None = None
port_if ports (Some number) = port_of number ports

-- There is a publisher for each of these numbers.
abbrev pub AreThere : {T U : Type 0} → List (ℕ × PublisherPort T U) → List ℕ → Type 0
AreThere ports numbers = (place number : ℕ) → slice_get numbers place ≡ Some number → is_some (port_of number ports) ≡ true

-- The subscriber with this number, if there is a number and such a subscriber.
abbrev pub reader_if : List (ℕ × SubscriberPort) → Option ℕ → Option SubscriberPort
reader_if ports None = None
reader_if ports (Some number) = subscriber_of number ports

-- The header names the node and the number of the publisher.
abbrev pub IsNamed : {T U : Type 0} → PublisherPort T U → List ℕ → Type 0
IsNamed port head = (slice_get head 0 ≡ Some port.owner.node_id) × (slice_get head 1 ≡ Some port.number)

-- The header, if there is one, names the node and the number of the publisher.
abbrev pub IsNamedIf : {T U : Type 0} → PublisherPort T U → Option (List ℕ) → Type 0
IsNamedIf port None = Unit {0}
IsNamedIf port (Some head) = IsNamed port head

-- The lane represents the publisher: it has the publisher's number of slots, loan limit, history and last sequence number, and its headers
-- name the publisher's node and number.
pub record IsLaneOf {T U : Type 0} (spelling : Spelling T U) (table : TableWords) (port : PublisherPort T U) (lane : PublisherLaneState)
    : Type 0 where
  pub slots : length lane.port.book.loans ≡ port.sender.uses.first + port.sender.uses.size
  pub most_loans : lane.port.book.most_loans ≡ port.sender.uses.most_loans
  pub history : AreLaid spelling table lane.port.book.first port lane.port.book.history port.sender.uses.history
  pub named : (at : ℕ) → IsNamedIf port (slice_get lane.heads at)
  pub last : lane.last ≡ port.last_sequence

-- Both the publisher and the lane exist, and the lane represents the publisher.
abbrev pub IsLaneIf : {T U : Type 0} → Spelling T U → TableWords → Option (PublisherPort T U) → Option PublisherLaneState → Type 0
IsLaneIf spelling table None lane = ⊥
IsLaneIf spelling table (Some port) None = ⊥
IsLaneIf spelling table (Some port) (Some lane) = IsLaneOf spelling table port lane

-- Both the publisher and the lane exist, and the slots of the lane's history are those of the publisher's.
abbrev pub KeepsIf : {T U : Type 0} → Option (PublisherPort T U) → Option PublisherLaneState → Type 0
KeepsIf None lane = ⊥
KeepsIf (Some port) None = ⊥
KeepsIf (Some port) (Some lane) = AreSlotsOf lane.port.book.first lane.port.book.history port.sender.uses.history

-- The publisher at this place of the lanes has the history slots of the domain's publisher whose number is listed in `publishers` at the
-- same place.
abbrev pub SenderKeeps : {T U B D : Type 0} → Domain T U B D → World → List ℕ → ℕ → Type 0
SenderKeeps domain lanes publishers place =
    KeepsIf (port_if domain.state.ports.publishers (slice_get publishers place)) (slice_get lanes.publishers place)

-- The publisher at this place of the lanes represents the domain's publisher whose number is listed in `publishers` at the same place.
abbrev pub SenderHolds : {T U B D : Type 0} → Spelling T U → Domain T U B D → World → List ℕ → ℕ → Type 0
SenderHolds spelling domain lanes publishers place =
    IsLaneIf spelling lanes.table (port_if domain.state.ports.publishers (slice_get publishers place)) (slice_get lanes.publishers place)

-- The link represents the publisher's connection to which the subscriber's place is tied: both have the same maximum number of waiting
-- messages, and the same messages wait in both.
pub record IsLinkOf {T U : Type 0} (spelling : Spelling T U) (table : TableWords) (port : PublisherPort T U) (reader : SubscriberPort)
    (first index : ℕ) (link : LinkState) : Type 0 where
  pub tie : get_or port.ties.items reader.place None ≡ Some index
  pub limit : link.limit ≡ (connection_of index port).limit
  pub waiting : AreLaid spelling table first port link.found (connection_of index port).waiting

-- Publisher, subscriber, lane, index and link all exist, and the link represents the publisher's connection with this index to the
-- subscriber.
abbrev pub IsLinkIf : {T U : Type 0} → Spelling T U → TableWords → Option (PublisherPort T U) → Option SubscriberPort
    → Option PublisherLaneState → Option ℕ → Option LinkState → Type 0
IsLinkIf spelling table None reader lane index link = ⊥
IsLinkIf spelling table (Some port) None lane index link = ⊥
IsLinkIf spelling table (Some port) (Some reader) None index link = ⊥
IsLinkIf spelling table (Some port) (Some reader) (Some lane) None link = ⊥
IsLinkIf spelling table (Some port) (Some reader) (Some lane) (Some index) None = ⊥
IsLinkIf spelling table (Some port) (Some reader) (Some lane) (Some index) (Some link) =
    IsLinkOf spelling table port reader lane.port.book.first index link

-- The link, if there is one, leads from this publisher's place to this subscriber's, and its ring overflows exactly if the first argument
-- is `true`.
abbrev pub Leads : Bool → ℕ → ℕ → Option LinkState → Type 0
Leads overflows publisher subscriber None = Unit {0}
Leads overflows publisher subscriber (Some link) =
    (link.publisher ≡ publisher) × (link.subscriber ≡ subscriber) × (link.kind ≡ kind_of overflows)

-- Publisher, lane, index and link all exist. The link and the connection with this index have the same maximum number of waiting messages,
-- and the messages that wait in them have the same slots.
abbrev pub WaitsIf : {T U : Type 0} → Option (PublisherPort T U) → Option PublisherLaneState → Option ℕ → Option LinkState → Type 0
WaitsIf None lane index link = ⊥
WaitsIf (Some port) None index link = ⊥
WaitsIf (Some port) (Some lane) None link = ⊥
WaitsIf (Some port) (Some lane) (Some index) None = ⊥
WaitsIf (Some port) (Some lane) (Some index) (Some link) = (link.limit ≡ (connection_of index port).limit)
    × AreSlotsOf lane.port.book.first link.found (connection_of index port).waiting

-- The lanes' connection between the publisher and the subscriber at these places has the domain connection's maximum number of waiting
-- messages, and the messages that wait in both have the same slots.
abbrev pub LinkWaits : {T U B D : Type 0} → Domain T U B D → World → List ℕ → List ℕ → List ℕ → ℕ → ℕ → Type 0
LinkWaits domain lanes publishers subscribers connections publisher subscriber =
    WaitsIf (port_if domain.state.ports.publishers (slice_get publishers publisher)) (slice_get lanes.publishers publisher)
    (slice_get connections (publisher * length subscribers + subscriber))
    (slice_get lanes.links (publisher * length subscribers + subscriber))

-- The lanes' connection between the publisher and the subscriber at these two places leads from this publisher to this subscriber, and
-- represents the domain's connection between them. Connections are numbered publisher by publisher.
abbrev pub LinkHolds : {T U B D : Type 0} → Spelling T U → Domain T U B D → World → List ℕ → List ℕ → List ℕ → ℕ × ℕ → Type 0
LinkHolds spelling domain lanes publishers subscribers connections (publisher, subscriber) =
    Leads domain.state.ports.sizes.enable_safe_overflow publisher subscriber
    (slice_get lanes.links (publisher * length subscribers + subscriber))
    × IsLinkIf spelling lanes.table (port_if domain.state.ports.publishers (slice_get publishers publisher))
    (reader_if domain.state.ports.subscribers (slice_get subscribers subscriber))
    (slice_get lanes.publishers publisher) (slice_get connections (publisher * length subscribers + subscriber))
    (slice_get lanes.links (publisher * length subscribers + subscriber))

-- There is a link, and it leads to this subscriber from the publisher with this number.
abbrev pub LeadsFrom : List ℕ → ℕ → ℕ → Option LinkState → Type 0
LeadsFrom publishers subscriber number None = ⊥
LeadsFrom publishers subscriber number (Some link) = (link.subscriber ≡ subscriber) × (slice_get publishers link.publisher ≡ Some number)

-- There is a route, and it is the subscriber's connection from the publisher that it is attached to.
abbrev pub IsRouteOf : World → List ℕ → ℕ → Attached → Option Route → Type 0
IsRouteOf lanes publishers subscriber attached None = ⊥
IsRouteOf lanes publishers subscriber attached (Some route)
    = LeadsFrom publishers subscriber attached.publisher (slice_get lanes.links route.connection)

-- The route is that of the subscriber's connection, if there is a connection.
abbrev pub IsRouteIf : World → List ℕ → ℕ → Option Attached → Option Route → Type 0
IsRouteIf lanes publishers subscriber None route = Unit {0}
IsRouteIf lanes publishers subscriber (Some attached) route = IsRouteOf lanes publishers subscriber attached route

-- The routes are those of the subscriber's connections, in the order of its keys.
abbrev pub FollowKeys : World → List ℕ → ℕ → SubscriberPort → List Route → Type 0
FollowKeys lanes publishers subscriber port routes =
    (key : ℕ) → IsRouteIf lanes publishers subscriber (attached_at key port)
    (slice_get routes (count_by is_some (take key port.connections.values)))

-- Both the subscriber and the lane exist, and the lane goes over its connections as the subscriber does.
abbrev pub FollowIf : World → List ℕ → ℕ → Option SubscriberPort → Option SubscriberLaneState → Type 0
FollowIf lanes publishers subscriber None lane = ⊥
FollowIf lanes publishers subscriber (Some port) None = ⊥
FollowIf lanes publishers subscriber (Some port) (Some lane) = FollowKeys lanes publishers subscriber port lane.port.routes

-- The subscriber at this place of the lanes goes over its connections in the order of the keys of the domain's subscriber whose number is
-- listed in `subscribers` at the same place.
abbrev pub ReaderHolds : {T U B D : Type 0} → Domain T U B D → World → List ℕ → List ℕ → ℕ → Type 0
ReaderHolds domain lanes publishers subscribers place =
    FollowIf lanes publishers place (reader_if domain.state.ports.subscribers (slice_get subscribers place))
    (slice_get lanes.subscribers place)

-- The lanes are before their first step, and have what the domain has: its publishers and subscribers by place, with their connections.
pub record LanesHold {T U B D : Type 0} (spelling : Spelling T U) (domain : Domain T U B D) (lanes : World)
    (senders readers indices : List ℕ) : Type 0 where
  pub moments : lanes.moments ≡ 0
  pub payload : lanes.table.sizes.payload_words ≡ spelling.payload_count
  pub user_header : lanes.table.sizes.user_header_words ≡ spelling.middle_count
  pub publishers : senders ≡ numbers_of (λ entry. entry.publisher) domain.state.ports.publisher_list.places
  pub subscribers : readers ≡ numbers_of (λ entry. entry.subscriber) domain.state.ports.subscriber_list.places
  pub publisher_count : length lanes.publishers ≡ length senders
  pub subscriber_count : length lanes.subscribers ≡ length readers
  pub link_count : length lanes.links ≡ length senders * length readers
  pub sending : (place : ℕ) → place < length senders → SenderHolds spelling domain lanes senders place
  pub linking : (publisher subscriber : ℕ) → publisher < length senders → subscriber < length readers
      → LinkHolds spelling domain lanes senders readers indices (publisher, subscriber)
  pub receiving : (place : ℕ) → place < length readers → ReaderHolds domain lanes senders readers place
