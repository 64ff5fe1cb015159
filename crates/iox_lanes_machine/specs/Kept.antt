-- The invariant of lanes, which every step keeps.
use Rattle.std.specs.Prelude.{ℕ, ◌≡◌, ◌+◌, ◌<◌, ◌≤◌, ◌^◌, List, length, slice_get, Option, Some, None}
use Rattle.std.specs.List.{All}
use Rattle.iox_lanes_machine.specs.QueuesSteps.Order.{Acts, acts_of, Rises}
use Rattle.iox_lanes_machine.specs.QueuesSteps.declared.order.Placed.{Placed}
use Rattle.iox_lanes_machine.specs.QueuesSteps.Ends.{overflows, cells_of, Shape}
use Rattle.iox_lanes_machine.specs.LanesBase.Numbers.{words_of}
use Rattle.iox_lanes_machine.specs.LanesBase.Table.{TableWords}
use Rattle.iox_lanes_machine.specs.LanesBase.declared.words.sizes.TableSizes.{TableSizes}
use Rattle.iox_lanes_machine.specs.LanesBase.declared.calls.route.Route.{Route}
use Rattle.iox_lanes_machine.specs.LanesBase.declared.calls.publisher.PublisherCall.{PublisherCall}
use Rattle.iox_lanes_machine.specs.LanesBase.declared.calls.subscriber.SubscriberCall.{SubscriberCall}
use Rattle.iox_lanes_machine.specs.LanesParties.Parties.{PublisherLaneState, SubscriberLaneState}
use Rattle.iox_lanes_machine.specs.LanesParties.Within.{IsPublisher, IsSubscriber}
use Rattle.iox_lanes_machine.specs.Rings.{ring_in, waiting, push_on, pop_on}
use Rattle.iox_lanes_machine.specs.Calls.{CallsKeepTime}
use Rattle.iox_lanes_machine.specs.Fresh.{IsFresh}
use Rattle.iox_lanes_machine.specs.Held.{ReadsFollow}
use Rattle.iox_lanes_machine.specs.Left.{StoresFollow}
use Rattle.iox_lanes_machine.specs.Opening.{SlotsNamed}
use Rattle.iox_lanes_machine.specs.Reads.{ReadsLie}
use Rattle.iox_lanes_machine.specs.Receipts.{ReceiptsFollow}
use Rattle.iox_lanes_machine.specs.Returns.{ReturnsKept}
use Rattle.iox_lanes_machine.specs.Rooms.{RoomsFollow}
use Rattle.iox_lanes_machine.specs.Sends.{SendsFollow}
use Rattle.iox_lanes_machine.specs.Slots.{LoansStand}
use Rattle.iox_lanes_machine.specs.Uses.{UsesFollow}
use Rattle.iox_lanes_machine.specs.World.{World, publisher_stage, subscriber_stage}
use Rattle.iox_lanes_machine.specs.Links.{LinkState}

-- The publisher of a link.
abbrev pub sender : LinkState → ℕ
sender link = link.publisher

-- The subscriber of a link.
abbrev pub receiver : LinkState → ℕ
receiver link = link.subscriber

-- A port's connection is a link whose end is this port, and its submission ring has exactly the cells that it needs.
pub record IsLinkOf (links : List LinkState) (port : LinkState → ℕ) (place : ℕ) (route : Route) : Type 0 where
  pub link : LinkState
  pub found : slice_get links route.connection ≡ Some link
  pub own : port link ≡ place
  pub kind : route.kind ≡ link.kind
  pub limit : route.limit ≡ link.limit
  pub cells : route.submission_cells ≡ cells_of link.kind link.limit

-- The words of the link's submission ring are words of the service.
pub record IsLink (sizes : TableSizes) (connection : ℕ) (link : LinkState) : Type 0 where
  pub connection_is : connection < sizes.connections
  pub cells : cells_of link.kind link.limit ≤ sizes.submission_cells

-- The connection is one of the service, if there is one.
abbrev pub StandsInService : TableSizes → Option ℕ → Type 0
StandsInService sizes None = Unit {0}
StandsInService sizes (Some connection) = connection < sizes.connections

-- Ports, connections and words are those of one service.
pub record IsWithin (m : World) : Type 0 where
  pub publishers : All (IsPublisher m.table.sizes) m.publishers
  pub subscribers : All (IsSubscriber m.table.sizes) m.subscribers
  pub senders : (place : ℕ) (lane : PublisherLaneState) → slice_get m.publishers place ≡ Some lane
      → All (IsLinkOf m.links sender place) lane.port.routes
  pub receivers : (place : ℕ) (lane : SubscriberLaneState) → slice_get m.subscribers place ≡ Some lane
      → All (IsLinkOf m.links receiver place) lane.port.routes
  pub links : (connection : ℕ) (link : LinkState) → slice_get m.links connection ≡ Some link → IsLink m.table.sizes connection link
  pub orders : length m.orders ≡ length m.links
  pub words : length m.table.words ≡ words_of m.table.sizes

-- The order of a connection answers as its mailbox does, beginning with what waited before the first step, and its moments never fall.
pub record FollowsMailbox (link : LinkState) (order : List Placed) (moments : ℕ) : Type 0 where
  pub acts : Acts (overflows link.kind) link.limit link.found (acts_of order)
  pub rises : Rises 0 order moments

-- The order of a connection answers as its mailbox does. The submission ring contains the messages that wait by this order, and fits how
-- far the publisher's push and the subscriber's pop have come. The write position is less than the number of steps plus 2^63, so it doesn't
-- wrap.
pub record IsKeptAt (table : TableWords) (moments connection : ℕ) (link : LinkState) (order : List Placed) (sends : PublisherCall)
    (receives : SubscriberCall) : Type 0 where
  pub mailbox : FollowsMailbox link order moments
  pub shape : Shape link.kind link.limit (ring_in table connection (cells_of link.kind link.limit)) (waiting link order)
      (push_on connection link.kind sends) (pop_on connection link.kind receives)
  pub few : (ring_in table connection (cells_of link.kind link.limit)).write < moments + 2 ^ 63

-- Each connection has its order, and its submission ring contains what the order leaves (`IsKeptAt`).
abbrev pub AreKept : World → Type 0
AreKept m = (connection : ℕ) (link : LinkState) (order : List Placed) → slice_get m.links connection ≡ Some link
    → slice_get m.orders connection ≡ Some order
    → IsKeptAt m.table m.moments connection link order (publisher_stage (slice_get m.publishers link.publisher))
    (subscriber_stage (slice_get m.subscribers link.subscriber))

-- The invariant of lanes. Parts that need unwrapped positions hold while at most 2^63 steps were made. Before the first step, the lanes are
-- as they were made, with what they found.
pub record IsKept (m : World) : Type 0 where
  pub within : IsWithin m
  pub rings : m.moments ≤ 2 ^ 63 → AreKept m
  pub receipts : ReceiptsFollow m
  pub calls : CallsKeepTime m
  pub sends : SendsFollow m
  pub loans : LoansStand m
  pub returns : ReturnsKept m
  pub reads : ReadsLie m
  pub uses : UsesFollow m
  pub held : ReadsFollow m
  pub left : StoresFollow m
  pub rooms : RoomsFollow m
  pub named : SlotsNamed m
  pub fresh : m.moments ≡ 0 → IsFresh m
