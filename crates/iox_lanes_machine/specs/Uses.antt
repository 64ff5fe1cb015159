-- Who has which slot: a publisher's record of it agrees with what is at its connections.
use Rattle.std.specs.Prelude.{ℕ, ◌≡◌, ◌+◌, ◌<◌, ◌≤◌, ◌^◌, List, length, slice_get, Option, Some}
use Rattle.iox_lanes_machine.specs.QueuesSteps.declared.access.Word.TheVariants.{Read}
use Rattle.iox_lanes_machine.specs.QueuesSteps.declared.order.Placed.{Placed}
use Rattle.iox_lanes_machine.specs.LanesBase.Table.{TableWords, held_by}
use Rattle.iox_lanes_machine.specs.LanesBase.declared.calls.publisher.PublisherCall.{PublisherCall}
use Rattle.iox_lanes_machine.specs.LanesBase.declared.calls.route.Route.{Route}
use Rattle.iox_lanes_machine.specs.LanesParties.Parties.{PublisherLaneState, SubscriberLaneState}
use Rattle.iox_lanes_machine.specs.Borrowing.{borrows, UsesBorrowed, ArePlaced}
use Rattle.iox_lanes_machine.specs.Sending.{SendsLacking}
use Rattle.iox_lanes_machine.specs.Stored.{aside, between}
use Rattle.iox_lanes_machine.specs.LedgerUses.{one_if, count, refers_to, UsesCounted}
use Rattle.iox_lanes_machine.specs.Returns.{back_ring}
use Rattle.iox_lanes_machine.specs.Rings.{sent_word, push_on, waiting}
use Rattle.iox_lanes_machine.specs.World.{World}
use Rattle.iox_lanes_machine.specs.Links.{LinkState}

-- What lies aside at a connection, at this stage of its publisher's call.
abbrev pub aside_at : TableWords → ℕ → LinkState → PublisherCall → List ℕ
aside_at table connection link call = aside (held_by table (sent_word connection Read)) (push_on connection link.kind call)

-- The samples in the completion ring of a connection.
abbrev pub given_back : TableWords → ℕ → List ℕ
given_back table connection = between (back_ring table connection table.sizes.completion_cells)

-- How often a slot is at a connection: among the messages that wait, the delayed puts, the borrowed samples, and the samples in the
-- completion ring.
abbrev pub stands_at : TableWords → ℕ → LinkState → List Placed → PublisherCall → Option SubscriberLaneState → ℕ → ℕ
stands_at table connection link order call receiver slot =
    count slot (waiting link order) + count slot (aside_at table connection link call) + one_if (borrows connection slot receiver) +
    count slot (given_back table connection)

-- Each connection of the publisher has exactly the slots that the publisher's record says.
abbrev pub IsBalanced : World → PublisherLaneState → Type 0
IsBalanced m lane = (place : ℕ) (route : Route) (link : LinkState) (order : List Placed) → slice_get lane.port.routes place ≡ Some route
    → slice_get m.links route.connection ≡ Some link → slice_get m.orders route.connection ≡ Some order
    → (slot : ℕ) → stands_at m.table route.connection link order lane.port.call (slice_get m.subscribers link.subscriber) slot
    ≡ one_if (refers_to lane.port.book place slot)

-- What every step keeps of a publisher's slots.
pub record PublisherUses (m : World) (lane : PublisherLaneState) : Type 0 where
  pub counted : UsesCounted (length lane.port.routes) lane.port.book
  pub lacking : SendsLacking (length lane.port.routes) lane.port.book lane.port.call
  pub balanced : IsBalanced m lane

-- What every step keeps of a subscriber's samples: it has a place for each slot of the service, borrows what it uses, and each sample is
-- borrowed from one of its connections.
pub record SubscriberUses (m : World) (lane : SubscriberLaneState) : Type 0 where
  pub all : length lane.port.samples ≡ m.table.sizes.slots
  pub borrowed : UsesBorrowed lane.port.samples lane.port.call
  pub placed : ArePlaced lane.port.samples (length lane.port.routes)

-- What every step keeps of the uses of slots; each connection has a publisher, and no publisher and subscriber have two connections.
pub record UsesKept (m : World) : Type 0 where
  pub publishers : (place : ℕ) (lane : PublisherLaneState) → slice_get m.publishers place ≡ Some lane → PublisherUses m lane
  pub subscribers : (place : ℕ) (lane : SubscriberLaneState) → slice_get m.subscribers place ≡ Some lane → SubscriberUses m lane
  pub senders : (connection : ℕ) (link : LinkState) → slice_get m.links connection ≡ Some link → link.publisher < length m.publishers
  pub pairs : (one other : ℕ) (link behind : LinkState) → slice_get m.links one ≡ Some link → slice_get m.links other ≡ Some behind
      → link.publisher ≡ behind.publisher → link.subscriber ≡ behind.subscriber → one ≡ other

-- The uses of slots agree (`UsesKept`), as long as at most 2^63 steps were made.
abbrev pub UsesFollow : World → Type 0
UsesFollow m = m.moments ≤ 2 ^ 63 → UsesKept m
