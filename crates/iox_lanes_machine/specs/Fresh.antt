-- Lanes before their first step, with what they found.
use Rattle.std.specs.Prelude.{ℕ, ◌≡◌, ◌+◌, ◌<◌, ◌≤◌, ◌^◌, false, List, [], length, get_or, slice_get, slice_index, Some, None}
use Rattle.iox_lanes_machine.specs.QueuesSteps.declared.order.Placed.{Placed}
use Rattle.iox_lanes_machine.specs.QueuesSteps.Ends.{cells_of}
use Rattle.iox_lanes_machine.specs.QueuesSteps.RingMachine.{first_words}
use Rattle.iox_lanes_machine.specs.QueuesSteps.declared.rings.ends.RingKind.TheVariants as kind
use Rattle.iox_lanes_machine.specs.LanesBase.declared.calls.publisher.PublisherCall.TheVariants as publishing
use Rattle.iox_lanes_machine.specs.LanesBase.declared.calls.route.Route.{Route}
use Rattle.iox_lanes_machine.specs.LanesBase.declared.calls.subscriber.SubscriberCall.TheVariants as subscribing
use Rattle.iox_lanes_machine.specs.LanesParties.declared.publisher.slot_book.LoanMark.TheVariants as mark
use Rattle.iox_lanes_machine.specs.LanesParties.Parties.{PublisherLaneState, SubscriberLaneState, is_out}
use Rattle.iox_lanes_machine.specs.LedgerRooms.{CountsLoans}
use Rattle.iox_lanes_machine.specs.LedgerUses.{one_if, count, entry, refers_to, UsesCounted}
use Rattle.iox_lanes_machine.specs.Links.{LinkState}
use Rattle.iox_lanes_machine.specs.Opening.{CellsNameSlots}
use Rattle.iox_lanes_machine.specs.Reads.{width}
use Rattle.iox_lanes_machine.specs.Returns.{back_ring, GoesRound}
use Rattle.iox_lanes_machine.specs.Rings.{ring_in}
use Rattle.iox_lanes_machine.specs.Rooms.{may_borrow, HasReceived}
use Rattle.iox_lanes_machine.specs.Sends.{HasConnections}
use Rattle.iox_lanes_machine.specs.Slots.{SlotsInRows}
use Rattle.iox_lanes_machine.specs.Uses.{given_back}
use Rattle.iox_lanes_machine.specs.World.{World}

-- By a publisher's record, each connection has the slots that wait there or are in its completion ring, each once.
abbrev pub HasFound : World → PublisherLaneState → Type 0
HasFound m lane = (place : ℕ) (route : Route) (link : LinkState) → slice_get lane.port.routes place ≡ Some route
    → slice_get m.links route.connection ≡ Some link
    → (slot : ℕ) → count slot link.found + count slot (given_back m.table route.connection) ≡ one_if (refers_to lane.port.book place slot)

-- A publisher between calls, with all its connections, whose record counts the uses of its slots, and which has no loan.
pub record IsFreshPublisher (m : World) (who : ℕ) (lane : PublisherLaneState) : Type 0 where
  pub idle : lane.port.call ≡ publishing.Idle
  pub connections : HasConnections m.links who lane.port.routes
  pub round : GoesRound m.table.sizes.completion_cells lane.port.routes
  pub counted : UsesCounted (length lane.port.routes) lane.port.book
  pub counts : CountsLoans lane.port.book
  pub none_out : lane.port.book.out ≡ 0
  pub unlent : (slot : ℕ) → is_out (entry lane.port.book.first lane.port.book.loans slot mark.No) ≡ false
  pub has : HasFound m lane

-- A subscriber between calls, with all its connections, that borrows nothing.
pub record IsFreshSubscriber (m : World) (who : ℕ) (lane : SubscriberLaneState) : Type 0 where
  pub idle : lane.port.call ≡ subscribing.Idle
  pub connections : HasReceived m.links who lane.port.routes
  pub round : GoesRound m.table.sizes.completion_cells lane.port.routes
  pub all : length lane.port.samples ≡ m.table.sizes.slots
  pub none : (slot : ℕ) → get_or lane.port.samples slot None ≡ None
  pub borrowed : (place : ℕ) → place < length lane.port.routes → slice_get lane.port.borrowed place ≡ Some 0
  pub words : length lane.port.words ≡ width m.table.sizes

-- A connection whose two rings have, from their first cells on, the messages that wait and the samples that were returned: no more messages
-- than may wait, and messages and samples together no more than the cells of the completion ring.
pub record IsFreshLink (m : World) (connection : ℕ) (link : LinkState) : Type 0 where
  pub some : 0 < link.limit
  pub small : link.limit < 2 ^ 62
  pub room : length link.found ≤ link.limit
  pub ring : ring_in m.table connection (cells_of link.kind link.limit) ≡ first_words link.kind link.limit link.found
  pub back : List ℕ
  pub returned : back_ring m.table connection m.table.sizes.completion_cells ≡ first_words kind.Refusing m.table.sizes.completion_cells back
  pub few : length link.found + length back ≤ m.table.sizes.completion_cells
  pub sender : link.publisher < length m.publishers
  pub cells : link.limit + may_borrow (slice_get m.subscribers link.subscriber) < m.table.sizes.completion_cells

-- Lanes before their first step: no call ended, each order is empty, and each port and each connection is as at the beginning.
pub record IsFresh (m : World) : Type 0 where
  pub finished : m.finished ≡ []
  pub read : m.read ≡ []
  pub orders : (connection : ℕ) (order : List Placed) → slice_get m.orders connection ≡ Some order → order ≡ []
  pub some : 0 < m.table.sizes.completion_cells
  pub small : m.table.sizes.completion_cells < 2 ^ 62
  pub publishers : (place : ℕ) (lane : PublisherLaneState) → slice_get m.publishers place ≡ Some lane → IsFreshPublisher m place lane
  pub subscribers : (place : ℕ) (lane : SubscriberLaneState) → slice_get m.subscribers place ≡ Some lane → IsFreshSubscriber m place lane
  pub links : (connection : ℕ) (link : LinkState) → slice_get m.links connection ≡ Some link → IsFreshLink m connection link
  pub pairs : (one other : ℕ) (link behind : LinkState) → slice_get m.links one ≡ Some link → slice_get m.links other ≡ Some behind
      → link.publisher ≡ behind.publisher → link.subscriber ≡ behind.subscriber → one ≡ other
  pub rows : SlotsInRows m
  pub spare : slice_index m.table.words 0 ≡ 0
  pub named : CellsNameSlots m.table
