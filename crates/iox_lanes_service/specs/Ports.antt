-- The publishers and subscribers of the machine that the ports of lanes represent.
use Rattle.std.specs.Prelude.{ℕ, ◌<◌, ◌≤◌, ◌≡◌, Bool, true, false, List, length, map, slice_get, None, Some}
use Rattle.iox_command.specs.DomainValues.Actions.{decision_of}
use Rattle.iox_command.specs.DomainValues.declared.backpressure.BackpressureDecision.{BackpressureDecision}
use Rattle.iox_command.specs.DomainValues.declared.backpressure.BackpressureDecision.TheVariants.{DiscardData, DiscardDataAndFail}
use Rattle.iox_lanes_machine.specs.LanesBase.declared.calls.route.Route.{Route}
use Rattle.iox_lanes_machine.specs.LanesParties.Parties.{PublisherLaneState, SubscriberLaneState}
use Rattle.iox_lanes_machine.specs.FullLoans.{IsInUse}
use Rattle.iox_lanes_machine.specs.LedgerUses.{IsOwn}
use Rattle.iox_lanes_machine.specs.World.{World}
use Rattle.iox_lanes_laws.specs.Subscribing.{OneOf}
use Rattle.iox_lanes_service.specs.Naming.{LaneNaming, reader_name, writer_name, slot_message}
use Rattle.iox_machine.specs.Choices.{Choices}
use Rattle.iox_machine.specs.PortList.{those}
use Rattle.iox_machine.specs.Service.{Publisher, Service, Subscriber}
use Rattle.iox_machine.specs.Table.{contains}

-- The messages of a publisher that are in use have different numbers: each is at least the current segment's first number, and less than
-- the next number. The next number isn't less than that first number either.
pub record NumbersOwn (name : ℕ → ℕ) (m : World) (lane : PublisherLaneState) (first next : ℕ) : Type 0 where
  pub apart : (one other : ℕ) → IsOwn lane.port.book one → IsOwn lane.port.book other → IsInUse m lane one → IsInUse m lane other
      → name one ≡ name other → one ≡ other
  pub current : (slot : ℕ) → IsOwn lane.port.book slot → IsInUse m lane slot → first ≤ name slot
  pub below : (slot : ℕ) → IsOwn lane.port.book slot → IsInUse m lane slot → name slot < next
  pub ahead : first ≤ next

-- What a publisher of lanes decides at a full mailbox: to skip the mailbox and fail for `true`, to skip it only for `false`.
abbrev pub passing_over : Bool → BackpressureDecision
passing_over true = DiscardDataAndFail
passing_over false = DiscardData

module _ {T : Type 0} (choices : Choices T) (value : List ℕ → T) (names : LaneNaming) (m : World) (service : Service T) where
  -- The publisher of lanes at this place represents this publisher of the machine. It isn't closed, no send of it is blocked, and it has
  -- followed the current list of subscribers.
  pub record LanePublisherIs (place : ℕ) (lane : PublisherLaneState) (publisher : Publisher T) : Type 0 where
    pub stands : publisher.stands ≡ true
    pub free : publisher.blocked ≡ None
    pub seen : publisher.seen ≡ service.subscriber_list.changes
    -- Its loan limit and its history size are the same, and a message of one value needs no other segment.
    pub most_loans : publisher.max_loaned_samples ≡ lane.port.book.most_loans
    pub kept : service.settings.history_size ≡ lane.port.book.kept
    pub slots : publisher.slots ≡ length lane.port.book.loans
    pub room : 1 ≤ publisher.room
    -- It is connected to the subscribers of its connections, in their order.
    pub connected : those publisher.connected ≡ map (λ (route : Route). reader_name names m.links route.connection) lane.port.routes
    -- Its last sequence number and its history are the same.
    pub last : publisher.last_sequence ≡ lane.last
    pub history : publisher.history ≡ map (slot_message value names m.table) lane.port.book.history
    pub numbers : NumbersOwn names.message m lane publisher.first publisher.next
    -- If mailboxes don't overflow, it may skip full mailboxes as the lane does.
    pub decides : service.settings.enable_safe_overflow ≡ false
        → choices.publisher_decides (names.publisher place) 0 0 (decision_of publisher.strategy publisher.handler) (passing_over lane.fails)

  -- The subscriber of lanes represents this subscriber of the machine. It isn't closed, has followed the current list of publishers, and
  -- has no expired connection.
  pub record LaneSubscriberIs (lane : SubscriberLaneState) (subscriber : Subscriber) : Type 0 where
    pub stands : subscriber.stands ≡ true
    pub seen : subscriber.seen ≡ service.publisher_list.changes
    pub done : subscriber.again ≡ false
    pub expired : length subscriber.expired ≡ 0
    -- Its borrow limit is the same.
    pub most_borrowed : service.settings.subscriber_max_borrowed_samples ≡ lane.port.most_borrowed
    -- It is connected to the publishers of its connections, and to nobody else.
    pub met : (place : ℕ) (route : Route) → slice_get lane.port.routes place ≡ Some route
        → contains (those subscriber.connected) (writer_name names m.links route.connection) ≡ true
    pub only : (publisher : ℕ) → contains (those subscriber.connected) publisher ≡ true
        → OneOf lane (λ route. writer_name names m.links route.connection ≡ publisher)
