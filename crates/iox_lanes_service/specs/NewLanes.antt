-- The services that lanes represent before their first step.
use Rattle.std.specs.Prelude.{ℕ, ◌<◌, ◌≤◌, ◌≡◌, false, true, List, [], length, None, Some}
use Rattle.iox_command.specs.DomainValues.Actions.{decision_of}
use Rattle.iox_lanes_machine.specs.QueuesSteps.Ends.{overflows}
use Rattle.iox_lanes_machine.specs.Made.{listed, start}
use Rattle.iox_lanes_machine.specs.declared.sizes.LaneSizes.{LaneSizes}
use Rattle.iox_lanes_service.specs.Naming.{LaneNaming}
use Rattle.iox_lanes_service.specs.Ports.{passing_over}
use Rattle.iox_lanes_service.specs.Standing.{LanesStandFor}
use Rattle.iox_machine.specs.Choices.{Choices}
use Rattle.iox_machine.specs.PortList.{those}
use Rattle.iox_machine.specs.Service.{Publisher, Service, Subscriber, mailbox}
use Rattle.iox_machine.specs.Table.{at}

module _ {T : Type 0} (choices : Choices T) (names : LaneNaming) (sizes : LaneSizes) (service : Service T) where
  -- A publisher that was created and is connected to each subscriber, before it loans and sends. Its messages have no sequence numbers, and
  -- if mailboxes don't overflow, it may skip full mailboxes.
  pub record IsUnusedPublisher (place : ℕ) (publisher : Publisher T) : Type 0 where
    pub stands : publisher.stands ≡ true
    pub free : publisher.blocked ≡ None
    pub seen : publisher.seen ≡ service.subscriber_list.changes
    pub most_loans : publisher.max_loaned_samples ≡ sizes.most_loans
    pub slots : publisher.slots ≡ sizes.slots
    pub room : 1 ≤ publisher.room
    pub connected : those publisher.connected ≡ listed names.subscriber sizes.subscribers
    pub last : publisher.last_sequence ≡ None
    pub history : publisher.history ≡ []
    pub ahead : publisher.first ≤ publisher.next
    pub decides : service.settings.enable_safe_overflow ≡ false
        → choices.publisher_decides (names.publisher place) 0 0 (decision_of publisher.strategy publisher.handler) (passing_over false)

  -- A subscriber that was created and is connected to each publisher.
  pub record IsUnusedSubscriber (subscriber : Subscriber) : Type 0 where
    pub stands : subscriber.stands ≡ true
    pub seen : subscriber.seen ≡ service.publisher_list.changes
    pub done : subscriber.again ≡ false
    pub expired : length subscriber.expired ≡ 0
    pub connected : those subscriber.connected ≡ listed names.publisher sizes.publishers

  -- A service whose messages have no sequence numbers, where at least as many ports were created as the lanes have, each with its own name.
  -- The ports are connected, the sizes are the same, and nothing was loaned or sent yet.
  pub record IsUnusedFor : Type 0 where
    pub unnumbered : names.numbered ≡ false
    pub publishers : (place : ℕ) → place < sizes.publishers
        → (publisher : Publisher T) × (at (names.publisher place) service.publishers ≡ Some publisher) × IsUnusedPublisher place publisher
    pub subscribers : (place : ℕ) → place < sizes.subscribers
        → (subscriber : Subscriber) × (at (names.subscriber place) service.subscribers ≡ Some subscriber) × IsUnusedSubscriber subscriber
    pub publishers_apart : (one other : ℕ) → one < sizes.publishers → other < sizes.publishers
        → names.publisher one ≡ names.publisher other → one ≡ other
    pub subscribers_apart : (one other : ℕ) → one < sizes.subscribers → other < sizes.subscribers
        → names.subscriber one ≡ names.subscriber other → one ≡ other
    pub history : service.settings.history_size ≡ sizes.history
    pub most_borrowed : service.settings.subscriber_max_borrowed_samples ≡ sizes.most_borrowed
    pub kind : overflows sizes.kind ≡ service.settings.enable_safe_overflow
    pub mailboxes : (one other : ℕ) → one < sizes.publishers → other < sizes.subscribers
        → service.mailboxes (names.publisher one) (names.subscriber other)
        ≡ Some (record { limit = sizes.buffer; waiting = []; borrowed = [] })
    pub others : (one other : ℕ) → one < sizes.publishers
        → ((place : ℕ) → place < sizes.subscribers → names.subscriber place ≡ other → ⊥)
        → ((mailbox (names.publisher one) other service).waiting ≡ []) × ((mailbox (names.publisher one) other service).borrowed ≡ [])
    pub loans : service.loans ≡ []
    pub samples : service.samples ≡ []

-- Lanes that were made represent, before their first step, each service that has no sequence numbers and is unused (`IsUnusedFor`).
abbrev pub NewLanesStand : {T : Type 0} → Choices T → (List ℕ → T) → Type 0
NewLanesStand {T} choices value = (names : LaneNaming) (sizes : LaneSizes) (service : Service T)
    → IsUnusedFor choices names sizes service → LanesStandFor choices value names [] [] (start sizes) service
