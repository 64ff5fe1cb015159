-- The service of the machine that lanes represent.
use Rattle.std.specs.Prelude.{ℕ, ◌+◌, ◌<◌, ◌≤◌, ◌≡◌, ◌^◌, Bool, true, List, [], map, is_some, slice_get, Some}
use Rattle.std.specs.Map.{keys_of}
use Rattle.iox_lanes_machine.specs.LanesParties.Parties.{PublisherLaneState, SubscriberLaneState}
use Rattle.iox_lanes_machine.specs.QueuesSteps.Ends.{overflows}
use Rattle.iox_lanes_machine.specs.Borrowing.{borrows}
use Rattle.iox_lanes_machine.specs.LedgerUses.{count, one_if}
use Rattle.iox_lanes_machine.specs.Links.{LinkState}
use Rattle.iox_lanes_machine.specs.Resting.{AllBetween}
use Rattle.iox_lanes_machine.specs.World.{World}
use Rattle.iox_lanes_laws.specs.Publishing.{is_loan}
use Rattle.iox_lanes_service.specs.Naming.{LaneNaming, LaneLoan, LaneSample, slots_lent_at, slots_held_over, came_over, loan_by_numbers}
use Rattle.iox_lanes_service.specs.Naming.{sample_by_numbers, lane_mailbox}
use Rattle.iox_lanes_service.specs.Ports.{LanePublisherIs, LaneSubscriberIs}
use Rattle.iox_machine.specs.Choices.{Choices}
use Rattle.iox_machine.specs.Service.{Publisher, Service, Subscriber, mailbox}
use Rattle.iox_machine.specs.Table.{at}

-- No connection of the publisher at this place leads to a subscriber with this name.
abbrev pub JoinsNoneOf : LaneNaming → List LinkState → ℕ → ℕ → Type 0
JoinsNoneOf names links place other = (connection : ℕ) (link : LinkState) → slice_get links connection ≡ Some link → link.publisher ≡ place
    → names.subscriber link.subscriber ≡ other → ⊥

-- The sample came over one of the connections.
pub record CameOverOne (links : List LinkState) (sample : LaneSample) : Type 0 where
  pub connection : ℕ
  pub link : LinkState
  pub found : slice_get links connection ≡ Some link
  pub over : came_over link sample ≡ true

-- If messages have sequence numbers, each header has a word for the number, and every publisher has a last number. The last number is far
-- from the largest one, since it was less than 2^63 before the first step.
pub record NumbersFit (numbered : Bool) (m : World) : Type 0 where
  pub wide : numbered ≡ true → 1 ≤ m.table.sizes.user_header_words
  pub each : (place : ℕ) (lane : PublisherLaneState) → slice_get m.publishers place ≡ Some lane → is_some lane.last ≡ numbered
  pub low : (place : ℕ) (lane : PublisherLaneState) (last : ℕ) → slice_get m.publishers place ≡ Some lane → lane.last ≡ Some last
      → last < 2 ^ 63 + m.moments

-- Lanes between calls, with these numbered loans and samples, represent this service of the machine, under these names. The machine may
-- make these choices, and messages have one value, which is read from the words of a payload.
pub record LanesStandFor {T : Type 0} (choices : Choices T) (value : List ℕ → T) (names : LaneNaming) (lent : List (ℕ × LaneLoan))
    (held : List (ℕ × LaneSample)) (m : World) (service : Service T) : Type 0 where
  -- Nobody is inside a call.
  pub between : AllBetween m
  pub numbers : NumbersFit names.numbered m
  -- Each publisher and each subscriber represents one of the machine, and no two represent the same one.
  pub publishers : (place : ℕ) (lane : PublisherLaneState) → slice_get m.publishers place ≡ Some lane
      → (publisher : Publisher T) × (at (names.publisher place) service.publishers ≡ Some publisher)
      × LanePublisherIs choices value names m service place lane publisher
  pub subscribers : (place : ℕ) (lane : SubscriberLaneState) → slice_get m.subscribers place ≡ Some lane
      → (subscriber : Subscriber) × (at (names.subscriber place) service.subscribers ≡ Some subscriber)
      × LaneSubscriberIs choices value names m service lane subscriber
  pub publishers_apart : (one other : ℕ) (lane behind : PublisherLaneState) → slice_get m.publishers one ≡ Some lane
      → slice_get m.publishers other ≡ Some behind → names.publisher one ≡ names.publisher other → one ≡ other
  pub subscribers_apart : (one other : ℕ) (lane behind : SubscriberLaneState) → slice_get m.subscribers one ≡ Some lane
      → slice_get m.subscribers other ≡ Some behind → names.subscriber one ≡ names.subscriber other → one ≡ other
  -- Each connection leads from a publisher to a subscriber, and is a mailbox, which overflows or refuses as agreed.
  pub joined : (connection : ℕ) (link : LinkState) → slice_get m.links connection ≡ Some link
      → ((lane : PublisherLaneState) × (slice_get m.publishers link.publisher ≡ Some lane))
      × ((lane : SubscriberLaneState) × (slice_get m.subscribers link.subscriber ≡ Some lane))
  pub mailboxes : (connection : ℕ) (link : LinkState) → slice_get m.links connection ≡ Some link
      → service.mailboxes (names.publisher link.publisher) (names.subscriber link.subscriber)
      ≡ Some (lane_mailbox value names m held connection link)
  pub kinds : (connection : ℕ) (link : LinkState) → slice_get m.links connection ≡ Some link
      → overflows link.kind ≡ service.settings.enable_safe_overflow
  -- Every other mailbox of a publisher is empty.
  pub others : (place other : ℕ) (lane : PublisherLaneState) → slice_get m.publishers place ≡ Some lane
      → JoinsNoneOf names m.links place other
      → ((mailbox (names.publisher place) other service).waiting ≡ []) × ((mailbox (names.publisher place) other service).borrowed ≡ [])
  -- The loans of the machine are the numbered ones. Each of these has its own number, and they are all the loans of the publishers.
  pub loans : service.loans ≡ map (λ (entry : ℕ × LaneLoan). (entry.0, loan_by_numbers value names m entry.1)) lent
  pub loans_once : (number : ℕ) → count number (keys_of lent) ≤ 1
  pub loans_there : (index : ℕ) (entry : ℕ × LaneLoan) → slice_get lent index ≡ Some entry
      → (lane : PublisherLaneState) × (slice_get m.publishers entry.1.publisher ≡ Some lane)
  pub loans_all : (place : ℕ) (lane : PublisherLaneState) (slot : ℕ) → slice_get m.publishers place ≡ Some lane
      → count slot (slots_lent_at place lent) ≡ one_if (is_loan lane slot)
  -- The samples of the machine are the numbered ones. Each of these has its own number and came over a connection, and they are all that
  -- the subscribers borrow.
  pub samples : service.samples ≡ map (λ (entry : ℕ × LaneSample). (entry.0, sample_by_numbers value names m entry.1)) held
  pub samples_once : (number : ℕ) → count number (keys_of held) ≤ 1
  pub samples_there : (index : ℕ) (entry : ℕ × LaneSample) → slice_get held index ≡ Some entry → CameOverOne m.links entry.1
  pub samples_all : (connection : ℕ) (link : LinkState) (slot : ℕ) → slice_get m.links connection ≡ Some link
      → count slot (slots_held_over link held) ≡ one_if (borrows connection slot (slice_get m.subscribers link.subscriber))
