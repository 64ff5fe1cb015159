-- The messages that wait and those of histories in the lanes of a domain, by the machine's service that its ports represent.
use Rattle.std.specs.Prelude.{ℕ, ◌+◌, ◌-◌, ◌<◌, ◌≤◌, ◌≡◌, Bool, true, List, [], ◌∷◌, length, map, get_or, slice_get, is_some, nat_lt, None}
use Rattle.std.specs.Prelude.{Some}
use Rattle.std.specs.Prelude.{if◌then◌else◌}
use Rattle.std.specs.List.{All}
use Rattle.iox_domain.specs.DomainPorts.Messages.{Message}
use Rattle.iox_domain.specs.DomainPorts.Ports.{connection_of}
use Rattle.iox_domain.specs.DomainPorts.Publishers.{port_of}
use Rattle.iox_domain.specs.DomainPorts.declared.publisher_port.PublisherPort.{PublisherPort}
use Rattle.iox_domain.specs.declared.ports.service_ports.ServicePorts.{ServicePorts}
use Rattle.iox_domain_machine.specs.Naming.{Naming}
use Rattle.iox_lanes_machine.specs.LanesParties.Parties.{PublisherLaneState}
use Rattle.iox_lanes_machine.specs.Links.{LinkState}
use Rattle.iox_lanes_machine.specs.QueuesSteps.Ends.{overflows}
use Rattle.iox_lanes_machine.specs.World.{World}
use Rattle.iox_lanes_service.specs.Naming.{LaneNaming, lane_mailbox, slot_message}
use Rattle.iox_lanes_service.specs.Standing.{NumbersFit}
use Rattle.iox_machine.specs.Service.{Publisher, Service}
use Rattle.iox_machine.specs.Table.{at}

-- The name of the message in a slot, by the number of the publisher that owns the slot, and by the slot's place among the publisher's own.
abbrev pub slot_name : (ℕ → ℕ → ℕ) → List ℕ → List PublisherLaneState → ℕ → ℕ
slot_name name [] lanes slot = 0
slot_name name (number ∷ numbers) [] slot = 0
slot_name name (number ∷ numbers) (lane ∷ lanes) slot =
    if nat_lt slot (lane.port.book.first + length lane.port.book.loans) then name number (slot - lane.port.book.first)
    else slot_name name numbers lanes slot

-- The names of what lanes have: ports and messages have the names that the domain's ports with these numbers, and their messages, have.
abbrev pub lane_names : Naming → Bool → List ℕ → List ℕ → World → LaneNaming
lane_names names numbered senders readers m = record {
  publisher = λ place. names.publisher (get_or senders place 0);
  subscriber = λ place. names.subscriber (get_or readers place 0);
  message = slot_name names.message senders m.publishers;
  numbered = numbered;
}

-- The words of a message's values give them back, and the message has a sequence number exactly if messages have them.
pub record IsReadBack {T U : Type 0} (payload_words : T → List ℕ) (value : List ℕ → T) (numbered : Bool) (message : Message T U)
    : Type 0 where
  pub values : All (λ x. value (payload_words x) ≡ x) message.values
  pub numbers : is_some message.sequence ≡ numbered

-- Each message in a publisher's history, and each that waits at a connection, is read back from its words (`IsReadBack`).
pub record AreReadBack {T U : Type 0} (payload_words : T → List ℕ) (value : List ℕ → T) (ports : ServicePorts T U) : Type 0 where
  pub remembered : (number : ℕ) (port : PublisherPort T U) → port_of number ports.publishers ≡ Some port
      → All (IsReadBack payload_words value ports.sizes.sequence_numbers) port.sender.uses.history
  pub waiting : (number : ℕ) (port : PublisherPort T U) → port_of number ports.publishers ≡ Some port → (index : ℕ)
      → All (IsReadBack payload_words value ports.sizes.sequence_numbers) (connection_of index port).waiting

module _ {T : Type 0} (value : List ℕ → T) (names : LaneNaming) (m : World) where
  -- A publisher of lanes represents this publisher of the machine, apart from its connections. It isn't closed, no send of it is blocked,
  -- its loan limit is the same for messages of one value, and its last sequence number and its history are the same.
  pub record RemembersAs (lane : PublisherLaneState) (publisher : Publisher T) : Type 0 where
    pub stands : publisher.stands ≡ true
    pub free : publisher.blocked ≡ None
    pub most_loans : publisher.max_loaned_samples ≡ lane.port.book.most_loans
    pub slots : publisher.slots ≡ length lane.port.book.loans
    pub room : 1 ≤ publisher.room
    pub last : publisher.last_sequence ≡ lane.last
    pub history : publisher.history ≡ map (slot_message value names m.table) lane.port.book.history

  -- Lanes before their first step have the messages of a service: each publisher represents one of the service with the same history, and
  -- each connection represents the mailbox of its ports, where the same messages wait and none is borrowed, and which overflows or refuses
  -- as agreed. No two publishers have one name, and no two subscribers. Nothing is loaned or borrowed in the service, and if messages have
  -- sequence numbers, headers have a word for them.
  pub record HaveMessages (service : Service T) : Type 0 where
    pub publishers : (place : ℕ) (lane : PublisherLaneState) → slice_get m.publishers place ≡ Some lane
        → (publisher : Publisher T) × (at (names.publisher place) service.publishers ≡ Some publisher) × RemembersAs lane publisher
    pub mailboxes : (connection : ℕ) (link : LinkState) → slice_get m.links connection ≡ Some link
        → service.mailboxes (names.publisher link.publisher) (names.subscriber link.subscriber)
        ≡ Some (lane_mailbox value names m [] connection link)
    pub kinds : (connection : ℕ) (link : LinkState) → slice_get m.links connection ≡ Some link
        → overflows link.kind ≡ service.settings.enable_safe_overflow
    pub publishers_apart : (one other : ℕ) → one < length m.publishers → other < length m.publishers
        → names.publisher one ≡ names.publisher other → one ≡ other
    pub subscribers_apart : (one other : ℕ) → one < length m.subscribers → other < length m.subscribers
        → names.subscriber one ≡ names.subscriber other → one ≡ other
    pub loans : service.loans ≡ []
    pub samples : service.samples ≡ []
    pub numbers : NumbersFit names.numbered m
