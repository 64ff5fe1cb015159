-- What the lanes of a domain find.
use Rattle.std.specs.Prelude.{ℕ, zero, suc, ◌+◌, ◌-◌, ◌^◌, min, Bool, List, [], ◌∷◌, ◌++◌, flat_map, length, slice_get, slice_index}
use Rattle.std.specs.Prelude.{Option, None, Some}
use Rattle.iox_domain.specs.DomainPorts.Messages.{Message}
use Rattle.iox_domain.specs.DomainPorts.Ports.{connection_of}
use Rattle.iox_domain.specs.DomainPorts.declared.publisher_port.PublisherPort.{PublisherPort}
use Rattle.iox_domain.specs.DomainPorts.Publishers.{port_of}
use Rattle.iox_domain.specs.DomainPorts.declared.subscriber_port.SubscriberPort.{SubscriberPort}
use Rattle.iox_domain.specs.DomainValues.declared.backpressure.BackpressureDecision.{BackpressureDecision}
use Rattle.iox_domain.specs.Kept.{kept_under}
use Rattle.iox_domain.specs.Subscribers.{subscriber_of}
use Rattle.iox_domain.specs.declared.domain.Domain.{Domain}
use Rattle.iox_lanes_machine.specs.LanesBase.declared.words.word.SlotWord.TheVariants.{Header, UserHeader, Payload}
use Rattle.iox_lanes_machine.specs.LanesParties.Parties.{PublisherLaneState}
use Rattle.iox_lanes_machine.specs.Made.{listed}
use Rattle.iox_lanes_machine.specs.World.{World}
use Rattle.iox_lanes_machine.specs.declared.found.Found.{Found}
use Rattle.iox_lanes_machine.specs.declared.found.Found.TheVariants as found
use Rattle.iox_lanes_opening.specs.Deciding.{would_fail}
use Rattle.iox_lanes.specs.Behind.{behind_findings, behind_finding}
use Rattle.iox_lanes.specs.Spelling.{Spelling}
use Rattle.iox_lanes.specs.Tied.{tie_for}

-- The number in the lanes of a publisher's slot, if the publisher's slots begin at `first` there; if that is more than 2^64 - 1, 2^64 - 1.
abbrev pub slot_in : ℕ → ℕ → ℕ
slot_in first slot = min (first + slot) (2 ^ 64 - 1)

-- The findings that the first `count` words of a user header are in a slot.
abbrev pub header_findings : {U : Type 0} → (U → List ℕ) → ℕ → ℕ → U → List Found
header_findings words count slot user_header
    = listed (λ word. found.Held slot (UserHeader word) (slice_index (words user_header) word)) count

-- The findings that the first `count` words of a value are the payload of a slot.
abbrev pub value_findings : {T : Type 0} → (T → List ℕ) → ℕ → ℕ → T → List Found
value_findings words count slot value = listed (λ word. found.Held slot (Payload word) (slice_index (words value) word)) count

-- The findings that the words of the first of these values are the payload of a slot.
abbrev pub payload_findings : {T : Type 0} → (T → List ℕ) → ℕ → ℕ → List T → List Found
payload_findings words count slot [] = []
payload_findings words count slot (value ∷ rest) = value_findings words count slot value

-- The findings that a slot has the words of a header, of a sequence number and a user header, and of a payload.
abbrev pub words_findings : {T U : Type 0} → Spelling T U → ℕ → ℕ → ℕ → ℕ → Option ℕ × U → List T → List Found
words_findings spelling slot node number elements user_header values =
    found.Held slot (Header 0) node ∷ found.Held slot (Header 1) number ∷ found.Held slot (Header 2) elements
    ∷ (header_findings spelling.middle spelling.middle_count slot user_header
    ++ payload_findings spelling.payload spelling.payload_count slot values)

-- The findings that the words of a publisher's message are in its slot, if the publisher's slots begin at `first`.
abbrev pub message_findings : {T U : Type 0} → Spelling T U → ℕ → PublisherPort T U → Message T U → List Found
message_findings spelling first port message =
    words_findings spelling (slot_in first message.slot) port.owner.node_id port.number
    message.elements (message.sequence, message.user_header) message.values

-- The findings that these messages are the history of the publisher at this place, the oldest first: for each message its words, and that
-- it is then the newest one of the history.
abbrev pub history_findings : {T U : Type 0} → Spelling T U → ℕ → ℕ → PublisherPort T U → List (Message T U) → List Found
history_findings spelling place first port messages =
    flat_map (λ message. message_findings spelling first port message ++ found.Newest place (slot_in first message.slot) ∷ []) messages

-- The findings that these messages wait at the connection between the publisher and the subscriber at these places, the oldest first: for
-- each message its words, and that it waits as the last one so far.
abbrev pub waiting_findings : {T U : Type 0} → Spelling T U → ℕ → ℕ → ℕ → PublisherPort T U → List (Message T U) → List Found
waiting_findings spelling place other first port messages =
    flat_map (λ message. message_findings spelling first port message
    ++ found.Waiting place other (slot_in first message.slot) ∷ []) messages

-- The findings that the connection between the publisher and the subscriber at these places has the capacity of the domain's connection
-- with this index, and its waiting messages.
abbrev pub link_findings : {T U : Type 0} → Spelling T U → ℕ → ℕ → ℕ → PublisherPort T U → ℕ → List Found
link_findings spelling place other first port index =
    found.Buffer place other (connection_of index port).limit
    ∷ waiting_findings spelling place other first port (connection_of index port).waiting

-- The lists of `f` for the first `count` numbers, one after the other.
abbrev pub flat_listed : {X : Type 0} → (ℕ → List X) → ℕ → List X
flat_listed f zero = []
flat_listed f (suc count) = flat_listed f count ++ f count

-- The number of the first slot of a publisher's lane, if there is one; otherwise 0.
abbrev pub first_slot : Option PublisherLaneState → ℕ
first_slot None = 0
first_slot (Some lane) = lane.port.book.first

-- The number of slots that a publisher has, including those of segments from which it no longer loans; 2^64 - 1 if there are more.
abbrev pub slots_in : {T U : Type 0} → PublisherPort T U → ℕ
slots_in port = min (port.sender.uses.first + port.sender.uses.size) (2 ^ 64 - 1)

-- The lanes after they found the publisher at this place without its messages: its number of slots, its loan limit, its node, number and
-- last sequence number, and whether its sends fail.
abbrev pub sender_behind : {T U : Type 0} → World → ℕ → Bool → PublisherPort T U → World
sender_behind m place fails port =
    behind_finding (behind_finding m (found.Slots place (slots_in port) port.sender.uses.most_loans))
    (found.Sender place port.owner.node_id port.number fails port.last_sequence)

-- The lanes after they found the messages of a publisher's history and of its connections to the subscribers with these numbers, if its
-- slots begin at `first`.
abbrev pub messages_behind : {T U : Type 0} → Spelling T U → List (ℕ × SubscriberPort) → List ℕ → ℕ → PublisherPort T U → ℕ → World → World
messages_behind spelling readers subscribers place port first m =
    behind_findings (behind_findings m (history_findings spelling place first port port.sender.uses.history))
    (flat_listed (λ other. link_findings spelling place other first port
    (tie_for port (subscriber_of (slice_index subscribers other) readers))) (length subscribers))

-- The lanes after they found all of the publisher at this place, if it is in the domain.
abbrev pub publisher_behind : {T U : Type 0} → Spelling T U → List (ℕ × SubscriberPort) → List ℕ → World → ℕ → Bool
    → Option (PublisherPort T U) → World
publisher_behind spelling readers subscribers m place fails None = m
publisher_behind spelling readers subscribers m place fails (Some port) =
    messages_behind spelling readers subscribers place port
    (first_slot (slice_get (sender_behind m place fails port).publishers place)) (sender_behind m place fails port)

-- The lanes after they found all of the first `count` publishers of the list, each at its place.
abbrev pub publishers_behind : {T U B D : Type 0} → (B → Option BackpressureDecision) → Spelling T U → Domain T U B D → List ℕ → List ℕ
    → World → ℕ → World
publishers_behind decision spelling domain publishers subscribers m zero = m
publishers_behind decision spelling domain publishers subscribers m (suc count) =
    publisher_behind spelling domain.state.ports.subscribers subscribers
    (publishers_behind decision spelling domain publishers subscribers m count) count
    (would_fail decision (kept_under (slice_index publishers count) domain.state.publisher_handlers))
    (port_of (slice_index publishers count) domain.state.ports.publishers)
