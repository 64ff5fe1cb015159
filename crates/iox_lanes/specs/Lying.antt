-- Messages of a domain whose words are in the slots of lanes.
use Rattle.std.specs.Prelude.{ℕ, ◌≡◌, ◌+◌, ◌<◌, List, [], ◌∷◌, length, slice_get, slice_index, Option, None, Some}
use Rattle.iox_domain.specs.DomainPorts.Messages.{Message}
use Rattle.iox_domain.specs.DomainPorts.declared.publisher_port.PublisherPort.{PublisherPort}
use Rattle.iox_lanes_machine.specs.LanesBase.Table.{TableWords, held_by}
use Rattle.iox_lanes_machine.specs.LanesBase.declared.words.word.SharedWord.TheVariants.{Slot}
use Rattle.iox_lanes_machine.specs.LanesBase.declared.words.word.SlotWord.TheVariants.{Header, UserHeader, Payload}
use Rattle.iox_lanes.specs.Spelling.{Spelling}

-- The header of the slot names this node, this publisher and this number of elements.
abbrev pub HeaderLies : TableWords → ℕ → ℕ → ℕ → ℕ → Type 0
HeaderLies table slot node number elements =
    (held_by table (Slot slot (Header 0)) ≡ node) × (held_by table (Slot slot (Header 1)) ≡ number)
    × (held_by table (Slot slot (Header 2)) ≡ elements)

-- The user header of the slot has the words of this one.
abbrev pub UserHeaderLies : {U : Type 0} → (U → List ℕ) → TableWords → ℕ → U → Type 0
UserHeaderLies words table slot user_header =
    (word : ℕ) → word < table.sizes.user_header_words → held_by table (Slot slot (UserHeader word)) ≡ slice_index (words user_header) word

-- The payload of the slot has the words of this value.
abbrev pub ValueLies : {T : Type 0} → (T → List ℕ) → TableWords → ℕ → T → Type 0
ValueLies words table slot value =
    (word : ℕ) → word < table.sizes.payload_words → held_by table (Slot slot (Payload word)) ≡ slice_index (words value) word

-- There is exactly one value, and the payload of the slot has its words.
abbrev pub PayloadLies : {T : Type 0} → (T → List ℕ) → TableWords → ℕ → List T → Type 0
PayloadLies words table slot [] = ⊥
PayloadLies words table slot (value ∷ []) = ValueLies words table slot value
PayloadLies words table slot (value ∷ more ∷ rest) = ⊥

-- The slot has the words of a publisher's message: of its header, of its sequence number and user header, and of its single value.
abbrev pub WordsLie : {T U : Type 0} → Spelling T U → TableWords → ℕ → PublisherPort T U → Message T U → Type 0
WordsLie spelling table slot port message =
    HeaderLies table slot port.owner.node_id port.number message.elements
    × UserHeaderLies spelling.middle table slot (message.sequence, message.user_header)
    × PayloadLies spelling.payload table slot message.values

-- The words of the publisher's message are in its slot, if the publisher's slots begin at `first`.
abbrev pub Lies : {T U : Type 0} → Spelling T U → TableWords → ℕ → PublisherPort T U → Message T U → Type 0
Lies spelling table first port message = WordsLie spelling table (first + message.slot) port message

-- The publisher's message, if there is one, has this slot, and its words are there.
abbrev pub IsLaidAt : {T U : Type 0} → Spelling T U → TableWords → ℕ → PublisherPort T U → Option ℕ → Option (Message T U) → Type 0
IsLaidAt spelling table first port slot None = Unit {0}
IsLaidAt spelling table first port slot (Some message) =
    (slot ≡ Some (first + message.slot)) × Lies spelling table first port message

-- These are the slots of these messages of a publisher, in their order, and the words of each message are in its slot.
pub record AreLaid {T U : Type 0} (spelling : Spelling T U) (table : TableWords) (first : ℕ) (port : PublisherPort T U) (laid : List ℕ)
    (messages : List (Message T U)) : Type 0 where
  pub as_many : length laid ≡ length messages
  pub each : (at : ℕ) → IsLaidAt spelling table first port (slice_get laid at) (slice_get messages at)

-- The publisher's message, if there is one, has this slot, if the publisher's slots begin at `first`.
abbrev pub IsSlotOf : {T U : Type 0} → ℕ → Option ℕ → Option (Message T U) → Type 0
IsSlotOf first slot None = Unit {0}
IsSlotOf first slot (Some message) = slot ≡ Some (first + message.slot)

-- These are the slots of these messages of a publisher, in their order.
pub record AreSlotsOf {T U : Type 0} (first : ℕ) (laid : List ℕ) (messages : List (Message T U)) : Type 0 where
  pub as_many : length laid ≡ length messages
  pub each : (at : ℕ) → IsSlotOf first (slice_get laid at) (slice_get messages at)
