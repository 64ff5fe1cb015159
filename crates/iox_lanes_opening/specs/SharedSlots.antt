-- Messages of a publisher of which two may be in one slot, and slots that are marked while these messages are gone over.
use Rattle.std.specs.Prelude.{ℕ, ◌≡◌, ◌+◌, ◌-◌, ◌<◌, ◌≤◌, ◌&&◌, Bool, true, false, not, nat_lt, List, get_or, map, set, slice_get}
use Rattle.std.specs.Prelude.{if◌then◌else◌, Some}
use Rattle.iox_domain.specs.DomainPorts.Messages.{Message}
use Rattle.iox_domain.specs.DomainPorts.Ports.{connection_of}
use Rattle.iox_domain.specs.DomainPorts.declared.publisher_port.PublisherPort.{PublisherPort}
use Rattle.iox_domain.specs.DomainSlots.Uses.{is_there}
use Rattle.iox_lanes_opening.specs.Soundness.{stands_again}
use Rattle.iox_lanes_opening.specs.declared.refusals.shared_slots.Messages.{Messages}
use Rattle.iox_lanes_opening.specs.declared.refusals.shared_slots.Messages.TheVariants.{Remembered, Waiting}

-- These messages of the publisher.
abbrev pub messages_in : {T U : Type 0} → Messages → PublisherPort T U → List (Message T U)
messages_in Remembered port = port.sender.uses.history
messages_in (Waiting index) port = (connection_of index port).waiting

-- Whether there is a history, as there always is, or the connection in which the messages wait.
abbrev pub are_kept : {T U : Type 0} → Messages → PublisherPort T U → Bool
are_kept Remembered port = true
are_kept (Waiting index) port = is_there (connection_of index port)

-- The slots of the messages.
abbrev pub slots_of : {T U : Type 0} → List (Message T U) → List ℕ
slots_of messages = map (λ message. message.slot) messages

-- How many slots are marked at once.
abbrev pub at_once : ℕ
at_once = 4096

-- Whether the slot is marked, where the first mark is that of the slot `first`; a slot without a mark isn't.
abbrev pub is_marked : ℕ → ℕ → List Bool → Bool
is_marked first slot marks = not (nat_lt slot first) && get_or marks (slot - first) false

-- The marks after the slot was marked; they stay as they are if it has none.
abbrev pub marked : ℕ → ℕ → List Bool → List Bool
marked first slot marks = if nat_lt slot first then marks else set marks (slot - first) true

-- None of the messages that are in a slot below `limit` is in the slot of an earlier one.
abbrev pub AreApartBelow : {T U : Type 0} → ℕ → List (Message T U) → Type 0
AreApartBelow limit messages = (place slot : ℕ) → slice_get (slots_of messages) place ≡ Some slot → slot < limit
    → stands_again messages place ≡ false

-- None of the messages that are in one of the slots from `first` on, as many as are marked at once, is in the slot of an earlier one.
abbrev pub AreApartFrom : {T U : Type 0} → ℕ → List (Message T U) → Type 0
AreApartFrom first messages = (place slot : ℕ) → slice_get (slots_of messages) place ≡ Some slot → first ≤ slot
    → slot < first + at_once → stands_again messages place ≡ false
