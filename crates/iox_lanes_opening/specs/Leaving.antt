-- The messages whose words lie in slots.
use Rattle.std.specs.Prelude.{ℕ, ◌+◌, List, [], ◌∷◌, take, drop, Option}
use Rattle.iox_domain_ports.specs.Messages.{Message}
use Rattle.iox_lanes_machine.specs.LanesBase.Numbers.{number_of}
use Rattle.iox_lanes_machine.specs.LanesBase.Table.{TableWords, held_by}
use Rattle.iox_lanes_machine.specs.LanesBase.declared.words.word.SharedWord.TheVariants.{Slot}
use Rattle.iox_lanes_machine.specs.LanesBase.declared.words.word.SlotWord.TheVariants.{Header, UserHeader, Payload}

-- The number of elements in the header of a slot.
abbrev pub elements_in : TableWords → ℕ → ℕ
elements_in table slot = held_by table (Slot slot (Header 2))

-- The words between the header and the payload in a slot.
abbrev pub user_header_in : TableWords → ℕ → List ℕ
user_header_in table slot = take table.sizes.user_header_words (drop (number_of table.sizes (Slot slot (UserHeader 0))) table.words)

-- The words of the payload in a slot.
abbrev pub payload_in : TableWords → ℕ → List ℕ
payload_in table slot = take table.sizes.payload_words (drop (number_of table.sizes (Slot slot (Payload 0))) table.words)

-- The message that lies in slot `first + slot` of the lanes, as one in the slot `slot` of a publisher. The words between header and payload
-- are its sequence number, if it has one, and its user header.
abbrev pub message_in : {T U : Type 0} → (List ℕ → T) → (List ℕ → Option ℕ × U) → TableWords → ℕ → ℕ → Message T U
message_in value_of header_of table first slot = record {
  slot = slot;
  sequence = (header_of (user_header_in table (first + slot))).0;
  elements = elements_in table (first + slot);
  user_header = (header_of (user_header_in table (first + slot))).1;
  values = value_of (payload_in table (first + slot)) ∷ [];
}
