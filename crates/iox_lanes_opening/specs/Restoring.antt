-- A publisher of a domain that gets the messages that lanes leave.
use Rattle.std.specs.Prelude.{ℕ, ◌≡◌, ◌+◌, ◌-◌, ◌<◌, ◌≤◌, List, [], length, map, slice_get, Option, None, Some}
use Rattle.std.specs.List.{All}
use Rattle.iox_domain_ports.specs.DomainSlots.Uses.{Uses, connection_at, with_connection}
use Rattle.iox_domain_ports.specs.DomainSlots.declared.stage.Stage.TheVariants as stage
use Rattle.iox_domain_ports.specs.Messages.{Message, Loan}
use Rattle.iox_domain_ports.specs.MessagesSending.{SenderState, with_uses}
use Rattle.iox_lanes_machine.specs.LanesBase.Numbers.{words_of}
use Rattle.iox_lanes_machine.specs.LanesBase.Table.{TableWords}
use Rattle.iox_lanes_machine.specs.Resting.{Rests, mail_at}
use Rattle.iox_lanes_machine.specs.World.{World}
use Rattle.iox_lanes_opening.specs.Leaving.{message_in}

-- The table has all its words, and its payloads and user headers have these numbers of words.
pub record IsWhole (payload_words header_words : ℕ) (table : TableWords) : Type 0 where
  pub full : length table.words ≡ words_of table.sizes
  pub payload : table.sizes.payload_words ≡ payload_words
  pub user_header : table.sizes.user_header_words ≡ header_words

-- The message is the one that lies in its slot in the lanes.
abbrev pub IsLeft : {T U : Type 0} → (List ℕ → T) → (List ℕ → Option ℕ × U) → TableWords → ℕ → Message T U → Type 0
IsLeft value_of header_of table first message = message ≡ message_in value_of header_of table first message.slot

-- Each message of the history and of the connections is the one that lies in its slot in the lanes.
pub record AreLeft {T U : Type 0} (value_of : List ℕ → T) (header_of : List ℕ
    → Option ℕ × U) (table : TableWords) (first : ℕ) (uses : Uses (Loan T U) (Message T U)) : Type 0 where
  pub history : All (IsLeft value_of header_of table first) uses.history
  pub connections : All (λ connection. All (IsLeft value_of header_of table first) connection.waiting
      × All (IsLeft value_of header_of table first) connection.borrowed) uses.connections

-- A publisher has no send in progress and no loan, and has capacity for a value in each slot.
pub record IsQuiet {T U : Type 0} (sender : SenderState T U) : Type 0 where
  pub idle : sender.uses.sending ≡ None
  pub unlent : sender.uses.loans ≡ []
  pub room : 1 ≤ sender.room

-- The slot of the lanes is in the current segment of a publisher whose slots begin at `first` in the lanes.
pub record IsOwn {L X : Type 0} (first slot slots : ℕ) (uses : Uses L X) : Type 0 where
  pub from : first ≤ slot
  pub there : slot < slots
  pub behind : uses.first ≤ slot - first
  pub within : slot - first < uses.first + uses.size

-- Only the mailbox of the connection with this index has changed.
abbrev pub OnlyWaits : {T U : Type 0} → ℕ → SenderState T U → SenderState T U → Type 0
OnlyWaits index old new =
    new ≡ with_uses (with_connection index (record (connection_at index old.uses) { waiting = (connection_at index new.uses).waiting })
    old.uses) old

-- Only the history has changed.
abbrev pub OnlyRemembers : {T U : Type 0} → SenderState T U → SenderState T U → Type 0
OnlyRemembers old new = new ≡ with_uses (record old.uses { history = new.uses.history }) old

-- The messages that lie in these slots of the lanes.
abbrev pub messages_in : {T U : Type 0} → (List ℕ → T) → (List ℕ → Option ℕ × U) → TableWords → ℕ → List ℕ → List (Message T U)
messages_in value_of header_of table first slots = map (λ slot. message_in value_of header_of table first (slot - first)) slots

-- All messages that wait at a connection of the lanes may wait at the publisher's connection with this index: the ports of the lanes'
-- connection are between calls, and at most 2^63 steps were made; the messages are in slots of the publisher's current segment; the
-- publisher's connection is live; and its mailbox has capacity for all of them.
pub record MayWaitAll {T U : Type 0} (lanes : World) (connection first index : ℕ) (sender : SenderState T U) : Type 0 where
  pub rests : Rests lanes connection
  pub own : (at slot : ℕ) → slice_get (mail_at lanes connection) at ≡ Some slot → IsOwn first slot lanes.table.sizes.slots sender.uses
  pub live : (connection_at index sender.uses).stage ≡ stage.Live
  pub room : length (mail_at lanes connection) ≤ (connection_at index sender.uses).limit

-- The slots are in the publisher's current segment, and there are no more of them than its history size.
pub record MayRememberAll {T U : Type 0} (table : TableWords) (history : List ℕ) (first : ℕ) (sender : SenderState T U) : Type 0 where
  pub own : (at slot : ℕ) → slice_get history at ≡ Some slot → IsOwn first slot table.sizes.slots sender.uses
  pub room : length history ≤ sender.uses.kept

-- A publisher may send a single value again in this slot: no send is in progress, there is no loan, the slot is in the current segment, and
-- it has capacity for a value.
pub record MayStand {T U : Type 0} (slot : ℕ) (sender : SenderState T U) : Type 0 where
  pub idle : sender.uses.sending ≡ None
  pub unlent : sender.uses.loans ≡ []
  pub first : sender.uses.first ≤ slot
  pub within : slot < sender.uses.first + sender.uses.size
  pub room : 1 ≤ sender.room

-- A message that lies in a slot of the lanes may be sent again in the publisher's slot `slot`, with `places` places for its values: the
-- table has all its words, there is a place for a value, the publisher may send in the slot, and all messages that it has are those that
-- lie in the lanes.
pub record MayBeSent {T U : Type 0} (value_of : List ℕ → T) (header_of : List ℕ
    → Option ℕ × U) (payload_words header_words : ℕ) (table : TableWords) (first slot places : ℕ) (sender : SenderState T U) : Type 0 where
  pub room : 0 < places
  pub whole : IsWhole payload_words header_words table
  pub there : first + slot < table.sizes.slots
  pub stands : MayStand slot sender
  pub left : AreLeft value_of header_of table first sender.uses

-- A publisher may get the messages that lanes leave, one by one, with `places` places for a value: it has no send in progress and no loan,
-- and all messages that it has are those that lie in the lanes.
pub record MayCome {T U : Type 0} (value_of : List ℕ → T) (header_of : List ℕ
    → Option ℕ × U) (payload_words header_words : ℕ) (table : TableWords) (first places : ℕ) (sender : SenderState T U) : Type 0 where
  pub room : 0 < places
  pub whole : IsWhole payload_words header_words table
  pub quiet : IsQuiet sender
  pub left : AreLeft value_of header_of table first sender.uses
