-- The messages that are sent on lanes: what each is when its send begins.
use Rattle.std.specs.Prelude.{ℕ, ◌==◌, if◌then◌else◌, List, [], ◌∷◌, ◌++◌, slice_get, Option, Some, None}
use Rattle.iox_lanes_machine.specs.LanesBase.Table.{TableWords, held_by}
use Rattle.iox_lanes_machine.specs.LanesBase.declared.words.word.SharedWord.TheVariants.{Slot}
use Rattle.iox_lanes_machine.specs.LanesBase.declared.words.word.SlotWord.TheVariants.{Payload}
use Rattle.iox_lanes_machine.specs.LanesParties.Parties.{PublisherLaneState, head_of}
use Rattle.iox_lanes_machine.specs.LanesParties.declared.call.Call.{Call}
use Rattle.iox_lanes_machine.specs.LanesParties.declared.call.Call.TheVariants as call
use Rattle.iox_lanes_machine.specs.LanesParties.declared.call.Move.{Move}
use Rattle.iox_lanes_machine.specs.LanesParties.declared.call.Move.TheVariants.{Begin, GoOn}
use Rattle.iox_lanes_machine.specs.LanesParties.declared.call.Party.{Party}
use Rattle.iox_lanes_machine.specs.LanesParties.declared.call.Party.TheVariants.{Publisher, Subscriber}
use Rattle.iox_lanes_machine.specs.Made.{listed}
use Rattle.iox_lanes_machine.specs.World.{World}

-- A message: its publisher, its slot, the moment at which its send begins, and the words of its header, its user header and its payload, as
-- they are then.
pub record MessageState : Type 0 where
  pub publisher : ℕ
  pub slot : ℕ
  pub moment : ℕ
  pub words : List ℕ

-- The words of the payload that a slot contains.
abbrev pub payload_held : TableWords → ℕ → List ℕ
payload_held table slot = listed (λ word. held_by table (Slot slot (Payload word))) table.sizes.payload_words

-- The message that a loan becomes when its send begins at this moment: the header and the user header that are kept for it, and the payload
-- that its slot contains.
abbrev pub message_of : TableWords → ℕ → ℕ → ℕ → PublisherLaneState → MessageState
message_of table moment publisher loan lane
    = record { publisher = publisher; slot = loan; moment = moment; words = head_of loan lane ++ payload_held table loan }

-- What a publisher begins to send by a call: one message if the call is a send, otherwise none.
abbrev pub sent_by : World → ℕ → Call → Option PublisherLaneState → List MessageState
sent_by m publisher c None = []
sent_by m publisher call.LoanUninit (Some lane) = []
sent_by m publisher (call.Write loan payload user_header) (Some lane) = []
sent_by m publisher (call.Send loan) (Some lane) = message_of m.table m.moments publisher loan lane ∷ []
sent_by m publisher (call.DropLoan loan) (Some lane) = []
sent_by m publisher call.Receive (Some lane) = []
sent_by m publisher (call.Read sample) (Some lane) = []
sent_by m publisher (call.Release sample) (Some lane) = []

-- What a party begins to send by a move.
abbrev pub begun_messages : World → Party → Move → List MessageState
begun_messages m (Publisher place) (Begin c) = sent_by m place c (slice_get m.publishers place)
begun_messages m (Publisher place) GoOn = []
begun_messages m (Subscriber place) step = []

-- The words of the last of these messages that is in this slot; if none is, the words that the slot had before.
abbrev pub last_in : List ℕ → List MessageState → ℕ → List ℕ
last_in before [] slot = before
last_in before (message ∷ messages) slot = last_in (if message.slot == slot then message.words else before) messages slot
