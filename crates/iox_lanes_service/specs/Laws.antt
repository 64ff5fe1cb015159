-- A call of lanes that no other call overlaps does what a command does to the machine's service.
use Rattle.std.specs.Prelude.{ℕ, ◌+◌, ◌<◌, ◌≡◌, ◌^◌, Bool, true, false, List, [], ◌∷◌, ◌++◌, length, drop, get_or, slice_get, Option, None}
use Rattle.std.specs.Prelude.{Some}
use Rattle.std.specs.Global.{Vec}
use Rattle.std.specs.Option.{option_map_or}
use Rattle.std.specs.Vec.{vec_items}
use Rattle.iox_command.specs.DomainValues.declared.port_error.LoanError.TheVariants as refused
use Rattle.iox_command.specs.DomainValues.declared.port_error.ReceiveError.TheVariants.{ExceedsMaxBorrows}
use Rattle.iox_command.specs.DomainValues.declared.port_error.SendError.TheVariants as error
use Rattle.iox_command.specs.NegotiateBase.DescribeBase.declared.message_type.MessageTypeDetails.{MessageTypeDetails}
use Rattle.iox_command.specs.declared.command.Command.{Command}
use Rattle.iox_command.specs.declared.command.Command.TheVariants as command
use Rattle.iox_command.specs.declared.refusal.Refusal.TheVariants as refusal
use Rattle.iox_command.specs.declared.reply.Reply.{Reply}
use Rattle.iox_command.specs.declared.reply.Reply.TheVariants as reply
use Rattle.iox_lanes_machine.specs.LanesBase.Table.{TableWords}
use Rattle.iox_lanes_machine.specs.LanesBase.declared.calls.route.Route.{Route}
use Rattle.iox_lanes_machine.specs.LanesBase.declared.calls.subscriber.Receipt.{Receipt}
use Rattle.iox_lanes_machine.specs.LanesBase.declared.calls.subscriber.Receipt.TheVariants as receipt
use Rattle.iox_lanes_machine.specs.LanesParties.Parties.{PublisherLaneState, SubscriberLaneState}
use Rattle.iox_lanes_machine.specs.LanesParties.declared.call.Answer.TheVariants as answer
use Rattle.iox_lanes_machine.specs.LanesParties.declared.call.Call.TheVariants as call
use Rattle.iox_lanes_machine.specs.LanesParties.declared.call.Party.TheVariants.{Publisher, Subscriber}
use Rattle.iox_lanes_machine.specs.LanesParties.declared.call.SendAnswer.{SendAnswer}
use Rattle.iox_lanes_machine.specs.LanesParties.declared.call.SendAnswer.TheVariants as sent
use Rattle.iox_lanes_machine.specs.LanesParties.declared.publisher.slot_book.LoanAnswer.{LoanAnswer}
use Rattle.iox_lanes_machine.specs.LanesParties.declared.publisher.slot_book.LoanAnswer.TheVariants as loan
use Rattle.iox_lanes_machine.specs.Links.{LinkState}
use Rattle.iox_lanes_machine.specs.World.{World}
use Rattle.iox_lanes_laws.specs.Turns.{IsAnswered, IsInTurn}
use Rattle.iox_lanes_laws.specs.Messages.{payload_held}
use Rattle.iox_lanes_service.specs.Naming.{LaneNaming, LaneLoan, LaneSample}
use Rattle.iox_lanes_service.specs.Standing.{LanesStandFor}
use Rattle.iox_machine.specs.Choices.{Choices}
use Rattle.iox_machine.specs.Run.{Step}
use Rattle.iox_machine.specs.Service.{Service}
use Rattle.iox_machine.specs.State.{State, counted}
use Rattle.iox_machine.specs.Table.{at, removed}

-- The place of the publisher of a connection; 0 if there is no connection.
abbrev pub publisher_over : List LinkState → Option Route → ℕ
publisher_over links None = 0
publisher_over links (Some route) = option_map_or (λ (link : LinkState). link.publisher) (slice_get links route.connection) 0

-- The samples; if a receive took one, it is appended under this number.
abbrev pub with_received : ℕ → ℕ → List LinkState → SubscriberLaneState → Receipt → List (ℕ × LaneSample) → List (ℕ × LaneSample)
with_received sample subscriber links lane (receipt.Taken place slot) held = held
    ++ (sample, record { publisher = publisher_over links (slice_get lane.port.routes place); subscriber = subscriber; slot = slot }) ∷ []
with_received sample subscriber links lane receipt.Nothing held = held
with_received sample subscriber links lane receipt.ExceedsMaxBorrows held = held

-- The reply to a receive; if it took a sample, the sample gets this number and these values.
abbrev pub received_as : {T : Type 0} → ℕ → Vec T → Receipt → Reply T
received_as sample values (receipt.Taken place slot) = reply.Received sample values
received_as sample values receipt.Nothing = reply.NothingWaits
received_as sample values receipt.ExceedsMaxBorrows = reply.Refused (refusal.Receive ExceedsMaxBorrows)

-- If a receive took a slot, these values are the one value of that slot.
abbrev pub AreTaken : {T : Type 0} → (List ℕ → T) → TableWords → Receipt → Vec T → Type 0
AreTaken value table (receipt.Taken place slot) values = vec_items values ≡ value (payload_held table slot) ∷ []
AreTaken value table receipt.Nothing values = Unit {0}
AreTaken value table receipt.ExceedsMaxBorrows values = Unit {0}

-- The loans; if one was made, it is appended under this number.
abbrev pub with_lent_slot : ℕ → ℕ → LoanAnswer → List (ℕ × LaneLoan) → List (ℕ × LaneLoan)
with_lent_slot number publisher (loan.Slot slot) lent = lent ++ (number, record { publisher = publisher; slot = slot }) ∷ []
with_lent_slot number publisher loan.ExceedsMaxLoans lent = lent
with_lent_slot number publisher loan.OutOfMemory lent = lent

-- The reply to a loan that gets this number, or the error.
abbrev pub loan_replied : {T : Type 0} → ℕ → LoanAnswer → Reply T
loan_replied number (loan.Slot slot) = reply.LoanMade number
loan_replied number loan.ExceedsMaxLoans = reply.Refused (refusal.Loan refused.ExceedsMaxLoans)
loan_replied number loan.OutOfMemory = reply.Refused (refusal.Loan refused.OutOfMemory)

-- The reply to a send: how many mailboxes took the message, or that it was unable to deliver.
abbrev pub send_replied : {T : Type 0} → SendAnswer → Reply T
send_replied (sent.Delivered delivery) = reply.Delivered delivery.taken
send_replied (sent.UnableToDeliver delivery) = reply.Refused (refusal.Send error.UnableToDeliver)

-- The words of the payload among those that a read returned, after header and user header.
abbrev pub payload_read : World → World → List ℕ
payload_read m n = drop (3 + m.table.sizes.user_header_words) (drop (length m.read) n.read)

-- The sequence number of a message among the words that a read returned: the fourth one, if messages have sequence numbers.
abbrev pub sequence_read : Bool → World → World → Option ℕ
sequence_read true m n = Some (get_or (drop (length m.read) n.read) 3 0)
sequence_read false m n = None

-- The machine has these message types, and these choices that others may make; its messages have one value, which is read from words.
module _ {T : Type 0} (choices : Choices T) (value : List ℕ → T) (types : MessageTypeDetails) (buffer : ℕ) where
  -- A machine that has only this service may give this reply to the command, and has a service afterwards that these lanes represent.
  abbrev pub IsLaneStep : Command T → Reply T → State T → Service T → LaneNaming → List (ℕ × LaneLoan) → List (ℕ × LaneSample) → World
      → Type 0
  IsLaneStep asked answered state service names lent held n =
      (after : Service T)
      × Step types choices buffer asked (record state { services = service ∷ [] }) answered
      (record state { made = counted answered state.made; services = after ∷ [] })
      × LanesStandFor choices value names lent held n after

  -- A receive of the lanes is a receive of the machine's subscriber. The sample that it takes gets the next number, which no sample has
  -- yet.
  abbrev pub ReceivesAreSteps : Type 0
  ReceivesAreSteps = (names : LaneNaming) (lent : List (ℕ × LaneLoan)) (held : List (ℕ × LaneSample)) (m n : World) (service : Service T)
      (state : State T) (place : ℕ) (before : SubscriberLaneState)
      → LanesStandFor choices value names lent held m service → IsInTurn m (Subscriber place) call.Receive n
      → slice_get m.subscribers place ≡ Some before → at (state.made.samples + 1) held ≡ None
      → (given : Receipt) × IsAnswered m (Subscriber place) call.Receive (answer.Received given) n
      × ((values : Vec T) → AreTaken value m.table given values
      → IsLaneStep (command.Receive (names.subscriber place)) (received_as (state.made.samples + 1) values given) state service names lent
      (with_received (state.made.samples + 1) place m.links before given held) n)

  -- A read of the lanes is a read of the sample with this number, and the value of the words that it returns is the one that the machine
  -- answers.
  abbrev pub ReadsAreSteps : Type 0
  ReadsAreSteps = (names : LaneNaming) (lent : List (ℕ × LaneLoan)) (held : List (ℕ × LaneSample)) (m n : World) (service : Service T)
      (state : State T) (sample : ℕ) (one : LaneSample)
      → LanesStandFor choices value names lent held m service → at sample held ≡ Some one
      → IsInTurn m (Subscriber one.subscriber) (call.Read one.slot) n
      → IsAnswered m (Subscriber one.subscriber) (call.Read one.slot) (answer.Read (length m.read)) n
      × ((values : Vec T) → vec_items values ≡ value (payload_read m n) ∷ []
      → IsLaneStep (command.Read sample) (reply.Values values) state service names lent held n)

  -- A read of the lanes also matches the command that reports the sequence number: the read returns the number that the send gave the
  -- message.
  abbrev pub NumbersAreTold : Type 0
  NumbersAreTold = (names : LaneNaming) (lent : List (ℕ × LaneLoan)) (held : List (ℕ × LaneSample)) (m n : World) (service : Service T)
      (state : State T) (sample : ℕ) (one : LaneSample)
      → LanesStandFor choices value names lent held m service → at sample held ≡ Some one
      → IsInTurn m (Subscriber one.subscriber) (call.Read one.slot) n
      → IsLaneStep (command.Sequence sample) (reply.Sequence (sequence_read names.numbered m n)) state service names lent held n

  -- A release of the lanes is a release of the sample with this number, and afterwards no sample has this number.
  abbrev pub ReleasesAreSteps : Type 0
  ReleasesAreSteps = (names : LaneNaming) (lent : List (ℕ × LaneLoan)) (held : List (ℕ × LaneSample)) (m n : World) (service : Service T)
      (state : State T) (sample : ℕ) (one : LaneSample)
      → LanesStandFor choices value names lent held m service → at sample held ≡ Some one
      → IsInTurn m (Subscriber one.subscriber) (call.Release one.slot) n
      → IsAnswered m (Subscriber one.subscriber) (call.Release one.slot) (answer.Released true) n
      × IsLaneStep (command.Release sample) reply.Done state service names lent (removed sample held) n

  -- A loan of the lanes is a loan of a single value that is unwritten. It gets the next number, which no loan has yet, and its message gets
  -- the publisher's next number. Messages in other slots keep their numbers. The numbers of the publisher's slots are less than 2^64.
  abbrev pub LoansAreSteps : Type 0
  LoansAreSteps = (names : LaneNaming) (lent : List (ℕ × LaneLoan)) (held : List (ℕ × LaneSample)) (m n : World) (service : Service T)
      (state : State T) (place : ℕ) (before : PublisherLaneState)
      → LanesStandFor choices value names lent held m service → IsInTurn m (Publisher place) call.LoanUninit n
      → slice_get m.publishers place ≡ Some before → before.port.book.first + length before.port.book.loans < 2 ^ 64
      → at (state.made.loans + 1) lent ≡ None
      → (given : LoanAnswer) × IsAnswered m (Publisher place) call.LoanUninit (answer.Lent given) n
      × ((message : ℕ → ℕ) × ((slot : ℕ) → (given ≡ loan.Slot slot → ⊥) → message slot ≡ names.message slot)
      × IsLaneStep (command.LoanUninit (names.publisher place) 1) (loan_replied (state.made.loans + 1) given) state
      service
      (record names { message = message }) (with_lent_slot (state.made.loans + 1) place given lent) held n)

  -- The dropping of a loan of the lanes is that of the loan with this number, and afterwards no loan has this number.
  abbrev pub DropsAreSteps : Type 0
  DropsAreSteps = (names : LaneNaming) (lent : List (ℕ × LaneLoan)) (held : List (ℕ × LaneSample)) (m n : World) (service : Service T)
      (state : State T) (number : ℕ) (one : LaneLoan)
      → LanesStandFor choices value names lent held m service → at number lent ≡ Some one
      → IsInTurn m (Publisher one.publisher) (call.DropLoan one.slot) n
      → IsAnswered m (Publisher one.publisher) (call.DropLoan one.slot) answer.Dropped n
      × IsLaneStep (command.Drop number) reply.Done state service names (removed number lent) held n

  -- A write of the lanes fills the loan with this number with the value of its words.
  abbrev pub WritesAreSteps : Type 0
  WritesAreSteps = (names : LaneNaming) (lent : List (ℕ × LaneLoan)) (held : List (ℕ × LaneSample)) (m n : World) (service : Service T)
      (state : State T) (number : ℕ) (one : LaneLoan) (payload user_header : Vec ℕ)
      → LanesStandFor choices value names lent held m service → at number lent ≡ Some one
      → IsInTurn m (Publisher one.publisher) (call.Write one.slot payload user_header) n
      → IsAnswered m (Publisher one.publisher) (call.Write one.slot payload user_header) answer.Written n
      × IsLaneStep (command.Fill number (value payload.items ∷ [])) reply.Done state service names lent held n

  -- A send of the lanes is a send of the loan with this number, and afterwards no loan has this number. The machine's publisher finds
  -- nothing new in the list of subscribers, and skips each full mailbox as the lane does.
  abbrev pub SendsAreSteps : Type 0
  SendsAreSteps = (names : LaneNaming) (lent : List (ℕ × LaneLoan)) (held : List (ℕ × LaneSample)) (m n : World) (service : Service T)
      (state : State T) (number : ℕ) (one : LaneLoan)
      → LanesStandFor choices value names lent held m service → at number lent ≡ Some one
      → IsInTurn m (Publisher one.publisher) (call.Send one.slot) n
      → (given : SendAnswer) × IsAnswered m (Publisher one.publisher) (call.Send one.slot) (answer.Sent given) n
      × IsLaneStep (command.Send number) (send_replied given) state service names (removed number lent) held n
