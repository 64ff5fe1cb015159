-- The record of lanes whose calls don't overlap, and how it relates to the lanes.
use Rattle.std.specs.Prelude.{Option, None, Some, Result, Ok, Err, ⊤}
use Rattle.std.specs.Prelude.{ℕ, ◌+◌, ◌*◌, ◌≡◌, ◌<◌, ◌≤◌, ◌^◌, zero, suc, true, false, List, [], ◌∷◌, ◌++◌, length, slice_get, is_some}
use Rattle.std.specs.Global.{Vec}
use Rattle.iox_command.specs.DomainValues.declared.port_error.LoanError.{LoanError}
use Rattle.iox_command.specs.DomainValues.declared.port_error.LoanError.TheVariants as refused
use Rattle.iox_command.specs.DomainValues.declared.port_error.ReceiveError.{ReceiveError}
use Rattle.iox_command.specs.DomainValues.declared.port_error.ReceiveError.TheVariants.{ExceedsMaxBorrows}
use Rattle.iox_command.specs.DomainValues.declared.port_error.SendError.{SendError}
use Rattle.iox_command.specs.DomainValues.declared.port_error.SendError.TheVariants as error
use Rattle.iox_command.specs.declared.command.Command.{Command}
use Rattle.iox_command.specs.declared.command.Command.TheVariants as command
use Rattle.iox_command.specs.declared.refusal.Refusal.TheVariants as refusal
use Rattle.iox_command.specs.declared.reply.Reply.{Reply}
use Rattle.iox_command.specs.declared.reply.Reply.TheVariants as reply
use Rattle.iox_command.specs.NegotiateBase.DescribeBase.declared.message_type.MessageTypeDetails.{MessageTypeDetails}
use Rattle.iox_lanes_machine.specs.LanesBase.declared.calls.route.Route.{Route}
use Rattle.iox_lanes_machine.specs.LanesBase.declared.calls.subscriber.Receipt.{Receipt}
use Rattle.iox_lanes_machine.specs.LanesBase.declared.calls.subscriber.Receipt.TheVariants as receipt
use Rattle.iox_lanes_machine.specs.LanesParties.Parties.{PublisherLaneState, SubscriberLaneState}
use Rattle.iox_lanes_machine.specs.LanesParties.declared.call.Answer.{Answer}
use Rattle.iox_lanes_machine.specs.LanesParties.declared.call.Call.{Call}
use Rattle.iox_lanes_machine.specs.LanesParties.declared.call.FinishedCall.{FinishedCall}
use Rattle.iox_lanes_machine.specs.LanesParties.declared.call.Move.TheVariants.{Begin, GoOn}
use Rattle.iox_lanes_machine.specs.LanesParties.declared.call.Party.{Party}
use Rattle.iox_lanes_machine.specs.LanesParties.declared.call.SendAnswer.{SendAnswer}
use Rattle.iox_lanes_machine.specs.LanesParties.declared.call.SendAnswer.TheVariants as sent
use Rattle.iox_lanes_machine.specs.LanesParties.declared.publisher.slot_book.LoanAnswer.{LoanAnswer}
use Rattle.iox_lanes_machine.specs.LanesParties.declared.publisher.slot_book.LoanAnswer.TheVariants as loan
use Rattle.iox_lanes_machine.specs.Made.{table_sizes}
use Rattle.iox_lanes_machine.specs.Resting.{AllBetween}
use Rattle.iox_lanes_machine.specs.WholeReads.{CameTo}
use Rattle.iox_lanes_machine.specs.QueuesSteps.declared.schedule.Stepped.TheVariants as stepped
use Rattle.iox_lanes_machine.specs.World.{World, StepsTo, fits}
use Rattle.iox_lanes_machine.specs.declared.sizes.LaneSizes.{LaneSizes}
use Rattle.iox_lanes_laws.specs.Turns.{GoesToEnd, IsInTurn}
use Rattle.iox_lanes_service.specs.declared.turn.Turn.{Turn}
use Rattle.iox_lanes_service.specs.declared.turn.Turn.TheVariants as turn
use Rattle.iox_lanes_service.specs.InTurn.{BeginsTurns, Turns, most_steps, turned}
use Rattle.iox_lanes_service.specs.declared.in_turn.RanOut.{RanOut}
use Rattle.iox_lanes_service.specs.declared.in_turn.RanOut.TheVariants as out
use Rattle.iox_lanes_service.specs.declared.in_turn.TurnLoan.{TurnLoan}
use Rattle.iox_lanes_service.specs.declared.in_turn.TurnSample.{TurnSample}
use Rattle.iox_lanes_service.specs.declared.number.TurnNumber.{TurnNumber}
use Rattle.iox_lanes_service.specs.Naming.{LaneNaming, LaneLoan, LaneSample, has_written}
use Rattle.iox_lanes_service.specs.Standing.{LanesStandFor}
use Rattle.iox_lanes_service.specs.TurnLaws.{AreMade}
use Rattle.iox_machine.specs.Choices.{Choices, as_named}
use Rattle.iox_machine.specs.Run.{Runs}
use Rattle.iox_machine.specs.Service.{Service}
use Rattle.iox_machine.specs.State.{State}
use Rattle.iox_machine.specs.Table.{contains, removed}

-- The record after a publisher loaned this slot, as the next loan.
abbrev pub slot_lent : ℕ → ℕ → Turns → Turns
slot_lent place slot turns = record (turned (command.LoanUninit (suc place) 1) (reply.LoanMade (turns.loans + 1)) turns) {
  loans = turns.loans + 1;
  lent = turns.lent ++ (turns.loans + 1, record { publisher = place; slot = slot }) ∷ [];
}

-- The record after a loan was written with this payload.
abbrev pub loan_written : ℕ → List ℕ → Turns → Turns
loan_written number payload turns = record (turned (command.Fill number (payload ∷ [])) reply.Done turns) {
  written = number ∷ turns.written;
}

-- The record after a loan was sent or dropped; it has no number any longer.
abbrev pub loan_spent : ℕ → Command (List ℕ) → Reply (List ℕ) → Turns → Turns
loan_spent number asked answer turns = record (turned asked answer turns) { lent = removed number turns.lent }

-- The record after a subscriber received this slot of a publisher, with these values, as the next sample.
abbrev pub sample_taken : ℕ → ℕ → ℕ → Vec (List ℕ) → Turns → Turns
sample_taken publisher subscriber slot values turns =
    record (turned (command.Receive (suc subscriber)) (reply.Received (turns.samples + 1) values) turns) {
      samples = turns.samples + 1;
      held = turns.held
          ++ (turns.samples + 1, record { publisher = publisher; subscriber = subscriber; slot = slot }) ∷ [];
    }

-- What a command named for a port is chosen for it.
abbrev pub turn_choices : Choices (List ℕ)
turn_choices = as_named (λ words. ⊤)

-- The number of a publisher and of a subscriber is its place plus one; messages have no sequence numbers.
abbrev pub turn_names : LaneNaming
turn_names = record { publisher = λ place. suc place; subscriber = λ place. suc place; message = λ slot. 0; numbered = false }

-- The party makes this many steps, none of which ends its call.
abbrev pub GoesThrough : Party → ℕ → World → World → Type 0
GoesThrough party zero m n = n ≡ m
GoesThrough party (suc more) m n = (next : World) × StepsTo m party GoOn stepped.Went next × GoesThrough party more next n

-- The lanes where the call that a party was in stopped: its next step found no memory for what it records; or it made 2^62 steps or more
-- and isn't over; or it is over, and more than 2^63 steps were made in all.
abbrev pub StoppedBy : Party → World → RanOut → World → Type 0
StoppedBy party m out.Memory n = (made : ℕ) × GoesThrough party made m n × StepsTo n party GoOn stepped.NoMemory n
StoppedBy party m (out.Steps made) n = (2 ^ 62 ≤ made) × GoesThrough party made m n
StoppedBy party m (out.Moments made) n = (2 ^ 63 < made) × (n.moments ≡ made) × ((more : ℕ) × GoesToEnd party more m n)

-- A call began and stopped, since memory or steps ran out.
pub record StopsWithin (m : World) (party : Party) (asking : Call) (why : RanOut) (n : World) : Type 0 where
  pub begun : World
  pub begins : StepsTo m party (Begin asking) stepped.Went begun
  pub stopped : StoppedBy party begun why n

-- Some call stopped for this reason and left these lanes.
abbrev pub HasStopped : RanOut → World → Type 0
HasStopped why n = (m : World) × (party : Party) × (asking : Call) × StopsWithin m party asking why n

-- A call that no other one overlapped was made, with this answer.
pub record TurnEnds (m : World) (party : Party) (asking : Call) (given : Answer) (n : World) : Type 0 where
  pub in_turn : IsInTurn m party asking n
  pub call : FinishedCall
  pub ended : slice_get n.finished (length m.finished) ≡ Some call
  pub answered : call.answer ≡ given

-- How a whole call came out: it doesn't fit, and nothing changed; it stopped, since memory or steps ran out; or it ended.
abbrev pub TakesTurn : World → Party → Call → Turn → World → Type 0
TakesTurn m party asking turn.NotBegun n = (fits m party (Begin asking) ≡ false) × (n ≡ m)
TakesTurn m party asking (turn.Stuck why) n = StopsWithin m party asking why n
TakesTurn m party asking (turn.Ended given) n = TurnEnds m party asking given n

-- The names of ports and the numbers of loans and samples, with these numbers of messages.
abbrev pub named_so : (ℕ → ℕ) → LaneNaming
named_so message = record turn_names { message = message }

-- The lanes represent the one service that the machine has, under the numbers of the record.
pub record TurnsStand (turns : Turns) (m : World) (state : State (List ℕ)) : Type 0 where
  pub service : Service (List ℕ)
  pub alone : state.services ≡ service ∷ []
  pub message : ℕ → ℕ
  pub stands : LanesStandFor turn_choices (λ words. words) (named_so message) turns.lent turns.held m service
  pub made : AreMade (record { names = named_so message; lent = turns.lent; held = turns.held }) state.made
  pub loans : state.made.loans ≡ turns.loans
  pub samples : state.made.samples ≡ turns.samples

-- Lanes of these sizes go on from here: they came here by steps, nobody is inside a call, each publisher has a connection to each
-- subscriber, and the numbers of slots are less than 2^64.
pub record TurnsGoOn (sizes : LaneSizes) (m : World) : Type 0 where
  pub came : CameTo m
  pub between : AllBetween m
  pub publishers : length m.publishers ≡ sizes.publishers
  pub subscribers : length m.subscribers ≡ sizes.subscribers
  pub sending : (place : ℕ) (lane : PublisherLaneState) → slice_get m.publishers place ≡ Some lane
      → length lane.port.routes ≡ sizes.subscribers
  pub receiving : (place : ℕ) (lane : SubscriberLaneState) → slice_get m.subscribers place ≡ Some lane
      → length lane.port.routes ≡ sizes.publishers
  pub table : m.table.sizes ≡ table_sizes sizes
  pub small : m.table.sizes.slots < 2 ^ 64

-- No number of a loan or a sample is larger than the count of those that were made.
pub record NumbersLow (turns : Turns) : Type 0 where
  pub loans : (index : ℕ) (entry : ℕ × LaneLoan) → slice_get turns.lent index ≡ Some entry → entry.0 ≤ turns.loans
  pub samples : (index : ℕ) (entry : ℕ × LaneSample) → slice_get turns.held index ≡ Some entry → entry.0 ≤ turns.samples

-- A loan of the record that was written is written as long as it has its number, and only loans that were made were written.
pub record AreWritten (turns : Turns) (m : World) : Type 0 where
  pub each : (index : ℕ) (entry : ℕ × LaneLoan) → slice_get turns.lent index ≡ Some entry → contains turns.written entry.0 ≡ true
      → has_written entry.1.slot (slice_get m.publishers entry.1.publisher) ≡ true
  pub low : (number : ℕ) → contains turns.written number ≡ true → number ≤ turns.loans

-- What was asked and answered is a run of the machine. As long as no call got stuck, the lanes represent what the machine has after that
-- run, and no more steps were made than the calls may make. The record says whether a call got stuck, and what ran out.
pub record AreTurns (ran_out : Option RanOut) (turns : Turns) (m : World) : Type 0 where
  pub told : turns.stuck ≡ is_some ran_out
  pub why : turns.ran_out ≡ ran_out
  pub stopped : (reason : RanOut) → ran_out ≡ Some reason → HasStopped reason m
  pub runs : (types : MessageTypeDetails) (buffer : ℕ) (state : State (List ℕ)) → BeginsTurns turns.sizes state
      → (after : State (List ℕ)) × Runs types turn_choices buffer turns.asked state turns.answers after
      × (ran_out ≡ None → TurnsStand turns m after)
  pub goes : ran_out ≡ None → TurnsGoOn turns.sizes m
  pub low : NumbersLow turns
  pub written : ran_out ≡ None → AreWritten turns m
  pub moved : ran_out ≡ None → most_steps turns.sizes < 2 ^ 61 → m.moments ≤ length turns.asked * most_steps turns.sizes

-- The loan of the publisher at this place with this number, or the error.
abbrev pub lent_as : ℕ → LoanAnswer → TurnNumber → Result TurnLoan LoanError
lent_as place (loan.Slot slot) number = Ok (record { publisher = place; slot = slot; number = number })
lent_as place loan.ExceedsMaxLoans number = Err refused.ExceedsMaxLoans
lent_as place loan.OutOfMemory number = Err refused.OutOfMemory

-- The record after a publisher was asked for a loan, and this was its answer.
abbrev pub loaned : ℕ → LoanAnswer → Turns → Turns
loaned place (loan.Slot slot) turns = slot_lent place slot turns
loaned place loan.ExceedsMaxLoans turns =
    turned (command.LoanUninit (suc place) 1) (reply.Refused (refusal.Loan refused.ExceedsMaxLoans)) turns
loaned place loan.OutOfMemory turns =
    turned (command.LoanUninit (suc place) 1) (reply.Refused (refusal.Loan refused.OutOfMemory)) turns

-- The result of a send: how many mailboxes took the message, or that it was unable to deliver.
abbrev pub sent_as : SendAnswer → Result ℕ SendError
sent_as (sent.Delivered delivery) = Ok delivery.taken
sent_as (sent.UnableToDeliver delivery) = Err error.UnableToDeliver

-- The sample that the subscriber at this place received, with this number; none if it received nothing; or the error.
abbrev pub taken_as : ℕ → Receipt → TurnNumber → Result (Option TurnSample) ReceiveError
taken_as place (receipt.Taken at slot) number = Ok (Some (record { subscriber = place; slot = slot; number = number }))
taken_as place receipt.Nothing number = Ok None
taken_as place receipt.ExceedsMaxBorrows number = Err ExceedsMaxBorrows

-- The route of a subscriber at this place, if there is a subscriber.
abbrev pub lane_route : ℕ → Option SubscriberLaneState → Option Route
lane_route at None = None
lane_route at (Some lane) = slice_get lane.port.routes at
