-- What the calls of ports do that know the types of their service.
use Rattle.std.specs.Prelude.{◌≡◌, Bool, false, not, if◌then◌else◌, Option, None, Some}
use Rattle.iox_lanes_base.specs.Publishing.{publisher_is_idle}
use Rattle.iox_lanes_parties.specs.PublisherKeeping.{loan_of}
use Rattle.iox_lanes_parties.specs.Parties.{is_out, is_written}
use Rattle.iox_lanes_parties.specs.declared.publisher.slot_book.LoanAnswer.{LoanAnswer}
use Rattle.iox_lanes_parties.specs.declared.publisher.slot_book.LoanAnswer.TheVariants as loan_answer
use Rattle.iox_lanes_threads.specs.Ports.{StaysPublisher, StaysSubscriber}
use Rattle.iox_lanes.specs.Typed.{TypedPublisher, TypedSubscriber, Token, is_loan_of}
use Rattle.iox_lanes.specs.declared.threads.errors.LoanError.{LoanError}
use Rattle.iox_lanes.specs.declared.threads.errors.LoanError.TheVariants as loan_error
use Rattle.iox_lanes.specs.declared.threads.errors.WriteError.{WriteError}
use Rattle.iox_lanes.specs.declared.threads.errors.WriteError.TheVariants as write_error
use Rattle.iox_lanes.specs.declared.threads.errors.SendError.{SendError}
use Rattle.iox_lanes.specs.declared.threads.errors.SendError.TheVariants as send_error

-- The publisher is the same port of the same board, and has the same id.
abbrev pub StaysTheSame : TypedPublisher → TypedPublisher → Type 0
StaysTheSame old new = StaysPublisher old.port new.port × (new.id ≡ old.id)

-- The subscriber is the same port of the same board, and has the same id.
abbrev pub StaysTheSameSubscriber : TypedSubscriber → TypedSubscriber → Type 0
StaysTheSameSubscriber old new = StaysSubscriber old.port new.port × (new.id ≡ old.id)

-- What a loan of the port without types answers where a typed loan returns this error.
abbrev pub refused_loan : LoanError → Option LoanAnswer
refused_loan loan_error.ExceedsMaxLoans = Some loan_answer.ExceedsMaxLoans
refused_loan loan_error.OutOfMemory = Some loan_answer.OutOfMemory
refused_loan loan_error.InsideCall = None

-- The publisher is inside a call.
abbrev pub stands_inside : TypedPublisher → Bool
stands_inside publisher = not (publisher_is_idle publisher.port.own.lane.port.call)

-- The loan came from this publisher, and wasn't sent or dropped yet.
abbrev pub is_mine : TypedPublisher → Token → Bool
is_mine publisher loan = if is_loan_of publisher loan then is_out (loan_of loan.slot publisher.port.own.lane.port.book) else false

-- The error of a write that is refused.
abbrev pub why_unwritten : TypedPublisher → Token → WriteError
why_unwritten publisher loan =
    if stands_inside publisher then write_error.InsideCall
    else if is_mine publisher loan then write_error.OtherWidth else write_error.NotMine

-- The loan is written.
abbrev pub is_ready : TypedPublisher → Token → Bool
is_ready publisher loan = is_written (loan_of loan.slot publisher.port.own.lane.port.book)

-- The error of a send that isn't answered. A send that began and didn't end leaves the publisher inside the call.
abbrev pub why_unsent : TypedPublisher → Token → SendError
why_unsent publisher loan =
    if stands_inside publisher then send_error.InsideCall
    else if is_mine publisher loan then if is_ready publisher loan then send_error.InsideCall else send_error.NotWritten
    else send_error.NotMine
