-- What calls of a recorded hub make of what was asked of it.
use Rattle.std.proofs.Common.{◌≡◌, ℕ, ◌^◌, ◌<◌, Bool, true, false, List, [], ◌∷◌, ◌++◌, length, Option, None, Some, Result, Ok, Err, refl}
use Rattle.std.proofs.Common.{arith}
use Rattle.std.proofs.Handle.{handle}
use Rattle.std.proofs.lemmas.Bool.Decides.{nat_tests}
use Rattle.std.specs.Global.{Vec}
use denote.RawPtr.{null_ptr}
use Rattle.std.specs.Prelude.{nat_lt}
use Rattle.iox_command.specs.declared.command.Command.{Command}
use Rattle.iox_command.specs.declared.command.Command.TheVariants as command
use Rattle.iox_command.specs.declared.port.PublisherOptions.{PublisherOptions}
use Rattle.iox_command.specs.declared.port.SubscriberOptions.{SubscriberOptions}
use Rattle.iox_command.specs.declared.refusal.Refusal.TheVariants as refusal
use Rattle.iox_command.specs.declared.reply.Reply.TheVariants as reply
use Rattle.iox_delivery.specs.declared.kind.Slice.{Slice}
use Rattle.iox_delivery.specs.declared.loan.Loan.{Loan as Lent}
use Rattle.iox_delivery.specs.declared.sample.Sample.{Sample}
use Rattle.iox_domain.specs.declared.domain_id.DomainId.{DomainId}
use Rattle.iox_hub_base.specs.declared.hub.Hub.{Hub}
use Rattle.iox_hub_commands.specs.DomainValues.declared.create_error.PublisherCreateError.{PublisherCreateError}
use Rattle.iox_hub_commands.specs.DomainValues.declared.create_error.SubscriberCreateError.{SubscriberCreateError}
use Rattle.iox_hub_commands.specs.DomainValues.declared.port_error.LoanError.{LoanError}
use Rattle.iox_hub_commands.specs.DomainValues.declared.port_error.ReceiveError.{ReceiveError}
use Rattle.iox_hub_commands.specs.Making.{with_publisher, with_subscriber}
use Rattle.iox_hub_commands.specs.Numbering.{with_loan, with_sample}
use Rattle.iox_hub.specs.Recorded.{Calls, asked_too}
use Rattle.iox_hub.specs.Recording.{asked_with, values_there}

-- what is told to be below is
pub below : (n m : ℕ) → nat_lt n m ≡ true → n < m
below n m is = grind (arith, nat_tests, is)

-- a vector of values that fit
abbrev pub vector_of : {T : Type 0} (values : List T) → length values < 2 ^ 63 → Vec T
vector_of values fits = record {
  ptr = null_ptr;
  len = length values;
  cap = length values;
  alloc = handle;
  items = values;
  ok = (refl, omega arith);
  small = fits;
}

-- a vector of values, where they fit; else an empty one
abbrev pub vector_if : {T : Type 0} (values : List T) (fits : Bool) → nat_lt (length values) (2 ^ 63) ≡ fits → Vec T
vector_if values true small = vector_of values (below (length values) (2 ^ 63) small)
vector_if values false small = vector_of [] (omega arith)

abbrev pub vector : {T : Type 0} → List T → Vec T
vector values = vector_if values (nat_lt (length values) (2 ^ 63)) refl

module _ {T U B D : Type 0} where
  -- the calls, where a subscriber received so
  abbrev pub calls_received : Hub T U B D → ℕ → Option (Result (Option (Sample T U Slice)) ReceiveError) → Calls T → Calls T
  calls_received hub subscriber None calls = asked_too (command.Receive subscriber) reply.Skipped calls
  calls_received hub subscriber (Some (Ok (Some sample))) calls =
      record (asked_with (with_sample sample.port sample.taken calls.made) (command.Receive subscriber)
      (reply.Received calls.made.samples.next (vector (values_there sample hub))) calls) {
        received = calls.received ++ values_there sample hub ∷ [];
      }
  calls_received hub subscriber (Some (Ok None)) calls = asked_too (command.Receive subscriber) reply.NothingWaits calls
  calls_received hub subscriber (Some (Err why)) calls = asked_too (command.Receive subscriber) (reply.Refused (refusal.Receive why)) calls

module _ {T : Type 0} where
  -- the calls, where a publisher was asked for
  abbrev pub calls_publisher : ℕ → PublisherOptions → DomainId → Option (Result ℕ PublisherCreateError) → Calls T → Calls T
  calls_publisher factory named domain None calls = asked_too (command.Publisher factory named) reply.Skipped calls
  calls_publisher factory named domain (Some (Ok number)) calls =
      asked_with (with_publisher domain true number calls.made) (command.Publisher factory named)
      (reply.PublisherMade calls.made.publishers.next) calls
  calls_publisher factory named domain (Some (Err why)) calls
      = asked_too (command.Publisher factory named) (reply.Refused (refusal.Publisher why)) calls

  -- the calls, where a subscriber was asked for
  abbrev pub calls_subscriber : ℕ → SubscriberOptions → DomainId → Option (Result ℕ SubscriberCreateError) → Calls T → Calls T
  calls_subscriber factory named domain None calls = asked_too (command.Subscriber factory named) reply.Skipped calls
  calls_subscriber factory named domain (Some (Ok number)) calls =
      asked_with (with_subscriber domain number calls.made) (command.Subscriber factory named)
      (reply.SubscriberMade calls.made.subscribers.next) calls
  calls_subscriber factory named domain (Some (Err why)) calls
      = asked_too (command.Subscriber factory named) (reply.Refused (refusal.Subscriber why)) calls

module _ {T U K S : Type 0} where
  -- the calls, where a loan was asked for
  abbrev pub calls_lent : Command T → Option (Result (Lent T U K S) LoanError) → Calls T → Calls T
  calls_lent asked None calls = asked_too asked reply.Skipped calls
  calls_lent asked (Some (Ok loan)) calls =
      asked_with (with_loan loan.port loan.slot calls.made) asked (reply.LoanMade calls.made.loans.next) calls
  calls_lent asked (Some (Err why)) calls = asked_too asked (reply.Refused (refusal.Loan why)) calls
