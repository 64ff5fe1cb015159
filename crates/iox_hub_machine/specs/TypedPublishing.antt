-- Each call of a typed publisher, of its loans and of its blocked sends as a step of the machine.
use Rattle.std.specs.Prelude.{ℕ, ◌≡◌, Bool, true, false, length, List, ◌∷◌, [], Option, Some, Result}
use Rattle.iox_command.specs.DomainValues.declared.connection_failure.ConnectionFailure.{ConnectionFailure}
use Rattle.iox_command.specs.DomainValues.declared.port_error.LoanError.{LoanError}
use Rattle.iox_command.specs.DomainValues.declared.port_error.SendError.{SendError}
use Rattle.iox_command.specs.declared.command.Command.TheVariants as command
use Rattle.iox_command.specs.declared.port.PortNumber.TheVariants as port
use Rattle.iox_container.specs.NumberTable.{value_at}
use Rattle.iox_delivery.specs.Holding.{loan_found, publisher_blocked}
use Rattle.iox_delivery.specs.Publishing.{EndsPublisher, EndsSend, FollowsSubscribers, GivesUpLoan, LendsDefault, RetriesSend}
use Rattle.iox_delivery.specs.Publishing.{SendsCopy, SendsSample, WritesPayload}
use Rattle.iox_delivery.specs.Publishing.{loan_changed}
use Rattle.iox_delivery.specs.Slices.{LendsDefaults, LendsSlice, SendsSlice, WritesAll, WritesEach}
use Rattle.iox_delivery.specs.declared.loan.Loan.{Loan as Lent}
use Rattle.iox_delivery.specs.declared.loan.Uninit.{Uninit}
use Rattle.iox_delivery.specs.declared.loan.Written.{Written}
use Rattle.iox_delivery.specs.declared.port_id.PortId.{PortId}
use Rattle.iox_delivery.specs.declared.sent.Sent.{Sent}
use Rattle.iox_domain.specs.DomainPorts.Messages.{Loan, write_value}
use Rattle.iox_hub_base.specs.AsHome.{hub_ports, with_hub_ports, without_hub_publisher}
use Rattle.iox_hub_base.specs.declared.hub.Hub.{Hub}
use Rattle.iox_hub_commands.specs.CommandSteps.{publisher_may_decide, publisher_may_degrade}
use Rattle.iox_hub_commands.specs.Loans.{is_filled, is_set}
use Rattle.iox_hub_commands.specs.Numbering.{removed_if}
use Rattle.iox_hub_commands.specs.Replies.{done_reply, given_up_reply, updated_reply}
use Rattle.iox_hub_commands.specs.Tables.{port_under, without_loan, without_publisher}
use Rattle.iox_hub_commands.specs.Terms.{Terms}
use Rattle.iox_hub_commands.specs.declared.numbered_hub.NumberedHub.{NumberedHub}
use Rattle.iox_hub_commands.specs.declared.ports.made.MadeLoan.{MadeLoan}
use Rattle.iox_hub_machine.specs.TypedSteps.{IsStepBy, having_lent, hub_after_call, told_loan, told_sent}
use Rattle.iox_machine.specs.Choices.{Choices}

-- Publishers and loans are of one kind: single values, or slices. The parameters: the kind, and the terms of the hub. The publisher or loan
-- of each call has a number.
module _ {T U B D : Type 0} (K : Type 0) (terms : Terms T U B D) (choices : Choices T) where
  -- Loaning this many values to be written is a step; with one value, this is `loan_uninit`, too.
  abbrev pub LoanUninitIsStep : Type 0
  LoanUninitIsStep = (number length : ℕ) (lender : PortId) (old : NumberedHub T U B D) (hub : Hub T U B D)
      (answer : Result (Lent T U K Uninit) LoanError)
      → port_under (value_at old.made.publishers number) ≡ Some lender
      → LendsSlice hub_ports with_hub_ports lender length old.hub answer hub
      → IsStepBy terms choices
      (command.LoanUninit number length) old (told_loan answer old.made) (hub_after_call old (having_lent answer old.made) hub)

  -- Loaning this many written values, all with one default value, is a step, if the publisher has no blocked send.
  abbrev pub LoanIsStep : Type 0
  LoanIsStep = (number length : ℕ) (lender : PortId) (old : NumberedHub T U B D) (hub : Hub T U B D)
      (answer : Result (Lent T U K Written) LoanError)
      → port_under (value_at old.made.publishers number) ≡ Some lender
      → publisher_blocked lender.number (hub_ports lender.domain old.hub) ≡ false
      → LendsDefaults hub_ports with_hub_ports choices.is_default lender length old.hub answer hub
      → IsStepBy terms choices (command.Loan number length) old (told_loan answer old.made) (hub_after_call old
      (having_lent answer old.made) hub)

  -- Loaning one written value, a default value, is a step, if the publisher has no blocked send.
  abbrev pub LoanOfOneIsStep : Type 0
  LoanOfOneIsStep = (number : ℕ) (lender : PortId) (old : NumberedHub T U B D) (hub : Hub T U B D)
      (answer : Result (Lent T U K Written) LoanError)
      → port_under (value_at old.made.publishers number) ≡ Some lender
      → publisher_blocked lender.number (hub_ports lender.domain old.hub) ≡ false
      → LendsDefault hub_ports with_hub_ports choices.is_default lender old.hub answer hub
      → IsStepBy terms choices (command.Loan number 1) old (told_loan answer old.made) (hub_after_call old
      (having_lent answer old.made) hub)

  -- Loaning, writing and sending values is a step, if the publisher has no blocked send.
  abbrev pub SendSliceIsStep : Type 0
  SendSliceIsStep = (number : ℕ) (lender : PortId) (values : List T) (old : NumberedHub T U B D) (hub : Hub T U B D)
      (answer : Result (Sent T U) SendError)
      → port_under (value_at old.made.publishers number) ≡ Some lender
      → publisher_blocked lender.number (hub_ports lender.domain old.hub) ≡ false
      → SendsSlice hub_ports with_hub_ports (publisher_may_degrade terms.degrades) (publisher_may_decide terms.decides) lender values
      old.hub answer hub
      → IsStepBy terms choices (command.Put number values) old (told_sent answer) (hub_after_call old old.made hub)

  -- Loaning, writing and sending one value is a step, if the publisher has no blocked send.
  abbrev pub SendCopyIsStep : Type 0
  SendCopyIsStep = (number : ℕ) (lender : PortId) (value : T) (old : NumberedHub T U B D) (hub : Hub T U B D)
      (answer : Result (Sent T U) SendError)
      → port_under (value_at old.made.publishers number) ≡ Some lender
      → publisher_blocked lender.number (hub_ports lender.domain old.hub) ≡ false
      → SendsCopy hub_ports with_hub_ports (publisher_may_degrade terms.degrades) (publisher_may_decide terms.decides) lender value old.hub
      answer hub
      → IsStepBy terms choices (command.Put number (value ∷ [])) old (told_sent answer) (hub_after_call old old.made hub)

  -- Writing all values of a loan is a step, if the loan has as many values; otherwise the command is skipped, and nothing is written.
  abbrev pub WriteIsStep : Type 0
  WriteIsStep = (number : ℕ) (made : MadeLoan) (values : List T) (old : NumberedHub T U B D) (hub : Hub T U B D)
      → value_at old.made.loans number ≡ Some made
      → WritesAll hub_ports with_hub_ports made.port made.slot values old.hub hub
      → IsStepBy terms choices
      (command.Fill number values) old (done_reply (is_filled hub_ports values (Some made) old.hub)) (hub_after_call old old.made hub)

  -- Writing the value of a loan is a step, if the loan has exactly one; otherwise the command is skipped, and nothing is written.
  abbrev pub WriteOneIsStep : Type 0
  WriteOneIsStep = (number : ℕ) (made : MadeLoan) (value : T) (old : NumberedHub T U B D) (hub : Hub T U B D)
      → value_at old.made.loans number ≡ Some made
      → WritesPayload hub_ports with_hub_ports made.port made.slot value old.hub hub
      → IsStepBy terms choices (command.Fill number (value ∷ [])) old (done_reply (is_filled hub_ports (value ∷ []) (Some made) old.hub))
      (hub_after_call old old.made hub)

  -- Writing values one after the other into a loan that has as many, as `write_from_fn` does, is a step.
  abbrev pub WriteEachIsStep : Type 0
  WriteEachIsStep = (number : ℕ) (made : MadeLoan) (loan : Loan T U) (values : List T) (old : NumberedHub T U B D) (hub : Hub T U B D)
      → value_at old.made.loans number ≡ Some made
      → loan_found made.port.number made.slot (hub_ports made.port.domain old.hub) ≡ Some loan → length loan.values ≡ length values
      → WritesEach hub_ports with_hub_ports made.port made.slot values old.hub hub
      → IsStepBy terms choices
      (command.Fill number values) old (done_reply (is_filled hub_ports values (Some made) old.hub)) (hub_after_call old old.made hub)

  -- Changing a value of a written loan, at a place that the loan has, is a step: the new value is the last one that was written through the
  -- reference that `payload_mut` or `value_mut` returned.
  abbrev pub ChangeIsStep : Type 0
  ChangeIsStep = (number place : ℕ) (made : MadeLoan) (value : T) (old : NumberedHub T U B D) (hub : Hub T U B D)
      → value_at old.made.loans number ≡ Some made
      → is_set place (loan_found made.port.number made.slot (hub_ports made.port.domain old.hub)) ≡ true
      → hub ≡ loan_changed hub_ports with_hub_ports made.port made.slot (write_value place value) old.hub
      → IsStepBy terms choices (command.Set number place value) old (done_reply true) (hub_after_call old old.made hub)

  -- Dropping a loan, which is consumed, is a step. `drop_with` does this; it hands the loan back if it doesn't exist.
  abbrev pub DropIsStep : Type 0
  DropIsStep = (number : ℕ) (made : MadeLoan) (old : NumberedHub T U B D) (hub : Hub T U B D)
      → value_at old.made.loans number ≡ Some made
      → GivesUpLoan hub_ports with_hub_ports made.port made.slot old.hub hub
      → IsStepBy terms choices (command.Drop number) old (done_reply true) (hub_after_call old (without_loan number old.made) hub)

  -- Sending a loan, which is consumed, is a step.
  abbrev pub SendIsStep : Type 0
  SendIsStep = (number : ℕ) (made : MadeLoan) (old : NumberedHub T U B D) (hub : Hub T U B D) (answer : Result (Sent T U) SendError)
      → value_at old.made.loans number ≡ Some made
      → SendsSample hub_ports with_hub_ports (publisher_may_degrade terms.degrades) (publisher_may_decide terms.decides) made.port made.slot
      old.hub answer hub
      → IsStepBy terms choices (command.Send number) old (told_sent answer) (hub_after_call old (without_loan number old.made) hub)

  -- Trying a blocked send again, with this many nanoseconds elapsed, is a step.
  abbrev pub RetryIsStep : Type 0
  RetryIsStep = (number nanoseconds : ℕ) (sender : PortId) (old : NumberedHub T U B D) (hub : Hub T U B D)
      (answer : Result (Sent T U) SendError)
      → port_under (value_at old.made.publishers number) ≡ Some sender
      → RetriesSend hub_ports with_hub_ports (publisher_may_decide terms.decides) sender nanoseconds old.hub answer hub
      → IsStepBy terms choices (command.Retry number nanoseconds) old (told_sent answer) (hub_after_call old old.made hub)

  -- Giving up a blocked send is a step; the reply says how many mailboxes took its message. `give_up` does this, and so does `drop_with`,
  -- which hands the send back if it isn't blocked.
  abbrev pub GiveUpIsStep : Type 0
  GiveUpIsStep = (number : ℕ) (sender : PortId) (old : NumberedHub T U B D) (hub : Hub T U B D) (answer : Option ℕ)
      → port_under (value_at old.made.publishers number) ≡ Some sender
      → EndsSend hub_ports with_hub_ports sender old.hub answer hub
      → IsStepBy terms choices (command.GiveUp number) old (given_up_reply answer) (hub_after_call old old.made hub)

  -- Updating the connections of a publisher is a step.
  abbrev pub PublisherUpdateIsStep : Type 0
  PublisherUpdateIsStep = (number : ℕ) (follower : PortId) (old : NumberedHub T U B D) (hub : Hub T U B D)
      (answer : Result (Unit {0}) ConnectionFailure)
      → port_under (value_at old.made.publishers number) ≡ Some follower
      → FollowsSubscribers hub_ports with_hub_ports (publisher_may_degrade terms.degrades) follower old.hub answer hub
      → IsStepBy terms choices (command.Update (port.Publisher number)) old (updated_reply (Some answer)) (hub_after_call old old.made hub)

  -- Closing a publisher, which is consumed, is a step. `leave` does this, and so does `drop_with`, which hands the publisher back if it
  -- can't be closed.
  abbrev pub PublisherLeaveIsStep : Type 0
  PublisherLeaveIsStep = (number : ℕ) (leaver : PortId) (old : NumberedHub T U B D) (hub : Hub T U B D) (left : Bool)
      → port_under (value_at old.made.publishers number) ≡ Some leaver
      → EndsPublisher hub_ports with_hub_ports without_hub_publisher leaver old.hub left hub
      → IsStepBy terms choices (command.Leave (port.Publisher number)) old (done_reply left)
      (hub_after_call old (removed_if left (without_publisher number) old.made) hub)

  -- Each call of a publisher, of its loans and of its blocked sends is a step, by the command that asks for the same.
  pub record PublisherCallsAreSteps : Type 0 where
    pub loan_uninit : LoanUninitIsStep
    pub loan : LoanIsStep
    pub loan_of_one : LoanOfOneIsStep
    pub write : WriteIsStep
    pub write_one : WriteOneIsStep
    pub write_each : WriteEachIsStep
    pub change : ChangeIsStep
    pub send_slice : SendSliceIsStep
    pub send_copy : SendCopyIsStep
    pub send : SendIsStep
    pub drop : DropIsStep
    pub retry : RetryIsStep
    pub give_up : GiveUpIsStep
    pub update : PublisherUpdateIsStep
    pub leave : PublisherLeaveIsStep
