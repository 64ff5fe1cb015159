-- A publisher's loan in a domain matches the machine's command.
use Rattle.std.specs.Prelude.{ℕ, ◌+◌, ◌≡◌, ◌≢◌, List, [], ◌∷◌, ◌++◌, length, replicate, Option, None, Some, Result, Ok, Err}
use Rattle.iox_command.specs.DomainValues.declared.port_error.LoanError.{LoanError}
use Rattle.iox_command.specs.NegotiateBase.DescribeBase.declared.message_type.MessageTypeDetails.{MessageTypeDetails}
use Rattle.iox_command.specs.declared.command.Command.TheVariants as command
use Rattle.iox_command.specs.declared.refusal.Refusal.TheVariants as refusal
use Rattle.iox_command.specs.declared.reply.Reply.{Reply}
use Rattle.iox_command.specs.declared.reply.Reply.TheVariants as reply
use Rattle.iox_domain.specs.DomainPorts.Messages.{write_all}
use Rattle.iox_domain.specs.DomainPorts.MessagesSending.{has_length}
use Rattle.iox_domain.specs.DomainPorts.declared.attached.Taken.{Taken}
use Rattle.iox_domain.specs.Lending.{written_in}
use Rattle.iox_domain.specs.PortLawsLaws.{IsSound}
use Rattle.iox_domain.specs.Steps.{LoansBy}
use Rattle.iox_domain.specs.declared.ports.service_ports.ServicePorts.{ServicePorts}
use Rattle.iox_domain_machine.specs.Laws.{Matches}
use Rattle.iox_domain_machine.specs.Naming.{Naming, with_name}
use Rattle.iox_domain_machine.specs.Standing.{StandsFor}
use Rattle.iox_domain_machine.specs.Tables.{LentSlot}
use Rattle.iox_machine.specs.Choices.{Choices}
use Rattle.iox_machine.specs.Service.{Service}
use Rattle.iox_machine.specs.State.{State}
use Rattle.iox_machine.specs.Table.{at}

-- The reply to a loan, which gets this number if it is made.
abbrev pub lent_or_not : {T : Type 0} → ℕ → Option (Result ℕ LoanError) → Reply T
lent_or_not loan None = reply.Skipped
lent_or_not loan (Some (Ok slot)) = reply.LoanMade loan
lent_or_not loan (Some (Err why)) = reply.Refused (refusal.Loan why)

-- The names after a loan: if one was made, the message in its slot got this name.
abbrev pub with_lent_name : ℕ → ℕ → Option (Result ℕ LoanError) → Naming → Naming
with_lent_name number name None names = names
with_lent_name number name (Some (Ok slot)) names =
    record names { message = with_name number (with_name slot name (names.message number)) names.message }
with_lent_name number name (Some (Err why)) names = names

-- The numbered loans after a loan: if one was made, it was added with this number.
abbrev pub with_lent : ℕ → ℕ → Option (Result ℕ LoanError) → List (ℕ × LentSlot) → List (ℕ × LentSlot)
with_lent loan number None lent = lent
with_lent loan number (Some (Ok slot)) lent = lent ++ (loan, record { publisher = number; slot = slot }) ∷ []
with_lent loan number (Some (Err why)) lent = lent

-- The ports after these values were written into the loan in this slot of the publisher, if it has as many.
abbrev pub with_values_in : {T U : Type 0} → ℕ → ℕ → List T → ServicePorts T U → ServicePorts T U
with_values_in number slot values ports =
    written_in number (λ port. has_length slot (length values) port.sender.uses) slot (write_all values) ports

-- The ports after these values were written into the loan that was made, if one was.
abbrev pub with_lent_values : {T U : Type 0} → ℕ → List T → Option (Result ℕ LoanError) → ServicePorts T U → ServicePorts T U
with_lent_values number values None ports = ports
with_lent_values number values (Some (Ok slot)) ports = with_values_in number slot values ports
with_lent_values number values (Some (Err why)) ports = ports

module _ (T U : Type 0) (choices : Choices T) where
  -- The loan of `values` values that aren't written matches the command. Its message gets the publisher's next name. The
  -- theorem assumes that no loan has the next number, and that the ports are sound, as they are after any calls (`HeldStays`).
  abbrev pub LendUninitMatches : Type 0
  LendUninitMatches = (types : MessageTypeDetails) (buffer : ℕ) (names : Naming) (lent : List (ℕ × LentSlot)) (held : List (ℕ × Taken))
      (old new : ServicePorts T U) (service : Service T) (state : State T) (number values : ℕ) (answer : Option (Result ℕ LoanError))
      → StandsFor names lent held buffer old service → IsSound old → names.publisher number ≢ 0
      → at (state.made.loans + 1) lent ≡ None → LoansBy number values values old answer new
      → (name : ℕ) × Matches T U choices types buffer (command.LoanUninit (names.publisher number) values)
      (lent_or_not (state.made.loans + 1) answer) state service (with_lent_name number name answer names)
      (with_lent (state.made.loans + 1) number answer lent) held new

  -- The loan of `values` values, each of which is then written as the same default, matches the command. The theorem assumes
  -- the same as for values that aren't written.
  abbrev pub LendMatches : Type 0
  LendMatches = (types : MessageTypeDetails) (buffer : ℕ) (names : Naming) (lent : List (ℕ × LentSlot)) (held : List (ℕ × Taken))
      (old made : ServicePorts T U) (service : Service T) (state : State T) (number values : ℕ) (value : T)
      (answer : Option (Result ℕ LoanError))
      → StandsFor names lent held buffer old service → IsSound old → names.publisher number ≢ 0
      → at (state.made.loans + 1) lent ≡ None → choices.is_default value → LoansBy number values values old answer made
      → (name : ℕ) × Matches T U choices types buffer (command.Loan (names.publisher number) values)
      (lent_or_not (state.made.loans + 1) answer) state service (with_lent_name number name answer names)
      (with_lent (state.made.loans + 1) number answer lent) held (with_lent_values number (replicate values value) answer made)
