-- What the commands that loan do, and the command that sends values at once.
use Rattle.std.specs.Prelude.{ℕ, ◌≡◌, List, length, Option, Result, Ok, Err}
use Rattle.std.specs.declared.alloc.AllocError.{AllocError}
use Rattle.iox_command.specs.declared.reply.Reply.{Reply}
use Rattle.iox_delivery.specs.Domain.declared.domain_id.DomainId.{DomainId}
use Rattle.iox_delivery.specs.Domain.declared.ports.service_ports.ServicePorts.{ServicePorts}
use Rattle.iox_delivery.specs.DomainPorts.declared.meeting.Sent.{Sent}
use Rattle.iox_command.specs.DomainValues.declared.backpressure.BackpressureDecision.{BackpressureDecision}
use Rattle.iox_command.specs.DomainValues.declared.backpressure.BackpressureInfo.{BackpressureInfo}
use Rattle.iox_command.specs.DomainValues.declared.degradation.DegradationAction.{DegradationAction}
use Rattle.iox_command.specs.DomainValues.declared.degradation.DegradationInfo.{DegradationInfo}
use Rattle.iox_command.specs.DomainValues.declared.port_error.LoanError.{LoanError}
use Rattle.iox_command.specs.DomainValues.declared.port_error.SendError.{SendError}
use Rattle.iox_hub_commands.specs.Calls.{AtPort, Puts, ready}
use Rattle.iox_hub_commands.specs.Growing.{GrowsFirst}
use Rattle.iox_hub_commands.specs.Numbering.{LendsNumbered, LendsWrittenNumbered}
use Rattle.iox_hub_commands.specs.Tables.{IsFull, lender}
use Rattle.iox_hub_commands.specs.declared.ports.made.Made.{Made}
use Rattle.iox_delivery.specs.Container.NumberTable.{value_at}
use Rattle.iox_hub_commands.specs.Replies.{loan_reply, sent_reply}

-- The reply to a loan, if there was memory for its number.
abbrev pub lent_reply : {T : Type 0} → Result (Option (Result ℕ LoanError)) AllocError → Result (Reply T) AllocError
lent_reply (Ok lent) = Ok (loan_reply lent)
lent_reply (Err lacking) = Err lacking

-- A publisher loans this many elements, none of which is written.
abbrev pub LoanUninitStep : {T U H : Type 0} → (DomainId → H → Option (ServicePorts T U)) → (DomainId → ServicePorts T U → H → H) → ℕ
    → ℕ → Made → H → Result (Reply T) AllocError → Made → H → Type 0
LoanUninitStep ports_of with_ports publisher elements made old answer made_after new =
    (lent : Result (Option (Result ℕ LoanError)) AllocError)
    × GrowsFirst (IsFull made.loans) (LendsNumbered ports_of with_ports elements (lender elements (value_at made.publishers publisher)))
    made old lent made_after new
    × (answer ≡ lent_reply lent)

-- A publisher loans this many elements, each of which is written with a default value.
abbrev pub LoanStep : {T U H : Type 0} → (DomainId → H → Option (ServicePorts T U)) → (DomainId → ServicePorts T U → H → H)
    → (T → Type 0) → ℕ → ℕ → Made → H → Result (Reply T) AllocError → Made → H → Type 0
LoanStep {T} ports_of with_ports is_default publisher elements made old answer made_after new =
    (value : T) × is_default value × (lent : Result (Option (Result ℕ LoanError)) AllocError)
    × GrowsFirst (IsFull made.loans) (LendsWrittenNumbered ports_of with_ports elements value
    (ready ports_of (lender elements (value_at made.publishers publisher)) old)) made old lent made_after new
    × (answer ≡ lent_reply lent)

-- A publisher sends these values.
abbrev pub PutStep : {T U H : Type 0} → (DomainId → H → Option (ServicePorts T U)) → (DomainId → ServicePorts T U → H → H)
    → (DomainId → ℕ → H → DegradationInfo → DegradationAction → Type 0)
    → (DomainId → ℕ → H → BackpressureInfo → BackpressureDecision → Type 0) → ℕ → List T → Made → H → Reply T → H → Type 0
PutStep ports_of with_ports degrades decides publisher values made old answer new =
    (sent : Option (Result Sent SendError))
    × AtPort (Puts ports_of with_ports degrades decides values)
    (ready ports_of (lender (length values) (value_at made.publishers publisher)) old) old sent new
    × (answer ≡ sent_reply sent)
