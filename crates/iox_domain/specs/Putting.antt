-- A publisher loans as many values as it is given, writes them and sends them, at once.
use Rattle.std.specs.Prelude.{ℕ, ◌≡◌, Bool, true, false, List, length, Option, None, Some, Result, Ok, Err}
use Rattle.iox_domain_ports.specs.DomainValues.declared.backpressure.BackpressureDecision.{BackpressureDecision}
use Rattle.iox_domain_ports.specs.DomainValues.declared.backpressure.BackpressureInfo.{BackpressureInfo}
use Rattle.iox_domain_ports.specs.DomainValues.declared.degradation.DegradationAction.{DegradationAction}
use Rattle.iox_domain_ports.specs.DomainValues.declared.degradation.DegradationInfo.{DegradationInfo}
use Rattle.iox_domain_ports.specs.DomainValues.declared.port_error.LoanError.{LoanError}
use Rattle.iox_domain_ports.specs.DomainValues.declared.port_error.SendError.{SendError}
use Rattle.iox_domain_ports.specs.DomainValues.declared.port_error.SendError.TheVariants as refusal
use Rattle.iox_domain_ports.specs.Messages.{write_all}
use Rattle.iox_domain_ports.specs.MessagesSending.{has_length}
use Rattle.iox_domain_ports.specs.Writing.{changed_if}
use Rattle.iox_domain_ports.specs.declared.meeting.Sent.{Sent}
use Rattle.iox_domain_ports.specs.declared.publisher_port.PublisherPort.{PublisherPort}
use Rattle.iox_domain_ports.specs.declared.subscriber_entry.SubscriberEntry.{SubscriberEntry}
use Rattle.iox_domain.specs.Lending.{LoansOne}
use Rattle.iox_domain.specs.PortsPublishing.{is_free, SendsOne}
use Rattle.iox_domain.specs.Rolls.{RollState}

-- The publisher after these values were written into the loan in this slot, if it has as many.
abbrev pub with_values : {T U : Type 0} → ℕ → List T → PublisherPort T U → PublisherPort T U
with_values slot values port = changed_if (has_length slot (length values) port.sender.uses) slot (write_all values) port

-- What follows the loan: if it failed, its error is returned and nothing else happens; otherwise the values are written into
-- its slot, and the message is sent.
abbrev pub SendsLent : {T U : Type 0} → (DegradationInfo → DegradationAction → Type 0)
    → (BackpressureInfo → BackpressureDecision → Type 0) → RollState SubscriberEntry → List T → Result ℕ LoanError → PublisherPort T U
    → Result Sent SendError → PublisherPort T U → Type 0
SendsLent may_degrade may list values (Err error) port answer after = (answer ≡ Err (refusal.LoanError error)) × (after ≡ port)
SendsLent may_degrade may list values (Ok slot) port answer after
    = SendsOne may_degrade may list slot (with_values slot values port) (Some answer) after

-- As many values as given are loaned, and then written and sent.
abbrev pub PutsValues : {T U : Type 0} → (DegradationInfo → DegradationAction → Type 0)
    → (BackpressureInfo → BackpressureDecision → Type 0) → RollState SubscriberEntry → List T → PublisherPort T U
    → Result Sent SendError → PublisherPort T U → Type 0
PutsValues {T} {U} may_degrade may list values port answer after =
    (lent : Result ℕ LoanError) × (lender : PublisherPort T U) × LoansOne (length values) (length values) port (Some lent) lender
    × SendsLent may_degrade may list values lent lender answer after

-- A free publisher puts the values; at another one nothing happens.
abbrev pub PutsIf : {T U : Type 0} → Bool → (DegradationInfo → DegradationAction → Type 0)
    → (BackpressureInfo → BackpressureDecision → Type 0) → RollState SubscriberEntry → List T → PublisherPort T U
    → Option (Result Sent SendError) → PublisherPort T U → Type 0
PutsIf false may_degrade may list values port answer after = (answer ≡ None) × (after ≡ port)
PutsIf true may_degrade may list values port answer after =
    (sent : Result Sent SendError) × PutsValues may_degrade may list values port sent after × (answer ≡ Some sent)

-- What putting these values answers and changes at the publisher.
abbrev pub PutsOne : {T U : Type 0} → (DegradationInfo → DegradationAction → Type 0)
    → (BackpressureInfo → BackpressureDecision → Type 0) → RollState SubscriberEntry → List T → PublisherPort T U
    → Option (Result Sent SendError) → PublisherPort T U → Type 0
PutsOne may_degrade may list values port answer after = PutsIf (is_free port) may_degrade may list values port answer after
