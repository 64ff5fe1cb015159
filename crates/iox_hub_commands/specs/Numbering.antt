-- How loans and samples get numbers, and when a number names nothing any longer.
use Rattle.std.specs.Prelude.{ℕ, ◌≡◌, Bool, true, false, Option, None, Some, Result, Ok, Err}
use Rattle.iox_container.specs.NumberTable.{inserted}
use Rattle.iox_delivery.specs.DomainValues.declared.degradation.DegradationAction.{DegradationAction}
use Rattle.iox_delivery.specs.DomainValues.declared.degradation.DegradationInfo.{DegradationInfo}
use Rattle.iox_delivery.specs.DomainValues.declared.port_error.LoanError.{LoanError}
use Rattle.iox_delivery.specs.DomainValues.declared.port_error.ReceiveError.{ReceiveError}
use Rattle.iox_delivery.specs.DomainPorts.declared.attached.Taken.{Taken}
use Rattle.iox_delivery.specs.Domain.declared.ports.service_ports.ServicePorts.{ServicePorts}
use Rattle.iox_delivery.specs.Domain.declared.domain_id.DomainId.{DomainId}
use Rattle.iox_delivery.specs.declared.port_id.PortId.{PortId}
use Rattle.iox_hub_commands.specs.Calls.{AtPort, Lends, LendsWritten, Receives}
use Rattle.iox_hub_commands.specs.declared.ports.made.Made.{Made}

-- The tables, changed by `without` only if something happened.
abbrev pub removed_if : Bool → (Made → Made) → Made → Made
removed_if false without made = made
removed_if true without made = without made

-- A loan of a publisher gets the next number.
abbrev pub with_loan : PortId → ℕ → Made → Made
with_loan port slot made = record made { loans = inserted made.loans (record { port = port; slot = slot }) }

-- A sample of a subscriber gets the next number.
abbrev pub with_sample : PortId → Taken → Made → Made
with_sample port taken made = record made { samples = inserted made.samples (record { port = port; taken = taken }) }

-- A new loan gets the next number, which is answered; otherwise no number is given.
abbrev pub NumbersLoan : Option PortId → Option (Result ℕ LoanError) → Made → Option (Result ℕ LoanError) → Made → Type 0
NumbersLoan port None old answer new = (answer ≡ None) × (new ≡ old)
NumbersLoan port (Some (Err error)) old answer new = (answer ≡ Some (Err error)) × (new ≡ old)
NumbersLoan None (Some (Ok slot)) old answer new = ⊥
NumbersLoan (Some port) (Some (Ok slot)) old answer new = (answer ≡ Some (Ok old.loans.next)) × (new ≡ with_loan port slot old)

-- A publisher loans a slot for this many elements, and the loan gets a number.
abbrev pub LendsNumbered : {T U H : Type 0} → (DomainId → H → Option (ServicePorts T U)) → (DomainId → ServicePorts T U → H → H) → ℕ
    → Option PortId → Made → H → Option (Result ℕ LoanError) → Made → H → Type 0
LendsNumbered ports_of with_ports elements port made old answer made_after new =
    (lent : Option (Result ℕ LoanError)) × AtPort (Lends ports_of with_ports elements) port old lent new
    × NumbersLoan port lent made answer made_after

-- A publisher loans a slot for this many elements, each written with the same value, and the loan gets a number.
abbrev pub LendsWrittenNumbered : {T U H : Type 0} → (DomainId → H → Option (ServicePorts T U)) → (DomainId → ServicePorts T U → H → H)
    → ℕ → T → Option PortId → Made → H → Option (Result ℕ LoanError) → Made → H → Type 0
LendsWrittenNumbered ports_of with_ports elements value port made old answer made_after new =
    (lent : Option (Result ℕ LoanError)) × AtPort (LendsWritten ports_of with_ports elements value) port old lent new
    × NumbersLoan port lent made answer made_after

-- A received sample gets the next number, which is answered; otherwise no number is given.
abbrev pub NumbersSample : Option PortId → Option (Result (Option Taken) ReceiveError) → Made → Option (Result (Option ℕ) ReceiveError)
    → Made → Type 0
NumbersSample port None old answer new = (answer ≡ None) × (new ≡ old)
NumbersSample port (Some (Err error)) old answer new = (answer ≡ Some (Err error)) × (new ≡ old)
NumbersSample port (Some (Ok None)) old answer new = (answer ≡ Some (Ok None)) × (new ≡ old)
NumbersSample None (Some (Ok (Some taken))) old answer new = ⊥
NumbersSample (Some port) (Some (Ok (Some taken))) old answer new = (answer ≡ Some (Ok (Some old.samples.next)))
    × (new ≡ with_sample port taken old)

-- A subscriber receives, and a received sample gets a number.
abbrev pub ReceivesNumbered : {T U H : Type 0} → (DomainId → H → Option (ServicePorts T U)) → (DomainId → ServicePorts T U → H → H)
    → (DomainId → ℕ → H → DegradationInfo → DegradationAction → Type 0) → Option PortId → Made → H
    → Option (Result (Option ℕ) ReceiveError) → Made → H → Type 0
ReceivesNumbered ports_of with_ports degrades port made old answer made_after new =
    (received : Option (Result (Option Taken) ReceiveError)) × AtPort (Receives ports_of with_ports degrades) port old received new
    × NumbersSample port received made answer made_after
