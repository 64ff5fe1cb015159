-- How numbered loans are written, dropped and sent.
use Rattle.std.specs.Prelude.{ℕ, ◌≡◌, ◌&&◌, Bool, false, List, length, is_some, Option, None, Some, Result}
use Rattle.iox_delivery.specs.DomainValues.declared.backpressure.BackpressureDecision.{BackpressureDecision}
use Rattle.iox_delivery.specs.DomainValues.declared.backpressure.BackpressureInfo.{BackpressureInfo}
use Rattle.iox_delivery.specs.DomainValues.declared.degradation.DegradationAction.{DegradationAction}
use Rattle.iox_delivery.specs.DomainValues.declared.degradation.DegradationInfo.{DegradationInfo}
use Rattle.iox_delivery.specs.DomainValues.declared.port_error.SendError.{SendError}
use Rattle.iox_delivery.specs.DomainPorts.Messages.{Loan, write_value, write_all}
use Rattle.iox_delivery.specs.DomainPorts.MessagesSending.{has_place, has_length, is_written_loan}
use Rattle.iox_delivery.specs.DomainPorts.Writing.{value_at}
use Rattle.iox_delivery.specs.DomainPorts.declared.meeting.Sent.{Sent}
use Rattle.iox_delivery.specs.Domain.Lending.{passes, written_in}
use Rattle.iox_delivery.specs.Domain.declared.ports.service_ports.ServicePorts.{ServicePorts}
use Rattle.iox_delivery.specs.Domain.declared.domain_id.DomainId.{DomainId}
use Rattle.iox_delivery.specs.Holding.{loan_found}
use Rattle.iox_delivery.specs.Publishing.{changed_at}
use Rattle.iox_hub_commands.specs.Calls.{Sends}
use Rattle.iox_hub_commands.specs.declared.ports.made.MadeLoan.{MadeLoan}

-- The loan with this number, if it is out.
abbrev pub loan_under : {T U H : Type 0} → (DomainId → H → Option (ServicePorts T U)) → Option MadeLoan → H → Option (Loan T U)
loan_under ports_of None home = None
loan_under ports_of (Some made) home = loan_found made.port.number made.slot (ports_of made.port.domain home)

-- The home after the ports of the numbered loan have changed. Nothing changes if the number has no loan, or the loan's domain isn't in the
-- home.
abbrev pub changed_under : {T U H : Type 0} → (DomainId → H → Option (ServicePorts T U)) → (DomainId → ServicePorts T U → H → H)
    → (ℕ → ℕ → ServicePorts T U → ServicePorts T U) → Option MadeLoan → H → H
changed_under ports_of with_ports change None home = home
changed_under ports_of with_ports change (Some made) home =
    changed_at (λ after. with_ports made.port.domain after home) (change made.port.number made.slot) (ports_of made.port.domain home) home

-- Whether a value may be written at this place of a written loan.
abbrev pub is_set : {T U : Type 0} → ℕ → Option (Loan T U) → Bool
is_set place loan = is_written_loan loan && is_some (value_at place loan)

-- The ports after the value at a place of the loan in a slot was written.
abbrev pub set_in : {T U : Type 0} → ℕ → T → ℕ → ℕ → ServicePorts T U → ServicePorts T U
set_in place value number slot ports
    = written_in number (λ port. has_place slot place port.sender.uses) slot (write_value place value) ports

-- Whether the loan in a slot has as many values as these; false if its domain isn't in the home.
abbrev pub fits_in : {T U : Type 0} → List T → ℕ → ℕ → Option (ServicePorts T U) → Bool
fits_in values number slot None = false
fits_in values number slot (Some ports) = passes number (λ port. has_length slot (length values) port.sender.uses) ports

-- Whether the loan with this number has as many values as these.
abbrev pub is_filled : {T U H : Type 0} → (DomainId → H → Option (ServicePorts T U)) → List T → Option MadeLoan → H → Bool
is_filled ports_of values None home = false
is_filled ports_of values (Some made) home = fits_in values made.port.number made.slot (ports_of made.port.domain home)

-- The ports after all values of the loan in a slot were written, if the loan has as many values as these.
abbrev pub filled_in : {T U : Type 0} → List T → ℕ → ℕ → ServicePorts T U → ServicePorts T U
filled_in values number slot ports = written_in number (λ port. has_length slot (length values) port.sender.uses) slot
    (write_all values) ports

-- The loan with this number is sent; nothing happens if there is none.
abbrev pub SendsUnder : {T U H : Type 0} → (DomainId → H → Option (ServicePorts T U)) → (DomainId → ServicePorts T U → H → H)
    → (DomainId → ℕ → H → DegradationInfo → DegradationAction → Type 0)
    → (DomainId → ℕ → H → BackpressureInfo → BackpressureDecision → Type 0) → Option MadeLoan → H → Option (Result Sent SendError) → H
    → Type 0
SendsUnder ports_of with_ports degrades decides None old answer new = (answer ≡ None) × (new ≡ old)
SendsUnder ports_of with_ports degrades decides (Some made) old answer new
    = Sends ports_of with_ports degrades decides made.slot made.port old answer new
