-- A publisher loans a slot, what is to be sent is written there, and a loan is dropped.
use Rattle.std.specs.Prelude.{ℕ, ◌≡◌, Bool, true, false, Option, None, Some, option_map, Result}
use Rattle.iox_describe_base.specs.declared.header.Header.{Header}
use Rattle.iox_domain_ports.specs.DomainValues.declared.port_error.LoanError.{LoanError}
use Rattle.iox_domain_ports.specs.Messages.{Loan}
use Rattle.iox_domain_ports.specs.Loaning.{Loans}
use Rattle.iox_domain_ports.specs.Writing.{loan_of, changed_if, changed_there, given_up}
use Rattle.iox_domain_ports.specs.declared.publisher_port.PublisherPort.{PublisherPort}
use Rattle.iox_domain_ports.specs.Publishers.{port_of, changed, settled}
use Rattle.iox_domain.specs.declared.ports.service_ports.ServicePorts.{ServicePorts}

-- An open publisher loans a slot; at a closed one nothing happens.
abbrev pub LoansIf : {T U : Type 0} → Bool → ℕ → ℕ → PublisherPort T U → Option (Result ℕ LoanError) → PublisherPort T U → Type 0
LoansIf false values elements port answer after = (answer ≡ None) × (after ≡ port)
LoansIf true values elements port answer after = Loans port.allocation values elements port answer after

-- What a loan of `values` values and `elements` elements at the publisher answers and changes.
abbrev pub LoansOne : {T U : Type 0} → ℕ → ℕ → PublisherPort T U → Option (Result ℕ LoanError) → PublisherPort T U → Type 0
LoansOne values elements port answer after = LoansIf port.stands values elements port answer after

-- Whether the publisher exists and passes the test.
abbrev pub passes_port : {T U : Type 0} → (PublisherPort T U → Bool) → Option (PublisherPort T U) → Bool
passes_port test None = false
passes_port test (Some port) = test port

-- Whether the publisher with this number exists and passes the test.
abbrev pub passes : {T U : Type 0} → ℕ → (PublisherPort T U → Bool) → ServicePorts T U → Bool
passes number test ports = passes_port test (port_of number ports.publishers)

-- The ports after the loan in this slot of the publisher was changed, if the publisher passes the test.
abbrev pub written_in : {T U : Type 0} → ℕ → (PublisherPort T U → Bool) → ℕ → (Loan T U → Loan T U) → ServicePorts T U → ServicePorts T U
written_in number test slot change ports
    = record ports { publishers = changed number (λ port. changed_if (test port) slot change port) ports.publishers }

-- The loan in this slot of the publisher, if both exist.
abbrev pub loan_at_port : {T U : Type 0} → ℕ → Option (PublisherPort T U) → Option (Loan T U)
loan_at_port slot None = None
loan_at_port slot (Some port) = loan_of slot port

-- The loan in this slot of the publisher with this number, if both exist.
abbrev pub loan_in : {T U : Type 0} → ℕ → ℕ → ServicePorts T U → Option (Loan T U)
loan_in number slot ports = loan_at_port slot (port_of number ports.publishers)

-- What the header of a loan says: the node and the publisher that will send it, and how many elements it has; it has no
-- sequence number yet.
abbrev pub header_of_loan : {T U : Type 0} → PublisherPort T U → Loan T U → Header
header_of_loan port loan = record {
  node_id = port.owner.node_id;
  publisher_id = port.number;
  number_of_elements = loan.elements;
  sequence = None;
}

-- The header of the loan in this slot of the publisher, if both exist.
abbrev pub loan_header_at_port : {T U : Type 0} → ℕ → Option (PublisherPort T U) → Option Header
loan_header_at_port slot None = None
loan_header_at_port slot (Some port) = option_map (header_of_loan port) (loan_of slot port)

-- The header of the loan in this slot of the publisher with this number, if both exist.
abbrev pub loan_header_in : {T U : Type 0} → ℕ → ℕ → ServicePorts T U → Option Header
loan_header_in number slot ports = loan_header_at_port slot (port_of number ports.publishers)

-- The ports after the loan in this slot of the publisher with this number was changed.
abbrev pub loan_changed_in : {T U : Type 0} → ℕ → ℕ → (Loan T U → Loan T U) → ServicePorts T U → ServicePorts T U
loan_changed_in number slot change ports = record ports { publishers = changed number (changed_there slot change) ports.publishers }

-- The ports after the loan in this slot of the publisher with this number was dropped; a publisher that is over then is
-- removed.
abbrev pub gave_up_in : {T U : Type 0} → ℕ → ℕ → ServicePorts T U → ServicePorts T U
gave_up_in number slot ports = record ports { publishers = settled number (changed number (given_up slot) ports.publishers) }
