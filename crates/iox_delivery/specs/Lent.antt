-- What a loan is that was just made.
use Rattle.std.specs.Prelude.{ℕ, ◌≡◌, true, false, List, map, Option, None, Some, Ok}
use Rattle.iox_domain.specs.DomainPorts.Messages.{new_loan}
use Rattle.iox_domain.specs.DomainPorts.declared.publisher_port.PublisherPort.{PublisherPort}
use Rattle.iox_domain.specs.Lending.{loan_in, loan_header_in, passes}
use Rattle.iox_domain.specs.PortsPublishing.{is_blocked}
use Rattle.iox_domain.specs.declared.ports.service_ports.ServicePorts.{ServicePorts}
use Rattle.iox_domain.specs.DomainPorts.Publishers.{port_of}
use Rattle.iox_domain.specs.Steps.{LoansBy}
use Rattle.iox_delivery.specs.Holding.{loan_found, publisher_blocked}

-- The loan that was just made is found in its slot: none of its values is written, and it has the user header that its publisher
-- gives new loans. Its header says that publisher and no sequence number. The publisher is open, and no send of it is blocked.
abbrev pub IsFresh : {T U : Type 0} → ℕ → ℕ → ℕ → ℕ → ServicePorts T U → ServicePorts T U → Type 0
IsFresh {T} {U} number values elements slot old new =
    (port : PublisherPort T U) × (port_of number old.publishers ≡ Some port)
    × (loan_in number slot new ≡ Some (new_loan slot values elements port.sender.user_header))
    × (loan_header_in number slot new ≡ Some
    (record { node_id = port.owner.node_id; publisher_id = port.number; number_of_elements = elements; sequence = None }))
    × (passes number (λ port. port.stands) new ≡ true) × (passes number is_blocked new ≡ false)

-- Each loan that was just made is fresh.
abbrev pub LoanIsFresh : (T U : Type 0) → Type 0
LoanIsFresh T U = (number values elements slot : ℕ) (old new : ServicePorts T U)
    → LoansBy number values elements old (Some (Ok slot)) new → IsFresh number values elements slot old new

-- The loan in this slot has just these values, each written, and `elements` elements; and no send of its publisher is blocked.
abbrev pub IsReady : {T U : Type 0} → ℕ → List T → ℕ → ℕ → Option (ServicePorts T U) → Type 0
IsReady {T} {U} number values elements slot ports =
    (user_header : U) × (loan_found number slot ports
    ≡ Some (record { slot = slot; elements = elements; user_header = user_header; values = map Some values }))
    × (publisher_blocked number ports ≡ false)
