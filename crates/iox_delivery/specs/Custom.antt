-- The calls of ports whose values are the bytes of a payload: only the description says how many bytes an element has.
use Rattle.std.specs.Prelude.{ℕ, ◌*◌, ◌-◌, ◌^◌, ◌≡◌, ◌==◌, Bool, true, min, Option, None, Some, Result}
use Rattle.iox_domain.specs.DescribeBase.declared.type_detail.TypeVariant.{TypeVariant}
use Rattle.iox_domain.specs.DescribeBase.declared.type_detail.TypeVariant.TheVariants.{FixedSize, Dynamic}
use Rattle.iox_domain.specs.DomainValues.declared.port_error.LoanError.{LoanError}
use Rattle.iox_delivery.specs.DomainPorts.declared.publisher_port.PublisherPort.{PublisherPort}
use Rattle.iox_delivery.specs.Domain.declared.ports.service_ports.ServicePorts.{ServicePorts}
use Rattle.iox_delivery.specs.Domain.declared.domain_id.DomainId.{DomainId}
use Rattle.iox_delivery.specs.Holding.{publisher_found}
use Rattle.iox_delivery.specs.Publishing.{lent_of, LendsSlot}
use Rattle.iox_delivery.specs.declared.loan.Loan.{Loan as Lent}
use Rattle.iox_delivery.specs.declared.loan.Uninit.{Uninit}
use Rattle.iox_delivery.specs.declared.port_id.PortId.{PortId}

-- Whether a message may have this many elements: one, or any number if a payload is a slice.
abbrev pub may_have : ℕ → TypeVariant → Bool
may_have elements FixedSize = elements == 1
may_have elements Dynamic = true

-- How many values an element of the publisher has; 0 if there is no publisher.
abbrev pub unit_of : {T U : Type 0} → Option (PublisherPort T U) → ℕ
unit_of None = 0
unit_of (Some port) = port.unit

-- How many values these elements of the publisher with this number have, counted up to 2^64 - 1: no slot has capacity for as many.
abbrev pub values_of : {T U : Type 0} → ℕ → ℕ → Option (ServicePorts T U) → ℕ
values_of number elements ports = min (elements * unit_of (publisher_found number ports)) (2 ^ 64 - 1)

-- What the loan of `elements` elements, with all of their values, answers and changes; the header says `elements`.
abbrev pub LendsElements : {T U K H : Type 0} → (DomainId → H → Option (ServicePorts T U)) → (DomainId → ServicePorts T U → H → H)
    → PortId → ℕ → H → Result (Lent T U K Uninit) LoanError → H → Type 0
LendsElements ports_of with_ports port elements old answer new =
    (lent : Result ℕ LoanError) × LendsSlot ports_of with_ports port (values_of port.number elements (ports_of port.domain old))
    elements old lent new
    × (answer ≡ lent_of (values_of port.number elements (ports_of port.domain old)) port lent)
