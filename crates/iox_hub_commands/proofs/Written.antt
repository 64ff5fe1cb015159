-- A loan whose elements are written gets a number.
use Rattle.std.proofs.Common.{◌≡◌, ℕ, replicate, IfOk, Option, Some, Result, refl, subst}
use Rattle.iox_delivery.specs.DomainValues.declared.port_error.LoanError.{LoanError}
use Rattle.iox_delivery.specs.Domain.declared.ports.service_ports.ServicePorts.{ServicePorts}
use Rattle.iox_delivery.specs.Domain.declared.domain_id.DomainId.{DomainId}
use Rattle.iox_delivery.specs.Lent.{IsReady}
use Rattle.iox_delivery.specs.declared.port_id.PortId.{PortId}
use Rattle.iox_delivery.specs.Slices.{LendsFilled}
use Rattle.iox_hub_commands.specs.Numbering.{NumbersLoan, LendsWrittenNumbered}
use Rattle.iox_hub_commands.specs.declared.ports.made.Made.{Made}

-- what a publisher that may lend lent, and under which number
pub numbered : {T U H : Type 0} (ports_of : DomainId → H → Option (ServicePorts T U)) (with_ports : DomainId → ServicePorts T U → H → H)
    (elements : ℕ) (value : T) (found : Option PortId) (port : PortId)
    (lent : Result ℕ LoanError) (made made_after : Made) (old new : H) (answer : Option (Result ℕ LoanError)) → Some port ≡ found
    → LendsFilled ports_of with_ports port elements value old lent new
    → IfOk lent (λ slot. IsReady port.number (replicate elements value) elements slot (ports_of port.domain new))
    → NumbersLoan (Some port) (Some lent) made answer made_after
    → LendsWrittenNumbered ports_of with_ports elements value found made old answer made_after new
numbered ports_of with_ports elements value found port lent made made_after old new answer there lends is numbers =
    let P : Option PortId → Type 0 = λ one. LendsWrittenNumbered ports_of with_ports elements value one made old answer made_after new in
    subst P there (Some lent, (lent, lends, is, refl), numbers)
