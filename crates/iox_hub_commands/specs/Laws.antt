-- Theorems about the calls by number: consequences of their steps.
use Rattle.std.specs.Prelude.{ℕ, ◌≡◌, false, List, is_some, Option, Result}
use Rattle.iox_delivery.specs.DomainValues.declared.port_error.LoanError.{LoanError}
use Rattle.iox_delivery.specs.Domain.declared.ports.service_ports.ServicePorts.{ServicePorts}
use Rattle.iox_delivery.specs.Domain.declared.domain_id.DomainId.{DomainId}
use Rattle.iox_delivery.specs.declared.port_id.PortId.{PortId}
use Rattle.iox_hub_commands.specs.Calls.{AtPort, Lends, ready}
use Rattle.iox_hub_commands.specs.Loans.{changed_under, is_filled, filled_in}
use Rattle.iox_hub_commands.specs.declared.ports.made.MadeLoan.{MadeLoan}

-- A fill that doesn't fit changes nothing.
abbrev pub MisfitChangesNothing : {T U H : Type 0} → (DomainId → H → Option (ServicePorts T U)) → (DomainId → ServicePorts T U → H → H)
    → Type 0
MisfitChangesNothing {T} {U} {H} ports_of with_ports =
    (values : List T) (loan : Option MadeLoan) (home : H) → is_filled ports_of values loan home ≡ false
    → changed_under ports_of with_ports (filled_in values) loan home ≡ home

-- A loan of a publisher is answered, or refused, exactly if the publisher may loan; otherwise nothing is answered.
abbrev pub AnswersWhereReady : {T U H : Type 0} → (DomainId → H → Option (ServicePorts T U)) → (DomainId → ServicePorts T U → H → H)
    → Type 0
AnswersWhereReady {T} {U} {H} ports_of with_ports =
    (elements : ℕ) (port : Option PortId) (old new : H) (answer : Option (Result ℕ LoanError))
    → AtPort (Lends ports_of with_ports elements) port old answer new
    → is_some answer ≡ is_some (ready ports_of port old)
