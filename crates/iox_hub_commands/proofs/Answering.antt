-- A loan is answered, or refused, just where its publisher may lend.
use Rattle.std.proofs.Common.{◌≡◌, ◌∙◌, ◌&&◌, ℕ, Bool, true, false, not, is_some, if◌then◌else◌, Option, None, Some, Result, refl, ap}
use Rattle.iox_delivery.specs.DomainValues.declared.data_segment.AllocationStrategy.{AllocationStrategy}
use Rattle.iox_delivery.specs.DomainValues.declared.port_error.LoanError.{LoanError}
use Rattle.iox_delivery.specs.DomainPorts.Loaning as loaning
use Rattle.iox_delivery.specs.DomainPorts.declared.publisher_port.PublisherPort.{PublisherPort}
use Rattle.iox_delivery.specs.DomainPorts.Publishers.{port_of}
use Rattle.iox_delivery.specs.Domain.Lending.{LoansIf, LoansOne, passes_port}
use Rattle.iox_delivery.specs.Domain.Ports.{AtPublisher}
use Rattle.iox_delivery.specs.Domain.PortsPublishing.{is_blocked}
use Rattle.iox_delivery.specs.Domain.declared.ports.service_ports.ServicePorts.{ServicePorts}
use Rattle.iox_delivery.specs.Domain.AtHomes.{AtDomain}
use Rattle.iox_delivery.specs.Domain.Steps.{LoansBy}
use Rattle.iox_delivery.specs.Domain.declared.domain_id.DomainId.{DomainId}
use Rattle.iox_delivery.specs.Holding.{publisher_stands, publisher_blocked}
use Rattle.iox_hub_commands.specs.Calls.{may_lend}
use Rattle.iox_hub_commands.specs.Laws.{AnswersWhereReady}

waits_tell : {T U : Type 0} (waits : Bool) (allocation : AllocationStrategy) (elements : ℕ) (old new : PublisherPort T U)
    (answer : Option (Result ℕ LoanError))
    → loaning.LoansIf waits allocation elements elements old answer new → is_some answer ≡ not waits
waits_tell true allocation elements old new answer loans = ap is_some loans.0
waits_tell false allocation elements old new answer loans = ap is_some loans.1

stands_tell : {T U : Type 0} (stands : Bool) (elements : ℕ) (old new : PublisherPort T U) (answer : Option (Result ℕ LoanError))
    → LoansIf stands elements elements old answer new → is_some answer ≡ (stands && not (is_blocked old))
stands_tell false elements old new answer loans = ap is_some loans.0
stands_tell true elements old new answer loans = waits_tell (is_blocked old) old.allocation elements old new answer loans

port_tells : {T U : Type 0} (found : Option (PublisherPort T U)) (number elements : ℕ) (old new : ServicePorts T U)
    (answer : Option (Result ℕ LoanError))
    → AtPublisher number (LoansOne elements elements) found old answer new
    → is_some answer ≡ (passes_port (λ port. port.stands) found && not (passes_port is_blocked found))
port_tells None number elements old new answer loans = ap is_some loans.0
port_tells (Some port) number elements old new None loans = stands_tell port.stands elements port loans.0 None loans.1
port_tells (Some port) number elements old new (Some lent) loans = stands_tell port.stands elements port loans.0 (Some lent) loans.1

home_tells : {T U H : Type 0} (found : Option (ServicePorts T U)) (put : ServicePorts T U → H) (number elements : ℕ) (old new : H)
    (answer : Option (Result ℕ LoanError))
    → AtDomain put (LoansBy number elements elements) found old answer new
    → is_some answer ≡ (publisher_stands number found && not (publisher_blocked number found))
home_tells None put number elements old new answer loans = ap is_some loans.0
home_tells (Some ports) put number elements old new answer loans
    = port_tells (port_of number ports.publishers) number elements ports loans.0 answer loans.1

some_if : {X : Type 0} (b : Bool) (x : X) → b ≡ is_some (if b then Some x else None)
some_if true x = refl
some_if false x = refl

-- a loan is answered, or refused, just where its publisher may lend
pub answers_ready : {T U H : Type 0} (ports_of : DomainId → H → Option (ServicePorts T U))
    (with_ports : DomainId → ServicePorts T U → H → H) → AnswersWhereReady ports_of with_ports
answers_ready ports_of with_ports elements None old new answer lends = ap is_some lends.0
answers_ready ports_of with_ports elements (Some port) old new answer lends =
    home_tells (ports_of port.domain old) (λ after. with_ports port.domain after old) port.number elements old new answer lends ∙
    some_if (may_lend ports_of port old) port
