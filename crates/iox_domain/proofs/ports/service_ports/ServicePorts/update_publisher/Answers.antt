use Rattle.std.proofs.Common.{rules, refl, ap, ◌≡◌, Some}
use Rattle.iox_domain_ports.specs.DomainValues.declared.degradation.DegradationCause.TheVariants as cause
use Rattle.iox_domain_ports.specs.Publishers.{port_of}
use Rattle.iox_domain.specs.PortsPublishing.{UpdatesOne}
use Rattle.iox_domain.proofs.Lifting.{at_publisher, at_publisher-none}
use Rattle.iox_domain.proofs.ports.service_ports.ServicePorts.update_publisher.Goals as goal

pub returns-in_err-outcome : goal.returns-in_err-outcome
returns-in_err-outcome g c =
    let there : port_of c.args.number c.args.self.now.publishers ≡ Some c.in_ok-port.port.now
    = search (rules, c.in_ok-port.ensures.value) in
    rw c.from_residual-in_err-outcome.ensures
    (at_publisher-none c.args.number (UpdatesOne (g.D.Degrades.degrades c.args.handler.now cause.FailedToEstablishConnection)
    c.args.self.now.subscriber_list) c.args.self.now _ c.in_ok-port.port.now c.update_one.new.port there
    c.in_err-outcome.ensures.updates (c.in_err-outcome.ensures.none refl) refl)

pub returns : goal.returns
returns g c =
    let there : port_of c.args.number c.args.self.now.publishers ≡ Some c.in_ok-port.port.now
    = search (rules, c.in_ok-port.ensures.value) in
    at_publisher c.args.number (UpdatesOne (g.D.Degrades.degrades c.args.handler.now cause.FailedToEstablishConnection)
    c.args.self.now.subscriber_list) c.args.self.now _ c.in_ok-port.port.now c.update_one.new.port c.in_ok-outcome.outcome there
    c.in_ok-outcome.ensures.updates (ap (λ publishers. record c.args.self.now { publishers = publishers }) c.settle.ensures)
