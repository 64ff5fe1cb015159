use Rattle.std.proofs.Common.{rules, refl, ap, ◌≡◌, Some}
use Rattle.iox_domain_ports.specs.Publishers.{port_of}
use Rattle.iox_domain.specs.PortsPublishing.{RetriesOne}
use Rattle.iox_domain.proofs.Lifting.{at_publisher, at_publisher-none}
use Rattle.iox_domain.proofs.ports.service_ports.ServicePorts.retry.Goals as goal

pub returns-in_err-outcome : goal.returns-in_err-outcome
returns-in_err-outcome g c =
    let there : port_of c.args.number c.args.self.now.publishers ≡ Some c.in_ok-port.port.now
    = search (rules, c.in_ok-port.ensures.value) in
    rw c.from_residual-in_err-outcome.ensures
    (at_publisher-none c.args.number (RetriesOne (g.B.Decides.decides c.args.handlers.now) c.args.elapsed) c.args.self.now _
    c.in_ok-port.port.now c.retry_one.new.port there c.in_err-outcome.ensures.retries (c.in_err-outcome.ensures.none refl) refl)

pub returns : goal.returns
returns g c =
    let there : port_of c.args.number c.args.self.now.publishers ≡ Some c.in_ok-port.port.now
    = search (rules, c.in_ok-port.ensures.value) in
    at_publisher c.args.number (RetriesOne (g.B.Decides.decides c.args.handlers.now) c.args.elapsed) c.args.self.now _
    c.in_ok-port.port.now c.retry_one.new.port c.in_ok-outcome.outcome there
    c.in_ok-outcome.ensures.retries (ap (λ publishers. record c.args.self.now { publishers = publishers }) c.settle.ensures)
