use Rattle.std.proofs.Common.{rules, refl, ap, ◌≡◌, Some}
use Rattle.iox_domain_ports.specs.Publishers.{port_of}
use Rattle.iox_domain.specs.PortsPublishing.{GivesUpOne}
use Rattle.iox_domain.proofs.Lifting.{at_publisher, at_publisher-none}
use Rattle.iox_domain.proofs.ports.service_ports.ServicePorts.give_up.Goals as goal

pub returns-in_err-delivered : goal.returns-in_err-delivered
returns-in_err-delivered g c =
    let there : port_of c.args.number c.args.self.now.publishers ≡ Some c.in_ok-port.port.now
    = search (rules, c.in_ok-port.ensures.value) in
    rw c.from_residual-in_err-delivered.ensures
    (at_publisher-none c.args.number GivesUpOne c.args.self.now _ c.in_ok-port.port.now c.give_up_one.new.port there
    c.in_err-delivered.ensures.gives_up (c.in_err-delivered.ensures.none refl) refl)

pub returns : goal.returns
returns g c =
    let there : port_of c.args.number c.args.self.now.publishers ≡ Some c.in_ok-port.port.now
    = search (rules, c.in_ok-port.ensures.value) in
    at_publisher c.args.number GivesUpOne c.args.self.now _ c.in_ok-port.port.now c.give_up_one.new.port c.in_ok-delivered.delivered there
    c.in_ok-delivered.ensures.gives_up (ap (λ publishers. record c.args.self.now { publishers = publishers }) c.settle.ensures)
