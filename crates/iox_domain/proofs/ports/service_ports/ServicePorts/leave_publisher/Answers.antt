use Rattle.std.proofs.Common.{rules, refl, ◌≡◌, Some}
use Rattle.iox_domain_ports.specs.Publishers.{port_of}
use Rattle.iox_domain.proofs.Lifting.{publisher_stays}
use Rattle.iox_domain.proofs.ports.service_ports.ServicePorts.leave_publisher.Goals as goal

pub returns-in_default-leave_one : goal.returns-in_default-leave_one
returns-in_default-leave_one g c =
    let there : port_of c.args.number c.args.self.now.publishers ≡ Some c.in-Some.port.now = search (rules, c.in-Some.ensures.value) in
    publisher_stays c.args.number c.args.self.now _ c.in-Some.port.now c.leave_one.new.port there c.in_default-leave_one.ensures.leaves
    (c.in_default-leave_one.ensures.none refl) refl
