use Rattle.std.proofs.Common.{rules, refl, ◌≡◌, Some}
use Rattle.iox_domain.specs.Subscribers.{subscriber_of}
use Rattle.iox_domain.proofs.Lifting.{subscriber_stays}
use Rattle.iox_domain.proofs.ports.service_ports.ServicePorts.leave_subscriber.Goals as goal

pub returns-in_default-leave_one : goal.returns-in_default-leave_one
returns-in_default-leave_one g c =
    let there : subscriber_of c.args.number c.args.self.now.subscribers ≡ Some c.in-Some.port.now
    = search (rules, c.in-Some.ensures.value) in
    subscriber_stays c.args.number c.args.self.now _ c.in-Some.port.now c.leave_one.new.port c.leave_one.new.publishers there
    c.in_default-leave_one.ensures.leaves
    (c.in_default-leave_one.ensures.port_stays refl) (c.in_default-leave_one.ensures.publishers_stay refl) refl
