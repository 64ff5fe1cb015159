use Rattle.std.proofs.Common.{rules, refl, ◌≡◌, Some}
use Rattle.iox_domain_ports.specs.DomainValues.declared.degradation.DegradationCause.TheVariants as cause
use Rattle.iox_domain.specs.Subscribers.{subscriber_of}
use Rattle.iox_domain.specs.PortsSubscribing.{UpdatesOne}
use Rattle.iox_domain.proofs.Lifting.{at_subscriber}
use Rattle.iox_domain.proofs.ports.service_ports.ServicePorts.update_subscriber.Goals as goal

pub returns : goal.returns
returns g c =
    let there : subscriber_of c.args.number c.args.self.now.subscribers ≡ Some c.in_ok-port.port.now
    = search (rules, c.in_ok-port.ensures.value) in
    at_subscriber c.args.number (UpdatesOne (g.D.Degrades.degrades c.args.handler.now cause.FailedToEstablishConnection)
    c.args.self.now.publisher_list) c.args.self.now _ c.in_ok-port.port.now c.update_one.new.port c.update_one.new.publishers
    c.update_one.result there
    c.update_one.ensures.updates c.update_one.ensures.port_stays c.update_one.ensures.publishers_stay refl
