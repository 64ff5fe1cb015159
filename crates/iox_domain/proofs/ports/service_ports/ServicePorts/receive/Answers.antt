use Rattle.std.proofs.Common.{rules, refl, ◌≡◌, Some}
use Rattle.iox_domain_ports.specs.DomainValues.declared.degradation.DegradationCause.TheVariants as cause
use Rattle.iox_domain.specs.Subscribers.{subscriber_of}
use Rattle.iox_domain.specs.PortsSubscribing.{ReceivesOne}
use Rattle.iox_domain.proofs.Lifting.{at_subscriber}
use Rattle.iox_domain.proofs.ports.service_ports.ServicePorts.receive.Goals as goal

pub returns : goal.returns
returns g c =
    let there : subscriber_of c.args.number c.args.self.now.subscribers ≡ Some c.in_ok-port.port.now
    = search (rules, c.in_ok-port.ensures.value) in
    at_subscriber c.args.number (ReceivesOne (g.D.Degrades.degrades c.args.handler.now cause.FailedToEstablishConnection)
    c.args.self.now.publisher_list) c.args.self.now _ c.in_ok-port.port.now c.receive_one.new.port c.receive_one.new.publishers
    c.receive_one.result there
    c.receive_one.ensures.receives c.receive_one.ensures.port_stays c.receive_one.ensures.publishers_stay refl
