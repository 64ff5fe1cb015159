use Rattle.std.proofs.Common.{rules, refl, ◌≡◌, Some}
use Rattle.iox_domain_ports.specs.DomainValues.declared.degradation.DegradationCause.TheVariants as cause
use Rattle.iox_domain.specs.Subscribers.{subscriber_of}
use Rattle.iox_domain.specs.PortsSubscribing.{HasSamplesOne}
use Rattle.iox_domain.proofs.Lifting.{at_subscriber}
use Rattle.iox_domain.proofs.ports.service_ports.ServicePorts.has_samples.Goals as goal

pub returns : goal.returns
returns g c =
    let there : subscriber_of c.args.number c.args.self.now.subscribers ≡ Some c.in_ok-port.port.now
    = search (rules, c.in_ok-port.ensures.value) in
    at_subscriber c.args.number (HasSamplesOne (g.D.Degrades.degrades c.args.handler.now cause.FailedToEstablishConnection)
    c.args.self.now.publisher_list) c.args.self.now _ c.in_ok-port.port.now c.has_samples_one.new.port
    c.has_samples_one.new.publishers c.has_samples_one.result there
    c.has_samples_one.ensures.has c.has_samples_one.ensures.port_stays c.has_samples_one.ensures.publishers_stay refl
