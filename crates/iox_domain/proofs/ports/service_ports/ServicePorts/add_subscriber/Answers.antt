use Rattle.iox_domain_ports.specs.DomainValues.declared.degradation.DegradationCause.TheVariants as cause
use Rattle.iox_domain.proofs.Coming.{adds_subscriber}
use Rattle.iox_domain.proofs.ports.service_ports.ServicePorts.add_subscriber.Goals as goal

pub returns : goal.returns
returns g c =
    adds_subscriber (g.D.Degrades.degrades c.args.handler.now cause.FailedToEstablishConnection) c.args.owner c.args.place
    c.args.buffer_size c.args.self.now c.follow_first.new.self c.identity.result c.in_ok-port.port c.insert.new.self c.enter.result
    c.enter.new.self
    c.identity.ensures c.in_ok-port.ensures c.in_ok-insert.ensures.ok c.follow_first.ensures c.requires.place c.enter.ensures.place
    c.enter.ensures.listed
