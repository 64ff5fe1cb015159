use Rattle.iox_domain_ports.specs.DomainValues.declared.degradation.DegradationCause.TheVariants as cause
use Rattle.iox_domain.proofs.Coming.{adds_publisher}
use Rattle.iox_domain.proofs.ports.service_ports.ServicePorts.add_publisher.Goals as goal

pub returns : goal.returns
returns g c =
    adds_publisher (g.D.Degrades.degrades c.args.handler.now cause.FailedToEstablishConnection) c.args.config c.args.user_header
    c.args.place c.args.slots c.args.self.now c.listed-listed.result.now c.changes-changes.result c.identity.result
    c.before_first.result c.sender_config.result c.in_ok-port.port c.update.new.self c.update.result c.insert.new.self
    c.enter.result c.enter.new.self
    c.listed-listed.ensures.whole c.changes-changes.ensures c.identity.ensures c.before_first.ensures
    c.sender_config.ensures.config c.in_ok-port.ensures c.update.ensures.updates c.in_ok-insert.ensures.ok c.requires.place
    c.enter.ensures.place c.enter.ensures.listed
