use Rattle.iox_domain_values.specs.declared.degradation.DegradationCause.TheVariants as cause
use Rattle.iox_domain_ports.proofs.Enough.{follows_enough}
use Rattle.iox_domain_ports.proofs.publisher_port.PublisherPort.update.Goals as goal

pub returns-clause-enough : goal.returns-clause-enough
returns-clause-enough g c = λ room.
    follows_enough (g.D.Degrades.degrades c.args.handler.now cause.FailedToEstablishConnection)
    c.args.listed.now c.args.changes c.args.self.now c.follow_all.new.self c.follow_all.result room c.follow_all.ensures.follows
