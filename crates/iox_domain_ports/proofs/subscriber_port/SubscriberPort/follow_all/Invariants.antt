use Rattle.iox_domain_values.specs.declared.degradation.DegradationCause.TheVariants as cause
use Rattle.iox_domain_ports.proofs.Walking.{Following}
use Rattle.iox_domain_ports.proofs.subscriber_port.SubscriberPort.follow_all.Given as goal

abbrev pub invariant-loop-place : goal.invariant-loop-place
invariant-loop-place g l =
    Following (g.D.Degrades.degrades l.fn.handler cause.FailedToEstablishConnection) l.fn.is_new l.fn.listed l.fn.self l.fn.publishers
    l.found l.self l.publishers l.place
