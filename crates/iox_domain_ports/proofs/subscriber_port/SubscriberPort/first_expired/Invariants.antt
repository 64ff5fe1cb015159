use Rattle.iox_domain_ports.specs.Expired.{is_sought}
use Rattle.iox_domain_ports.proofs.First.{NoneMet}
use Rattle.iox_domain_ports.proofs.subscriber_port.SubscriberPort.first_expired.Given as goal

abbrev pub invariant-loop-place : goal.invariant-loop-place
invariant-loop-place g l = NoneMet (is_sought l.sought l.self l.publishers) l.self.expired.items l.place
