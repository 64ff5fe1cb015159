use Rattle.iox_domain_ports.proofs.Asking.{MetSoFar}
use Rattle.iox_domain_ports.proofs.subscriber_port.SubscriberPort.meet.Given as goal

abbrev pub invariant-loop-place : goal.invariant-loop-place
invariant-loop-place g l = MetSoFar l.self l.publishers l.place l.idle l.unread
