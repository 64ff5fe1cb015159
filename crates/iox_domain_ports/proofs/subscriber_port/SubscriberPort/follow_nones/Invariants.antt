use Rattle.iox_domain_ports.proofs.Walking.{Clearing}
use Rattle.iox_domain_ports.proofs.subscriber_port.SubscriberPort.follow_nones.Given as goal

abbrev pub invariant-loop-place : goal.invariant-loop-place
invariant-loop-place g l = Clearing l.fn.listed l.count l.fn.self l.fn.publishers l.self l.publishers l.place
