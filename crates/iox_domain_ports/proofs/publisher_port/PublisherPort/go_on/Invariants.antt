use Rattle.iox_domain_ports.proofs.Delivering.{Going}
use Rattle.iox_domain_ports.proofs.publisher_port.PublisherPort.go_on.Given as goal

abbrev pub invariant-loop-place : goal.invariant-loop-place
invariant-loop-place g l =
    Going (g.B.Decides.decides l.fn.handlers) l.fn.self l.self l.place
