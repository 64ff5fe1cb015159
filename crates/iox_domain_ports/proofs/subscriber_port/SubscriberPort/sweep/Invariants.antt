use Rattle.std.proofs.Common.{◌-◌}
use Rattle.iox_domain_ports.specs.Receiving.{swept}
use Rattle.iox_domain_ports.proofs.Sweeping.{Sweeping}
use Rattle.iox_domain_ports.proofs.subscriber_port.SubscriberPort.sweep.Given as goal

abbrev pub invariant-loop-done : goal.invariant-loop-done
invariant-loop-done g l =
    Sweeping l.fn.count (swept l.fn.first (l.fn.count - l.fn.first) (l.fn.self, l.fn.publishers)) (l.self, l.publishers) l.place l._done
