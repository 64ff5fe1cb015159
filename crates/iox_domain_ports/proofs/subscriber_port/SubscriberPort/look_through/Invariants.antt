use Rattle.std.proofs.Common.{◌≡◌}
use Rattle.iox_domain_ports.specs.Receiving.{unmet_from}
use Rattle.iox_domain_ports.proofs.Asking.{LookedSoFar}
use Rattle.iox_domain_ports.proofs.subscriber_port.SubscriberPort.look_through.Given as goal

abbrev pub invariant-loop-key : goal.invariant-loop-key
invariant-loop-key g l = record {
  looked : LookedSoFar l.self l.publishers l.fn.met.count l.key l.unread;
  unmet : l.unmet ≡ unmet_from l.key l.self.connections.values;
}
