use Rattle.std.proofs.Common.{◌≡◌, drop}
use Rattle.iox_domain_ports.specs.Receiving.{left_all, unmet_from}
use Rattle.iox_domain_ports.proofs.subscriber_port.SubscriberPort.leave_all.Given as goal

abbrev pub invariant-loop-key : goal.invariant-loop-key
invariant-loop-key g l = record {
  left : left_all (drop l.key l.fn.self.connections.values) l.publishers
      ≡ left_all l.fn.self.connections.values l.fn.publishers;
  unmet : l.unmet ≡ unmet_from l.key l.fn.self.connections.values;
}
