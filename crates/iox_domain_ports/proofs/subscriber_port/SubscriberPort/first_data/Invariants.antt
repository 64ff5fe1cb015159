use Rattle.std.proofs.Common.{◌≡◌}
use Rattle.iox_domain_ports.specs.Receiving.{unmet_from}
use Rattle.iox_domain_ports.specs.Subscribing.{has_data}
use Rattle.iox_domain_ports.proofs.First.{NonePasses}
use Rattle.iox_domain_ports.proofs.subscriber_port.SubscriberPort.first_data.Given as goal

abbrev pub invariant-loop-key : goal.invariant-loop-key
invariant-loop-key g l = record {
  none : NonePasses (has_data l.self l.publishers) l.key;
  unmet : l.unmet ≡ unmet_from l.key l.self.connections.values;
}
