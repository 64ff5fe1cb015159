use Rattle.std.proofs.Common.{arith}
use Rattle.iox_domain_ports.specs.Subscribing.{has_data}
use Rattle.iox_domain_ports.proofs.First.{none_first}
use Rattle.iox_domain_ports.proofs.Unmet.{no_data_left}
use Rattle.iox_domain_ports.proofs.subscriber_port.SubscriberPort.first_data.Goals as goal

pub returns-then-unmet-eq0 : goal.returns-then-unmet-eq0
returns-then-unmet-eq0 g c =
    none_first (has_data c.args.self.now c.args.publishers.now) c.loop-key.key c.loop-key.invariant.none
    (λ other past. no_data_left c.args.self.now c.args.publishers.now c.loop-key.key other
    (omega (arith, c.loop-key.invariant.unmet)) past)
