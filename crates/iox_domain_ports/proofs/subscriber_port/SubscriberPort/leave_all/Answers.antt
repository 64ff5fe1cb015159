use Rattle.std.proofs.Common.{arith}
use Rattle.iox_domain_ports.proofs.Sweeping.{all_left}
use Rattle.iox_domain_ports.proofs.Unmet.{none_unmet}
use Rattle.iox_domain_ports.proofs.subscriber_port.SubscriberPort.leave_all.Goals as goal

pub returns-then-unmet-eq0 : goal.returns-then-unmet-eq0
returns-then-unmet-eq0 g c =
    all_left c.args.self.now.connections.values c.args.publishers.now c.loop-key.publishers c.loop-key.key c.loop-key.invariant.left
    (λ other past. none_unmet c.args.self.now.connections.values c.loop-key.key other (omega (arith, c.loop-key.invariant.unmet)) past)

pub returns : goal.returns
returns g c =
    all_left c.args.self.now.connections.values c.args.publishers.now c.loop-key.publishers c.loop-key.key c.loop-key.invariant.left
    (λ other past. c.reached-key-end.ensures.none other (omega (arith, c.loop-key-test.false, past)))
