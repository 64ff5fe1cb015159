use Rattle.std.proofs.Common.{rules}
use Rattle.iox_domain_ports.proofs.Asking.{receives_nothing}
use Rattle.iox_domain_ports.proofs.subscriber_port.SubscriberPort.receive_now.Goals as goal

pub returns : goal.returns
returns g c = receives_nothing c.args.self.now c.args.publishers.now c.meet-met.result.count c.meet-met.result.idle
    c.look-found.result.giver
    c.look-found.result.unread c.nothing_taken.result (search (rules, c.if-is_some.false, c.is_some.ensures)) c.meet-met.ensures.met
    c.look-found.ensures.giver c.if-met.false c.meet-met.ensures.busy c.look-found.ensures.unread c.nothing_taken.ensures
