use Rattle.std.proofs.Common.{subst}
use Rattle.iox_domain.specs.Kept.{kept_under}
use Rattle.iox_domain.specs.Ports.{AtSubscriber}
use Rattle.iox_domain.specs.PortsSubscribing.{ReceivesOne}
use Rattle.iox_domain.specs.Subscribers.{subscriber_of}
use Rattle.iox_domain.proofs.AskedThere.{stored_told}
use Rattle.iox_domain.proofs.state.DomainState.receive.Goals as goal

pub returns-clause-receives : goal.returns-clause-receives
returns-clause-receives g c =
    let ports = c.args.self.now.ports in
    subst (λ may. AtSubscriber c.args.number (ReceivesOne may ports.publisher_list) (subscriber_of c.args.number ports.subscribers) ports
    c.receive.result c.receive.new.self)
    (stored_told (λ kept. g.D.Degrades.degrades kept) (kept_under c.args.number c.args.self.now.subscriber_handlers)) c.receive.ensures
