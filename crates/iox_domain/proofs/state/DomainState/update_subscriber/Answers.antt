use Rattle.std.proofs.Common.{subst}
use Rattle.iox_domain.specs.Kept.{kept_under}
use Rattle.iox_domain.specs.Ports.{AtSubscriber}
use Rattle.iox_domain.specs.PortsSubscribing.{UpdatesOne}
use Rattle.iox_domain.specs.Subscribers.{subscriber_of}
use Rattle.iox_domain.proofs.AskedThere.{stored_told}
use Rattle.iox_domain.proofs.state.DomainState.update_subscriber.Goals as goal

pub returns-clause-updates : goal.returns-clause-updates
returns-clause-updates g c =
    let ports = c.args.self.now.ports in
    subst (λ may. AtSubscriber c.args.number (UpdatesOne may ports.publisher_list) (subscriber_of c.args.number ports.subscribers) ports
    c.update_subscriber.result c.update_subscriber.new.self)
    (stored_told (λ kept. g.D.Degrades.degrades kept) (kept_under c.args.number c.args.self.now.subscriber_handlers)) c.update_subscriber.ensures
