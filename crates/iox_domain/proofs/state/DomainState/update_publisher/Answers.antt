use Rattle.std.proofs.Common.{subst}
use Rattle.iox_domain.specs.DomainPorts.Publishers.{port_of}
use Rattle.iox_domain.specs.Kept.{kept_under}
use Rattle.iox_domain.specs.Ports.{AtPublisher}
use Rattle.iox_domain.specs.PortsPublishing.{UpdatesOne}
use Rattle.iox_domain.proofs.AskedThere.{stored_told}
use Rattle.iox_domain.proofs.state.DomainState.update_publisher.Goals as goal

pub returns-clause-updates : goal.returns-clause-updates
returns-clause-updates g c =
    let ports = c.args.self.now.ports in
    subst (λ may. AtPublisher c.args.number (UpdatesOne may ports.subscriber_list)
    (port_of c.args.number ports.publishers) ports c.update_publisher.result c.update_publisher.new.self)
    (stored_told (λ kept. g.B.Degrades.degrades kept) (kept_under c.args.number c.args.self.now.publisher_handlers)) c.update_publisher.ensures
