use Rattle.std.proofs.Common.{subst}
use Rattle.iox_domain.specs.DomainPorts.Publishers.{port_of}
use Rattle.iox_domain.specs.Handling.{kept_decides}
use Rattle.iox_domain.specs.Kept.{kept_under}
use Rattle.iox_domain.specs.Ports.{AtPublisher}
use Rattle.iox_domain.specs.PortsPublishing.{SendsOne}
use Rattle.iox_domain.proofs.AskedThere.{stored_told}
use Rattle.iox_domain.proofs.state.DomainState.send.Goals as goal

pub returns-clause-sends : goal.returns-clause-sends
returns-clause-sends g c =
    let ports = c.args.self.now.ports in
    subst (λ may. AtPublisher c.args.number (SendsOne may (kept_decides (λ kept. g.B.Decides.decides kept) (kept_under c.args.number c.args.self.now.publisher_handlers)) ports.subscriber_list c.args.slot)
    (port_of c.args.number ports.publishers) ports c.send.result c.send.new.self)
    (stored_told (λ kept. g.B.Degrades.degrades kept) (kept_under c.args.number c.args.self.now.publisher_handlers)) c.send.ensures
