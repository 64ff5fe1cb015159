use Rattle.std.proofs.Common.{subst}
use Rattle.iox_domain.specs.DomainPorts.Publishers.{port_of}
use Rattle.iox_domain.specs.Handling.{kept_decides}
use Rattle.iox_domain.specs.Kept.{kept_under}
use Rattle.iox_domain.specs.Ports.{AtPublisher}
use Rattle.iox_domain.specs.Putting.{PutsOne}
use Rattle.iox_domain.proofs.AskedThere.{stored_told}
use Rattle.iox_domain.proofs.state.DomainState.put.Goals as goal

pub returns-clause-puts : goal.returns-clause-puts
returns-clause-puts g c =
    let ports = c.args.self.now.ports in
    subst (λ may. AtPublisher c.args.number (PutsOne may (kept_decides (λ kept. g.B.Decides.decides kept) (kept_under c.args.number c.args.self.now.publisher_handlers)) ports.subscriber_list c.args.values.now)
    (port_of c.args.number ports.publishers) ports c.put.result c.put.new.self)
    (stored_told (λ kept. g.B.Degrades.degrades kept) (kept_under c.args.number c.args.self.now.publisher_handlers)) c.put.ensures
