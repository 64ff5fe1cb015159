use Rattle.std.proofs.Common.{sym, ◌∙◌, subst}
use Rattle.iox_lanes_threads_ports.specs.Ports.{PublisherStands}
use Rattle.iox_lanes.specs.Typed.{TypedPublisher}
use Rattle.iox_lanes.proofs.HeldByNone.{loan_is_held_by_none, mine_is_out}
use Rattle.iox_lanes.proofs.threads.publisher.Publisher.has.Goals as goal

pub returns-clause-unheld : goal.returns-clause-unheld
returns-clause-unheld g c done = loan_is_held_by_none c.args.self.now.port.own.port c.args.self.now.port.own.lane c.args.loan.now.slot
    (subst (λ (s : TypedPublisher). PublisherStands s.port.own.port s.port.own.lane) c.self.view_is c.shows.ensures)
    (mine_is_out c.args.self.now c.args.loan.now (sym c.is_out.ensures ∙ done))
