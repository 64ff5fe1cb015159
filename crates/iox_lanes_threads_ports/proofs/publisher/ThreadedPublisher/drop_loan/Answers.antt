use Rattle.std.proofs.Common.{refl, true, sym, subst, ◌∙◌}
use Rattle.iox_lanes_threads_rule.specs.Acts.{port_of}
use Rattle.iox_lanes_threads_ports.specs.Ports.{PublisherStands}
use Rattle.iox_lanes_threads_ports.specs.Values.{PublisherPort, Drops}
use Rattle.iox_lanes_threads_ports.proofs.Dropped.{drop_done, drop_stands}
use Rattle.iox_lanes_threads_ports.proofs.OtherHeads.{calls_keep_heads}
use Rattle.iox_lanes_threads_ports.proofs.OtherLoans.{calls_keep_payloads}
use Rattle.iox_lanes_threads_ports.proofs.publisher.ThreadedPublisher.drop_loan.Goals as goal

pub invariant_of-self : goal.invariant_of-self
invariant_of-self c = (
  c.self.invariant.0,
  drop_stands (port_of c.self.inside.seat.me) c.self.inside.lane c.begin.new.lane c.go_on.new.self c.args.loan c.self.invariant.1
      (sym c.fits.ensures ∙ c.if-not-fits.false) c.begin.ensures c.go_on.ensures.lane,
  c.self.invariant.2,
)

pub returns-clause-call : goal.returns-clause-call
returns-clause-call c =
    let was : PublisherPort
    = record { table = c.self.inside.seat.table_id; port = port_of c.self.inside.seat.me; lane = c.self.inside.lane } in
    let now : PublisherPort
    = record { table = c.self.inside.seat.table_id; port = port_of c.self.inside.seat.me; lane = c.go_on.new.self } in
    subst (λ (v : PublisherPort). Drops v c.args.loan now true) c.self.view_is
    (drop_done was now c.args.loan c.begin.new.lane (sym c.fits.ensures ∙ c.if-not-fits.false) refl refl c.begin.ensures
    c.go_on.ensures.lane)

pub returns-clause-others : goal.returns-clause-others
returns-clause-others c other there =
    let now : PublisherPort
    = record { table = c.self.inside.seat.table_id; port = port_of c.self.inside.seat.me; lane = c.go_on.new.self } in
    (calls_keep_payloads other c.args.self.now now
    (subst (λ (v : PublisherPort). PublisherStands v.port v.lane) c.self.view_is c.self.invariant.1) there).2 c.args.loan true
    (returns-clause-call c)

pub returns-clause-headers : goal.returns-clause-headers
returns-clause-headers c other =
    let now : PublisherPort
    = record { table = c.self.inside.seat.table_id; port = port_of c.self.inside.seat.me; lane = c.go_on.new.self } in
    (calls_keep_heads other c.args.self.now now).2 c.args.loan true (returns-clause-call c)
