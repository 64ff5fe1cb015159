use Rattle.std.proofs.Common.{ℕ, ◌≡◌, ◌<◌, ◌∷◌, ◌++◌, [], List, sym, ap, subst, ◌∙◌}
use Rattle.std.specs.Vec.{vec_capacity}
use Rattle.std.specs.Vec.Iter.{into_iter_items}
use Rattle.std.proofs.lemmas.List.Elements.{All-head}
use Rattle.atomic_table.specs.Seated.{TableId}
use Rattle.atomic_table.specs.Table.{Me}
use Rattle.iox_lanes_machine.specs.LanesParties.Parties.{PublisherLaneState}
use Rattle.iox_lanes_threads_ports.specs.LanesThreadsRule.declared.view.Port.{Port}
use Rattle.iox_lanes_threads_ports.specs.LanesThreadsRule.declared.view.View.{View}
use Rattle.iox_lanes_threads.specs.Ports.{BoardPublisher}
use Rattle.iox_lanes_threads.proofs.BackTogether.{Came, comes_too}
use Rattle.iox_lanes_threads.proofs.ending.gather_publishers.Goals as goal

abbrev lane_of : BoardPublisher → PublisherLaneState
lane_of p = p.own.lane

abbrev port_of : BoardPublisher → Port
port_of p = p.own.port

abbrev table_of : BoardPublisher → TableId
table_of p = p.own.table

pub gather-requires-clause-table : goal.gather-requires-clause-table
gather-requires-clause-table c =
    let rest : List BoardPublisher = into_iter_items c.next.new.self in
    let k : Came lane_of port_of table_of c.args.words.now c.loop-port.home.table_id c.args.home.now.me.0.ports
    c.loop-port.home.me.0.ports c.loop-port.lanes.items (c.in-Some.port ∷ rest) c.args.ports.items (vec_capacity c.loop-port.lanes) =
    subst (λ (xs : List BoardPublisher). Came lane_of port_of table_of c.args.words.now c.loop-port.home.table_id c.args.home.now.me.0.ports
    c.loop-port.home.me.0.ports c.loop-port.lanes.items xs c.args.ports.items (vec_capacity c.loop-port.lanes))
    c.in-Some.ensures.items c.loop-port.invariant in (
      k.same ∙ sym c.words.ensures,
      c.into_parts-seat.ensures.0 ∙ All-head (λ (p : BoardPublisher). p.own.table ≡ c.args.words.now) c.in-Some.port rest k.tables
          ∙ sym c.words.ensures,
      subst (λ (t : TableId). 0 < t.words) (sym c.words.ensures) c.requires.table.1,
    )

pub gather-requires-clause-alone : goal.gather-requires-clause-alone
gather-requires-clause-alone c = ap (λ (m : Me ℕ View). m.1) c.into_parts-seat.ensures.1

pub loop-port-preserved : goal.loop-port-preserved
loop-port-preserved c =
    let rest : List BoardPublisher = into_iter_items c.next.new.self in
    let k : Came lane_of port_of table_of c.args.words.now c.loop-port.home.table_id c.args.home.now.me.0.ports
    c.loop-port.home.me.0.ports c.loop-port.lanes.items (c.in-Some.port ∷ rest) c.args.ports.items (vec_capacity c.loop-port.lanes) =
    subst (λ (xs : List BoardPublisher). Came lane_of port_of table_of c.args.words.now c.loop-port.home.table_id c.args.home.now.me.0.ports
    c.loop-port.home.me.0.ports c.loop-port.lanes.items xs c.args.ports.items (vec_capacity c.loop-port.lanes))
    c.in-Some.ensures.items c.loop-port.invariant in
    subst (λ (n : ℕ). Came lane_of port_of table_of c.args.words.now c.gather.new.seat.table_id c.args.home.now.me.0.ports
    c.gather.new.seat.me.0.ports c.push_reserved.new.self.items rest c.args.ports.items n) (sym c.push_reserved.ensures.capacity)
    (comes_too lane_of port_of table_of c.args.words.now c.loop-port.home.table_id c.gather.new.seat.table_id
    c.args.home.now.me.0.ports c.loop-port.home.me.0.ports c.gather.new.seat.me.0.ports c.loop-port.lanes.items
    c.push_reserved.new.self.items c.in-Some.port rest c.args.ports.items (vec_capacity c.loop-port.lanes) k
    c.gather.ensures.table
    (ap (λ (m : Me ℕ View). m.0.ports) c.gather.ensures.ports
    ∙ ap (λ (m : Me ℕ View). c.loop-port.home.me.0.ports ++ m.0.ports) c.into_parts-seat.ensures.1)
    (c.push_reserved.ensures.items ∙ ap (λ (x : PublisherLaneState). c.loop-port.lanes.items ++ x ∷ []) c.into_parts-seat.ensures.2))
