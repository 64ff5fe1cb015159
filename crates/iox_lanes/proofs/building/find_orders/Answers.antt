use Rattle.std.proofs.Common.{rules, arith, ap, ◌∙◌}
use Rattle.iox_lanes.specs.Ordered.{readers_behind}
use Rattle.iox_lanes.proofs.Ordered.{next_reader}
use Rattle.iox_lanes.proofs.building.find_orders.Goals as goal

pub loop-place-preserved : goal.loop-place-preserved
loop-place-preserved g c = (
  search rules,
  search rules,
  next_reader c.args.publishers.now c.args.domain.now.state.ports.subscribers c.args.subscribers.now c.args.lanes.now.lanes
      c.loop-place.lanes.lanes c.find_reader.new.lanes.lanes c.loop-place.place _
      c.subscriber_at.ensures c.loop-place.invariant.2 c.in_ok-find_reader.ensures.behind,
)

pub returns-clause-behind : goal.returns-clause-behind
returns-clause-behind g c = c.loop-place.invariant.2
    ∙ ap (readers_behind c.args.publishers.now c.args.domain.now.state.ports.subscribers c.args.subscribers.now c.args.lanes.now.lanes)
    (omega (arith, c.loop-place-test.false, c.loop-place.auto.place-end))
