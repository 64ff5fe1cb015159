use Rattle.std.proofs.Common.{arith}
use Rattle.iox_lanes.proofs.Ordered.{all_keys}
use Rattle.iox_lanes.proofs.building.find_order.Goals as goal

pub returns-clause-behind : goal.returns-clause-behind
returns-clause-behind c = all_keys c.args.publishers.now c.args.place c.args.port.now.connections.values c.args.lanes.now.lanes
    c.loop-key.lanes.lanes c.loop-key.key
    (λ key behind. c.reached-key-end.ensures.none key (omega (arith, behind, c.loop-key-test.false)))
    (omega (arith, c.loop-key.auto.key-end, c.reached-key-end.ensures.bound)) c.loop-key.invariant.3
