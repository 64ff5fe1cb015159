use Rattle.std.proofs.Common.{◌≡◌}
use Rattle.iox_lanes.specs.Failing.{failing}
use Rattle.iox_lanes.specs.Ordered.{readers_behind}
use Rattle.iox_lanes.proofs.building.find_orders.Given as goal

abbrev pub invariant-loop-place : goal.invariant-loop-place
invariant-loop-place g l = (l.lanes.sizes ≡ l.fn.lanes.sizes) × (failing l.lanes.lanes ≡ failing l.fn.lanes.lanes)
    × (l.lanes.lanes ≡ readers_behind l.publishers l.domain.state.ports.subscribers l.subscribers l.fn.lanes.lanes l.place)
