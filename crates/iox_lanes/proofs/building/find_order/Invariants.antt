use Rattle.std.proofs.Common.{◌≡◌, take, count_by, is_some}
use Rattle.iox_lanes.specs.Failing.{failing}
use Rattle.iox_lanes.specs.Ordered.{keys_behind}
use Rattle.iox_lanes.proofs.building.find_order.Given as goal

abbrev pub invariant-loop-key : goal.invariant-loop-key
invariant-loop-key l = (l.lanes.sizes ≡ l.fn.lanes.sizes) × (failing l.lanes.lanes ≡ failing l.fn.lanes.lanes)
    × (l.to ≡ count_by is_some (take l.key l.port.connections.values))
    × (l.lanes.lanes ≡ keys_behind l.publishers l.place l.port.connections.values l.fn.lanes.lanes l.key)
