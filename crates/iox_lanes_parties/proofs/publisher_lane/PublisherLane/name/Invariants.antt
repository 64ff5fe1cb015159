use Rattle.std.proofs.Common.{◌≡◌, ◌++◌, map, take, drop}
use Rattle.iox_lanes_parties.specs.Parties.{with_origin}
use Rattle.iox_lanes_parties.proofs.publisher_lane.PublisherLane.name.Given as goal

abbrev pub invariant-loop-head : goal.invariant-loop-head
invariant-loop-head l = l.head-items ≡ map (with_origin l.fn.node_id l.fn.publisher_id) (take l.head-index l.fn.self.heads)
    ++ drop l.head-index l.fn.self.heads
