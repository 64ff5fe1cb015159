use Rattle.std.proofs.Common.{◌≡◌}
use Rattle.iox_lanes_threads_rule.specs.Acts.{port_of}
use Rattle.iox_lanes_threads_ports.specs.Values.{IsShort, steps_left}
use Rattle.iox_lanes_threads_ports.proofs.Running.{Subscribes}
use Rattle.iox_lanes_threads_ports.proofs.subscribing.finish.Given as goal

abbrev pub invariant-loop-seat : goal.invariant-loop-seat
invariant-loop-seat g l =
    (l.seat.table_id ≡ l.fn.seat.table_id) × (l.seat.id ≡ l.fn.seat.id) × Subscribes (port_of l.fn.seat.me) l.fn.lane l.seat.me l.lane
    × IsShort l.lane.port.call

abbrev pub decreases-loop-seat : goal.decreases-loop-seat
decreases-loop-seat g l = steps_left l.lane.port.call
