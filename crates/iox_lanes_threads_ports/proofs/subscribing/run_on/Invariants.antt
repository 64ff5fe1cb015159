use Rattle.std.proofs.Common.{◌≡◌}
use Rattle.iox_lanes_threads_rule.specs.Acts.{port_of}
use Rattle.iox_lanes_threads_ports.proofs.Running.{Subscribes}
use Rattle.iox_lanes_threads_ports.proofs.subscribing.run_on.Given as goal

abbrev pub invariant-loop : goal.invariant-loop
invariant-loop g l =
    (l.seat.table_id ≡ l.initial.seat.table_id) × (l.seat.id ≡ l.initial.seat.id)
    × Subscribes (port_of l.initial.seat.me) l.initial.lane l.seat.me l.lane
