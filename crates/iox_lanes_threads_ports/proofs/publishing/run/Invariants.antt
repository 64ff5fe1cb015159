use Rattle.std.proofs.Common.{◌≡◌, ◌≤◌, ◌-◌}
use Rattle.iox_lanes_threads_rule.specs.Acts.{port_of}
use Rattle.iox_lanes_threads_ports.proofs.Running.{Publishes, Paced}
use Rattle.iox_lanes_threads_ports.proofs.publishing.run.Given as goal

abbrev pub invariant-loop-made : goal.invariant-loop-made
invariant-loop-made g l =
    (l.seat.table_id ≡ l.initial.seat.table_id) × (l.seat.id ≡ l.initial.seat.id)
    × Publishes (port_of l.initial.seat.me) l.seat.me l.lane
    × Paced l.most l.made (port_of l.initial.seat.me) l.initial.lane (port_of l.seat.me) l.lane × (l.made ≤ l.most)

abbrev pub decreases-loop-made : goal.decreases-loop-made
decreases-loop-made g l = l.most - l.made
