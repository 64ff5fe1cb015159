use Rattle.std.proofs.Common.{◌≡◌, []}
use Rattle.iox_lanes_machine.specs.Made.{listed}
use Rattle.iox_lanes_machine.proofs.made.orders.Given as goal

abbrev pub invariant-loop-connection : goal.invariant-loop-connection
invariant-loop-connection l = l.list.items ≡ listed (λ connection. []) l._connection
