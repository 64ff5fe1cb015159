use Rattle.std.proofs.Common.{◌≡◌}
use Rattle.iox_lanes_machine.specs.Made.{listed, subscriber_at}
use Rattle.iox_lanes_machine.proofs.made.subscribers.Given as goal

abbrev pub invariant-loop-place : goal.invariant-loop-place
invariant-loop-place l = l.list.items ≡ listed (subscriber_at l.fn.sizes) l.place
