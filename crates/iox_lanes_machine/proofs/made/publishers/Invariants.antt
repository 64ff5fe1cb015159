use Rattle.std.proofs.Common.{◌≡◌}
use Rattle.iox_lanes_machine.specs.Made.{listed, publisher_at}
use Rattle.iox_lanes_machine.proofs.made.publishers.Given as goal

abbrev pub invariant-loop-place : goal.invariant-loop-place
invariant-loop-place l = l.list.items ≡ listed (publisher_at l.fn.sizes) l.place
