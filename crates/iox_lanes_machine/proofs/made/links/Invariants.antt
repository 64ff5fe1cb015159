use Rattle.std.proofs.Common.{◌≡◌}
use Rattle.iox_lanes_machine.specs.Made.{listed, link_at}
use Rattle.iox_lanes_machine.proofs.made.links.Given as goal

abbrev pub invariant-loop-connection : goal.invariant-loop-connection
invariant-loop-connection l = l.list.items ≡ listed (link_at l.fn.sizes) l.connection
