use Rattle.std.proofs.Common.{◌≡◌}
use Rattle.iox_lanes_machine.specs.Made.{receiving_routes}
use Rattle.iox_lanes_machine.proofs.made.receiving_routes.Given as goal

abbrev pub invariant-loop-publisher : goal.invariant-loop-publisher
invariant-loop-publisher l = l.list.items ≡ receiving_routes l.fn.sizes l.fn.place l.publisher
