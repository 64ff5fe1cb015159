use Rattle.std.proofs.Common.{◌≡◌}
use Rattle.iox_lanes_machine.specs.Made.{sending_routes}
use Rattle.iox_lanes_machine.proofs.made.sending_routes.Given as goal

abbrev pub invariant-loop-subscriber : goal.invariant-loop-subscriber
invariant-loop-subscriber l = l.list.items ≡ sending_routes l.fn.sizes l.fn.place l.subscriber
