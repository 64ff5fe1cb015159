use Rattle.std.proofs.Common.{◌≡◌, length}
use Rattle.iox_lanes.specs.Emptied.{gone_on}
use Rattle.iox_lanes.proofs.threads.emptying.go_on_all.Given as goal

abbrev pub invariant-loop-at : goal.invariant-loop-at
invariant-loop-at g l = (l.publishers ≡ gone_on l.numbers l.ports l.fn.publishers l.at) × (l.at-end ≡ length l.ports)
