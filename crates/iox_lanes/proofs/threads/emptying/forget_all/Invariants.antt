use Rattle.std.proofs.Common.{take}
use Rattle.iox_lanes.specs.Emptied.{AreWithout}
use Rattle.iox_lanes.proofs.threads.emptying.forget_all.Given as goal

abbrev pub invariant-loop-at : goal.invariant-loop-at
invariant-loop-at g l = AreWithout (take l.at l.numbers) l.fn.publishers l.publishers
