use Rattle.iox_queues_base.specs.Bits.{AreClear}
use Rattle.iox_queues_base.proofs.bits.set.first_set.Given as goal

abbrev pub invariant-loop-i : goal.invariant-loop-i
invariant-loop-i l = AreClear l.bits l.fn.from l.i
