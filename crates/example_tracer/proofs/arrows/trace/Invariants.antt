use Rattle.example_tracer.specs.Trace.{Trace}
use Rattle.example_tracer.proofs.arrows.trace.Given as goal

abbrev pub invariant-loop-receipt : goal.invariant-loop-receipt
invariant-loop-receipt l = Trace l.conversation l.receipt l.arrows.items
