use Rattle.example_tracer.specs.Trace.{may_be}
use Rattle.example_tracer.specs.Exchange.{seen}
use Rattle.example_tracer.proofs.OnlyLemmas.{OnlySo}
use Rattle.example_tracer.proofs.arrows.origin.Given as goal

abbrev pub invariant-loop-line : goal.invariant-loop-line
invariant-loop-line l = OnlySo (may_be l.conversation l.arrows (seen l.received)) l.line l.only
