use Rattle.std.proofs.Common.{sym, ◌∙◌}
use Rattle.example_tracer.proofs.OnlyLemmas.{only_two}
use Rattle.example_tracer.proofs.arrows.origin.Goals as goal

pub returns-then-is_some : goal.returns-then-is_some
returns-then-is_some c = only_two _ c.loop-line.line c.args.receipt c.loop-line.only c.loop-line.invariant
    (sym c.is_some.ensures ∙ c.if-is_some.true) (sym c.may_be.ensures ∙ c.if-may_be.true) c.loop-line-test.true
