use Rattle.std.proofs.Common.{sym, ◌∙◌}
use Rattle.iox_lanes_opening.specs.EachAsked.{applies}
use Rattle.iox_lanes_opening.proofs.Going.{any_here, any_later, any_over}
use Rattle.iox_lanes_opening.proofs.refusals.each_asked.has_such.Goals as goal

pub returns-then-applies : goal.returns-then-applies
returns-then-applies g c = sym (any_here (applies c.args.question c.args.ports.now) c.args.ports.now.publishers
    c.loop-number.number-iterator _ _ c.loop-number.invariant c.in-Some.ensures.steps (sym c.applies.ensures ∙ c.if-applies.true))

pub loop-number-preserved : goal.loop-number-preserved
loop-number-preserved g c = any_later (applies c.args.question c.args.ports.now) c.args.ports.now.publishers
    c.loop-number.number-iterator _ _ c.loop-number.invariant c.in-Some.ensures.steps (sym c.applies.ensures ∙ c.if-applies.false)

pub returns : goal.returns
returns g c = sym (any_over (applies c.args.question c.args.ports.now) c.args.ports.now.publishers c.loop-number.number-iterator
    c.loop-number.invariant c.in-None.ensures.steps.0)
