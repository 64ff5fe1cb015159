use Rattle.std.proofs.Common.{sym, ◌∙◌}
use Rattle.iox_lanes_opening.specs.Deciding.{retries}
use Rattle.iox_lanes_opening.proofs.Going.{any_here, any_later, any_over}
use Rattle.iox_lanes_opening.proofs.refusals.deciding.has_retrying.Goals as goal

pub returns-then-retries : goal.returns-then-retries
returns-then-retries g c = sym (any_here (retries g.B.FixedDecision.decision c.args.domain.now.state.publisher_handlers)
    c.args.domain.now.state.ports.publishers
    c.loop-number.number-iterator _ _ c.loop-number.invariant c.in-Some.ensures.steps (sym c.retries.ensures ∙ c.if-retries.true))

pub loop-number-preserved : goal.loop-number-preserved
loop-number-preserved g c = any_later (retries g.B.FixedDecision.decision c.args.domain.now.state.publisher_handlers)
    c.args.domain.now.state.ports.publishers
    c.loop-number.number-iterator _ _ c.loop-number.invariant c.in-Some.ensures.steps (sym c.retries.ensures ∙ c.if-retries.false)

pub returns : goal.returns
returns g c = sym (any_over (retries g.B.FixedDecision.decision c.args.domain.now.state.publisher_handlers)
    c.args.domain.now.state.ports.publishers
    c.loop-number.number-iterator c.loop-number.invariant c.in-None.ensures.steps.0)
