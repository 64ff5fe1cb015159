use Rattle.std.proofs.Common.{sym, ap, ◌∙◌}
use Rattle.iox_domain.specs.Kept.{kept_under}
use Rattle.iox_lanes_opening.specs.Deciding.{has_object}
use Rattle.iox_lanes_opening.proofs.Going.{any_here, any_later, any_over}
use Rattle.iox_lanes_opening.proofs.refusals.deciding.has_publisher_handlers.Goals as goal

pub returns-then-has_object : goal.returns-then-has_object
returns-then-has_object g c = sym (any_here (λ entry. has_object g.B.FixedDecision.decision (kept_under entry.0
    c.args.domain.now.state.publisher_handlers))
    c.args.domain.now.state.ports.publishers c.loop-number.number-iterator _ _ c.loop-number.invariant c.in-Some.ensures.steps
    (ap (has_object g.B.FixedDecision.decision) (sym c.get.ensures) ∙ sym c.has_object.ensures ∙ c.if-has_object.true))

pub loop-number-preserved : goal.loop-number-preserved
loop-number-preserved g c = any_later (λ entry. has_object g.B.FixedDecision.decision (kept_under entry.0
    c.args.domain.now.state.publisher_handlers))
    c.args.domain.now.state.ports.publishers c.loop-number.number-iterator _ _ c.loop-number.invariant c.in-Some.ensures.steps
    (ap (has_object g.B.FixedDecision.decision) (sym c.get.ensures) ∙ sym c.has_object.ensures ∙ c.if-has_object.false)

pub returns : goal.returns
returns g c = sym (any_over (λ entry. has_object g.B.FixedDecision.decision (kept_under entry.0 c.args.domain.now.state.publisher_handlers))
    c.args.domain.now.state.ports.publishers c.loop-number.number-iterator c.loop-number.invariant c.in-None.ensures.steps.0)
