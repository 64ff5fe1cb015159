use Rattle.std.proofs.Common.{sym, ap, ◌∙◌}
use Rattle.iox_domain.specs.Kept.{kept_under}
use Rattle.iox_lanes_opening.specs.Deciding.{is_kept_object}
use Rattle.iox_lanes_opening.proofs.Going.{any_here, any_later, any_over}
use Rattle.iox_lanes_opening.proofs.refusals.deciding.has_subscriber_handlers.Goals as goal

pub returns-then-is_kept_object : goal.returns-then-is_kept_object
returns-then-is_kept_object g c = sym
    (any_here (λ entry. is_kept_object g.D.AsksCaller.asks (kept_under entry.0 c.args.domain.now.state.subscriber_handlers))
    c.args.domain.now.state.ports.subscribers c.loop-number.number-iterator _ _ c.loop-number.invariant c.in-Some.ensures.steps
    (ap (is_kept_object g.D.AsksCaller.asks) (sym c.get.ensures) ∙ sym c.is_kept_object.ensures ∙ c.if-is_kept_object.true))

pub loop-number-preserved : goal.loop-number-preserved
loop-number-preserved g c = any_later (λ entry. is_kept_object g.D.AsksCaller.asks (kept_under entry.0
    c.args.domain.now.state.subscriber_handlers))
    c.args.domain.now.state.ports.subscribers c.loop-number.number-iterator _ _ c.loop-number.invariant c.in-Some.ensures.steps
    (ap (is_kept_object g.D.AsksCaller.asks) (sym c.get.ensures) ∙ sym c.is_kept_object.ensures ∙ c.if-is_kept_object.false)

pub returns : goal.returns
returns g c = sym (any_over (λ entry. is_kept_object g.D.AsksCaller.asks (kept_under entry.0 c.args.domain.now.state.subscriber_handlers))
    c.args.domain.now.state.ports.subscribers c.loop-number.number-iterator c.loop-number.invariant c.in-None.ensures.steps.0)
