use Rattle.std.proofs.Common.{sym, ◌∙◌}
use Rattle.iox_lanes_opening.specs.Lingering.{subscriber_lingers}
use Rattle.iox_lanes_opening.proofs.Going.{any_here, any_later, any_over}
use Rattle.iox_lanes_opening.proofs.refusals.lingering.has_lingering_subscriber.Goals as goal

pub returns-then-subscriber_lingers : goal.returns-then-subscriber_lingers
returns-then-subscriber_lingers g c
    = sym (any_here (subscriber_lingers c.args.ports.now.subscriber_list c.args.ports.now.publishers) c.args.ports.now.subscribers
    c.loop-number.number-iterator _ _ c.loop-number.invariant c.in-Some.ensures.steps
    (sym c.subscriber_lingers.ensures ∙ c.if-subscriber_lingers.true))

pub loop-number-preserved : goal.loop-number-preserved
loop-number-preserved g c = any_later (subscriber_lingers c.args.ports.now.subscriber_list c.args.ports.now.publishers)
    c.args.ports.now.subscribers c.loop-number.number-iterator _ _ c.loop-number.invariant c.in-Some.ensures.steps
    (sym c.subscriber_lingers.ensures ∙ c.if-subscriber_lingers.false)

pub returns : goal.returns
returns g c = sym (any_over (subscriber_lingers c.args.ports.now.subscriber_list c.args.ports.now.publishers)
    c.args.ports.now.subscribers c.loop-number.number-iterator c.loop-number.invariant c.in-None.ensures.steps.0)
