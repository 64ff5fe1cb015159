use Rattle.std.proofs.Common.{◌∙◌, refl}
use Rattle.iox_hub.proofs.RecordedRuns.{for_one, may_be_used, sequence_so}
use Rattle.iox_hub.proofs.RecordedSkips.{never_so}
use Rattle.iox_hub_commands.specs.DescribeBase.declared.type_detail.TypeVariant.TheVariants.{Dynamic}
use Rattle.iox_hub.proofs.recorded.recorded_hub.RecordedHub.sequence.Goals as goal

pub returns-clause-tells : goal.returns-clause-tells
returns-clause-tells g c = rw (← c.self.view_is)
    (λ handed followed. sequence_so _ refl handed (c.typed_calls_are_a_run.ensures.goes_on handed g.B.PublisherHandlers.fixed
    g.D.SubscriberHandler.fixed Dynamic)
    c.self.inside.history.calls c.self.inside.hub c.args.sample.now.number.value
    (record { port = c.args.sample.now.it.port; taken = c.args.sample.now.it.taken })
    c.header.result (rw (← c.self.view_is) at c.requires) c.header.ensures (for_one _ c.self.invariant handed) followed)

pub returns-then-not-holds-clause-held : goal.returns-then-not-holds-clause-held
returns-then-not-holds-clause-held g c = λ handed followed.
    never_so c.holds.result (c.holds.ensures ∙ (may_be_used _ refl handed
    (c.what_is_held_may_be_used.ensures handed g.B.PublisherHandlers.fixed g.D.SubscriberHandler.fixed Dynamic)
    c.self.inside.history.calls c.self.inside.hub (for_one _ c.self.invariant handed)
    (rw (← c.self.view_is) at followed)).samples c.args.sample.now.number.value
    (record { port = c.args.sample.now.it.port; taken = c.args.sample.now.it.taken }) (rw (← c.self.view_is) at c.requires))
    c.if-not-holds.true
