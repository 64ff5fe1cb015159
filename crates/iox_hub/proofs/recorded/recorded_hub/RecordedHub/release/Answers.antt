use Rattle.iox_hub.proofs.RecordedRuns.{for_all, for_one, release_held, release_recorded}
use Rattle.iox_hub_commands.specs.DescribeBase.declared.type_detail.TypeVariant.TheVariants.{Dynamic}
use Rattle.std.proofs.Common.{refl}
use Rattle.iox_hub.proofs.recorded.recorded_hub.RecordedHub.release.Goals as goal

pub invariant_of-self : goal.invariant_of-self
invariant_of-self g c = rw c.told-self-inside.ensures
    (for_all _ (λ handed. release_recorded _ refl handed (c.typed_calls_are_a_run.ensures.goes_on handed g.B.PublisherHandlers.fixed
    g.D.SubscriberHandler.fixed
    Dynamic)
    (c.typed_subscriber_calls_are_steps.ensures handed g.B.PublisherHandlers.fixed g.D.SubscriberHandler.fixed Dynamic).release
    c.self.inside.history.calls c.self.inside.hub c.release_if-was_held.new.home c.args.sample.number.value
    (record { port = c.args.sample.it.port; taken = c.args.sample.it.taken }) c.release_if-was_held.result
    (rw (← c.self.view_is) at c.requires)
    c.release_if-was_held.ensures (for_one _ c.self.invariant handed)))

pub returns-clause-released : goal.returns-clause-released
returns-clause-released g c = rw (← c.self.view_is, c.told-self-inside.ensures) refl

pub returns-clause-held : goal.returns-clause-held
returns-clause-held g c = λ handed followed.
    release_held _ refl handed (c.what_is_held_may_be_used.ensures handed g.B.PublisherHandlers.fixed g.D.SubscriberHandler.fixed Dynamic)
    c.self.inside.history.calls c.self.inside.hub c.release_if-was_held.new.home c.args.sample.number.value
    (record { port = c.args.sample.it.port; taken = c.args.sample.it.taken }) c.release_if-was_held.result
    (rw (← c.self.view_is) at c.requires)
    c.release_if-was_held.ensures (for_one _ c.self.invariant handed) (rw (← c.self.view_is) at followed)
