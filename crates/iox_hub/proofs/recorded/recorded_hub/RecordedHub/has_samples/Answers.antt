use Rattle.std.proofs.Common.{refl}
use Rattle.iox_command.specs.declared.command.Command.TheVariants as command
use Rattle.iox_delivery.specs.Subscribing.{TellsSamples}
use Rattle.iox_hub_base.specs.AsHome.{hub_ports, with_hub_ports}
use Rattle.iox_hub_commands.specs.CommandSteps.{subscriber_may_degrade}
use Rattle.iox_hub.proofs.RecordedFollowing.{samples_told, stands_so}
use Rattle.iox_hub.proofs.RecordedTold.{has_so}
use Rattle.iox_hub_commands.specs.DescribeBase.declared.type_detail.TypeVariant.TheVariants.{Dynamic}
use Rattle.iox_hub.proofs.RecordedRuns.{for_all, for_one}
use Rattle.iox_hub.proofs.recorded.recorded_hub.RecordedHub.has_samples.Goals as goal

pub invariant_of-self : goal.invariant_of-self
invariant_of-self g c = rw c.told-self-inside.ensures
    (for_all _ (λ handed. samples_told _ refl handed (c.typed_calls_are_a_run.ensures.goes_on handed g.B.PublisherHandlers.fixed
    g.D.SubscriberHandler.fixed
    Dynamic)
    (c.typed_subscriber_calls_are_steps.ensures handed g.B.PublisherHandlers.fixed g.D.SubscriberHandler.fixed Dynamic).has
    (c.what_is_held_may_be_used.ensures handed g.B.PublisherHandlers.fixed g.D.SubscriberHandler.fixed Dynamic)
    c.self.inside.history.calls c.self.inside.hub c.has_samples_if-answer.new.home c.args.subscriber.now.number.value
    c.args.subscriber.now.it.port
    c.has_samples_if-answer.result (rw (← c.self.view_is) at c.requires) c.has_samples_if-answer.ensures (for_one _
    c.self.invariant handed)))

pub returns-clause-told : goal.returns-clause-told
returns-clause-told g c = rw (← c.self.view_is, c.told-self-inside.ensures)
    (has_so c.self.inside.history.calls (command.Has c.args.subscriber.now.number.value) c.has_samples_if-answer.result)

pub returns-clause-stands : goal.returns-clause-stands
returns-clause-stands g c = λ handed followed.
    stands_so _ refl handed (c.what_is_held_may_be_used.ensures handed g.B.PublisherHandlers.fixed g.D.SubscriberHandler.fixed Dynamic)
    c.self.inside.history.calls c.self.inside.hub c.has_samples_if-answer.new.home c.args.subscriber.now.number.value
    c.args.subscriber.now.it.port
    (TellsSamples hub_ports with_hub_ports (subscriber_may_degrade (λ handler. g.D.Degrades.degrades handler))
    c.args.subscriber.now.it.port)
    c.has_samples_if-answer.result (rw (← c.self.view_is) at c.requires) c.has_samples_if-answer.ensures (for_one _ c.self.invariant handed)
    (rw (← c.self.view_is) at followed)
