use Rattle.std.proofs.Common.{refl}
use Rattle.iox_hub.specs.RecordedNames.{subscriber_side}
use Rattle.iox_hub.proofs.KeptNumbers.{subscribers_keep}
use Rattle.iox_hub.proofs.RecordedRuns.{for_all, for_one, subscriber_recorded}
use Rattle.iox_hub.proofs.RecordedTold.{has_side, subscriber_goes_by, subscriber_so}
use Rattle.iox_hub_commands.specs.DescribeBase.declared.type_detail.TypeVariant.TheVariants.{Dynamic}
use Rattle.iox_hub.proofs.recorded.recorded_hub.RecordedHub.subscriber.Goals as goal

pub invariant_of-self : goal.invariant_of-self
invariant_of-self g c = rw (c.told-self-inside.ensures, c.domain_of-domain.ensures)
    (for_all _ (λ handed. subscriber_recorded _ refl handed
    c.self.inside.history.calls c.self.inside.hub c.create_subscriber-answer.new.home c.args.factory.now.number.value
    (c.args.factory.now.it.service.membership, c.args.factory.now.it.owner)
    (let there = rw (← c.self.view_is) at c.requires in rw there refl)
    (c.typed_calls_are_a_run.ensures.goes_on handed g.B.PublisherHandlers.fixed g.D.SubscriberHandler.fixed Dynamic)
    (c.typed_service_calls_are_steps.ensures handed g.B.PublisherHandlers.fixed g.D.SubscriberHandler.fixed Dynamic).subscriber
    c.args.options.now c.create_subscriber-answer.result
    (rw (c.subscriber_config-config.ensures, c.subscriber_handler.ensures, c.owner_of.ensures, c.domain_of-domain.ensures)
    at c.create_subscriber-answer.ensures) (for_one _ c.self.invariant handed)))

pub returns-clause-made : goal.returns-clause-made
returns-clause-made g c = rw (c.with_number.ensures, c.subscriber_of.ensures, ← c.self.view_is, c.told-self-inside.ensures)
    (subscriber_so c.self.inside.history.calls _ _ c.args.factory.now.number.value c.domain_of-domain.result c.given-number.result
    (subscriber_side c.most_waiting.result c.args.options.now) c.args.options.now c.create_subscriber-answer.result)

pub returns-clause-number : goal.returns-clause-number
returns-clause-number g c = rw (c.with_number.ensures, c.subscriber_of.ensures, ← c.self.view_is, c.told-self-inside.ensures)
    (subscriber_goes_by c.self.inside.history.calls _ _ c.args.factory.now.number.value c.domain_of-domain.result c.given-number.result
    (subscriber_side c.most_waiting.result c.args.options.now) c.args.options.now c.create_subscriber-answer.result
    c.given-number.ensures c.self.invariant.rise.2)

pub returns-clause-side : goal.returns-clause-side
returns-clause-side g c = λ most is. rw (c.with_number.ensures, c.subscriber_of.ensures, c.most_waiting.ensures most is)
    (has_side _ _ _ c.domain_of-domain.result c.given-number.result (subscriber_side most.subscriber_max_buffer_size c.args.options.now)
    c.create_subscriber-answer.result)

pub returns-clause-others : goal.returns-clause-others
returns-clause-others g c = rw (← c.self.view_is, c.told-self-inside.ensures)
    (subscribers_keep c.args.factory.now.number.value c.domain_of-domain.result c.self.inside.history.calls c.args.options.now
    c.create_subscriber-answer.result)
