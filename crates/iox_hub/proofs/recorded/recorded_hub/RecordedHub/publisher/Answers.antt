use Rattle.std.proofs.Common.{refl}
use Rattle.iox_hub.specs.RecordedNames.{publisher_side}
use Rattle.iox_hub.proofs.KeptNumbers.{publishers_keep}
use Rattle.iox_hub.proofs.RecordedRuns.{for_all, for_one, publisher_recorded}
use Rattle.iox_hub.proofs.RecordedTold.{publisher_goes_by, publisher_so}
use Rattle.iox_hub_commands.specs.DescribeBase.declared.type_detail.TypeVariant.TheVariants.{Dynamic}
use Rattle.iox_hub.proofs.recorded.recorded_hub.RecordedHub.publisher.Goals as goal

pub invariant_of-self : goal.invariant_of-self
invariant_of-self g c = rw (c.told-self-inside.ensures, c.domain_of-domain.ensures)
    (for_all _ (λ handed. publisher_recorded _ refl handed
    c.self.inside.history.calls c.self.inside.hub c.create_publisher-answer.new.home c.args.factory.now.number.value
    (c.args.factory.now.it.service.membership, c.args.factory.now.it.owner)
    (let there = rw (← c.self.view_is) at c.requires in rw there refl)
    (c.typed_calls_are_a_run.ensures.goes_on handed g.B.PublisherHandlers.fixed g.D.SubscriberHandler.fixed Dynamic)
    c.args.options.now (c.typed_publishers_come_by_steps.ensures handed g.B.PublisherHandlers.fixed g.D.SubscriberHandler.fixed
    Dynamic) c.default.result c.create_publisher-answer.result
    c.default.ensures
    (rw (c.publisher_config-config.ensures, c.publisher_handlers.ensures, c.owner_of.ensures, c.domain_of-domain.ensures)
    at c.create_publisher-answer.ensures) (for_one _ c.self.invariant handed)))

pub returns-clause-made : goal.returns-clause-made
returns-clause-made g c = rw (c.with_number.ensures, c.publisher_of.ensures, ← c.self.view_is, c.told-self-inside.ensures)
    (publisher_so c.self.inside.history.calls _ _ c.args.factory.now.number.value c.domain_of-domain.result c.given-number.result
    (publisher_side c.args.options.now) c.args.options.now c.create_publisher-answer.result)

pub returns-clause-number : goal.returns-clause-number
returns-clause-number g c = rw (c.with_number.ensures, c.publisher_of.ensures, ← c.self.view_is, c.told-self-inside.ensures)
    (publisher_goes_by c.self.inside.history.calls _ _ c.args.factory.now.number.value c.domain_of-domain.result c.given-number.result
    (publisher_side c.args.options.now) c.args.options.now c.create_publisher-answer.result c.given-number.ensures
    c.self.invariant.rise.1)

pub returns-clause-others : goal.returns-clause-others
returns-clause-others g c = rw (← c.self.view_is, c.told-self-inside.ensures)
    (publishers_keep c.args.factory.now.number.value c.domain_of-domain.result c.self.inside.history.calls c.args.options.now
    c.create_publisher-answer.result)
