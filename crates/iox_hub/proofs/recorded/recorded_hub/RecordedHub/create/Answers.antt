use Rattle.std.proofs.Common.{[], refl}
use Rattle.iox_command.specs.declared.command.Command.TheVariants as command
use Rattle.iox_command.specs.declared.refusal.Refusal.TheVariants as refusal
use Rattle.iox_command.specs.declared.service.ServiceOptions.TheVariants as options
use Rattle.iox_hub.specs.Recording.{IsMadeAsAsked}
use Rattle.iox_hub.specs.RecordedNames.{as_made}
use Rattle.iox_hub.proofs.AskedServices.{named_so}
use Rattle.iox_hub.proofs.KeptNumbers.{factories_keep}
use Rattle.iox_hub.proofs.RecordedServices.{created_recorded}
use Rattle.iox_hub.proofs.RecordedTold.{factory_goes_by, here_so, opened_so}
use Rattle.iox_hub_commands.specs.Asked.{types_of}
use Rattle.iox_hub_commands.specs.DescribeBase.declared.type_detail.TypeVariant.TheVariants.{Dynamic}
use Rattle.iox_hub_commands.specs.declared.services.made.MadeFactory.TheVariants as made_factory
use Rattle.iox_hub.proofs.RecordedRuns.{for_all, for_one}
use Rattle.iox_hub.proofs.recorded.recorded_hub.RecordedHub.create.Goals as goal

pub invariant_of-self : goal.invariant_of-self
invariant_of-self g c = rw c.told-self-inside.ensures
    (for_all _ (λ handed. created_recorded _ refl handed c.self.inside.history.calls c.self.inside.hub c.create_if-answer.new.hub
    c.number-asked.result
    c.args.name c.args.options.now (c.typed_calls_are_a_run.ensures.goes_on handed g.B.PublisherHandlers.fixed
    g.D.SubscriberHandler.fixed Dynamic)
    (c.typed_service_calls_are_steps.ensures handed g.B.PublisherHandlers.fixed g.D.SubscriberHandler.fixed Dynamic).create
    c.args.attributes.now
    (as_made (λ it. made_factory.PublishSubscribe it) c.create_if-answer.result)
    (c.create_if-answer.ensures.opens c.self.inside.history.calls.factories) (for_one _ c.self.invariant handed)))

pub returns-clause-created : goal.returns-clause-created
returns-clause-created g c = rw (c.with_number.ensures, ← c.self.view_is, c.told-self-inside.ensures, c.number-asked.ensures)
    (opened_so c.self.inside.history.calls (command.Create c.args.node.now.number c.args.name
    (options.PublishSubscribe c.args.options.now) c.args.attributes.now [])
    refusal.PublishSubscribeCreate (λ it. made_factory.PublishSubscribe it) c.create_if-answer.result c.given-number.result)

pub returns-clause-number : goal.returns-clause-number
returns-clause-number g c = rw (c.with_number.ensures, ← c.self.view_is, c.told-self-inside.ensures)
    (factory_goes_by c.self.inside.history.calls
    (command.Create c.number-asked.result c.args.name (options.PublishSubscribe c.args.options.now) c.args.attributes.now [])
    refusal.PublishSubscribeCreate (λ it. made_factory.PublishSubscribe it) c.create_if-answer.result c.given-number.result
    c.given-number.ensures
    c.self.invariant.rise.0)

pub returns-clause-agreed : goal.returns-clause-agreed
returns-clause-agreed g c = rw c.with_number.ensures
    (named_so c.given-number.result (λ factory. IsMadeAsAsked
    (types_of g.T.ZeroCopySend.name g.T.ZeroCopySend.size g.T.ZeroCopySend.alignment g.U.ZeroCopySend.name
    g.U.ZeroCopySend.size g.U.ZeroCopySend.alignment) c.args.name c.args.options.now c.args.attributes.now
    factory.service.membership.service) c.create_if-answer.result c.create_if-answer.ensures.agreed)

pub returns-clause-here : goal.returns-clause-here
returns-clause-here g c = rw (c.with_number.ensures, ← c.self.view_is)
    (here_so c.given-number.result (λ factory. factory.service.membership.storage) c.self.inside.hub.table.id
    c.self.inside.history.calls.config.id c.self.invariant.id c.create_if-answer.result c.create_if-answer.ensures.here)

pub returns-clause-others : goal.returns-clause-others
returns-clause-others g c = rw (← c.self.view_is, c.told-self-inside.ensures)
    (factories_keep c.self.inside.history.calls
    (command.Create c.number-asked.result c.args.name (options.PublishSubscribe c.args.options.now) c.args.attributes.now [])
    refusal.PublishSubscribeCreate (as_made (λ it. made_factory.PublishSubscribe it) c.create_if-answer.result))
