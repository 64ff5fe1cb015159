use Rattle.std.proofs.Common.{[], refl}
use Rattle.iox_command.specs.declared.command.Command.TheVariants as command
use Rattle.iox_command.specs.declared.refusal.Refusal.TheVariants as refusal
use Rattle.iox_command.specs.declared.service.ServiceOptions.TheVariants as options
use Rattle.iox_hub.specs.Recording.{IsMetAsAsked}
use Rattle.iox_hub.specs.RecordedNames.{as_made}
use Rattle.iox_hub.proofs.AskedServices.{named_so}
use Rattle.iox_hub.proofs.KeptNumbers.{factories_keep}
use Rattle.iox_hub.proofs.RecordedServices.{opened_recorded}
use Rattle.iox_hub.proofs.RecordedTold.{factory_goes_by, here_so, opened_so}
use Rattle.iox_hub_commands.specs.Asked.{types_of}
use Rattle.iox_hub_commands.specs.DescribeBase.declared.type_detail.TypeVariant.TheVariants.{Dynamic}
use Rattle.iox_hub_commands.specs.declared.services.made.MadeFactory.TheVariants as made_factory
use Rattle.iox_hub.proofs.RecordedRuns.{for_all, for_one}
use Rattle.iox_hub.proofs.recorded.recorded_hub.RecordedHub.open.Goals as goal

pub invariant_of-self : goal.invariant_of-self
invariant_of-self g c = rw c.opened-answer.ensures.told
    (for_all _ (λ handed. opened_recorded _ refl handed c.self.inside.history.calls c.self.inside.hub c.opened-answer.new.hub
    c.number.result
    c.args.name c.args.options.now (c.typed_calls_are_a_run.ensures.goes_on handed g.B.PublisherHandlers.fixed
    g.D.SubscriberHandler.fixed Dynamic)
    (c.typed_service_calls_are_steps.ensures handed g.B.PublisherHandlers.fixed g.D.SubscriberHandler.fixed Dynamic).opening
    c.args.attributes
    (as_made (λ it. made_factory.PublishSubscribe it) c.opened-answer.result.0) c.opened-answer.ensures.opens (for_one _
    c.self.invariant handed)))

pub returns-clause-opened : goal.returns-clause-opened
returns-clause-opened g c = rw (c.with_number.ensures, ← c.self.view_is, c.opened-answer.ensures.told, c.number.ensures)
    (opened_so c.self.inside.history.calls (command.Open c.args.node.now.number c.args.name (options.PublishSubscribe c.args.options.now)
    c.args.attributes [])
    refusal.PublishSubscribeOpen (λ it. made_factory.PublishSubscribe it) c.opened-answer.result.0 c.given-number.result)

pub returns-clause-number : goal.returns-clause-number
returns-clause-number g c = rw (c.with_number.ensures, ← c.self.view_is, c.opened-answer.ensures.told)
    (factory_goes_by c.self.inside.history.calls
    (command.Open c.number.result c.args.name (options.PublishSubscribe c.args.options.now) c.args.attributes [])
    refusal.PublishSubscribeOpen (λ it. made_factory.PublishSubscribe it) c.opened-answer.result.0 c.given-number.result
    c.given-number.ensures
    c.self.invariant.rise.0)

pub returns-clause-agreed : goal.returns-clause-agreed
returns-clause-agreed g c = rw c.with_number.ensures
    (named_so c.given-number.result (λ factory. IsMetAsAsked
    (types_of g.T.ZeroCopySend.name g.T.ZeroCopySend.size g.T.ZeroCopySend.alignment g.U.ZeroCopySend.name
    g.U.ZeroCopySend.size g.U.ZeroCopySend.alignment) c.args.name c.args.options.now c.args.attributes
    factory.service.membership.service) c.opened-answer.result.0 c.opened-answer.ensures.agreed)

pub returns-clause-here : goal.returns-clause-here
returns-clause-here g c = rw (c.with_number.ensures, ← c.self.view_is)
    (here_so c.given-number.result (λ factory. factory.service.membership.storage) c.self.inside.hub.table.id
    c.self.inside.history.calls.config.id c.self.invariant.id c.opened-answer.result.0 c.opened-answer.ensures.here)

pub returns-clause-others : goal.returns-clause-others
returns-clause-others g c = rw (← c.self.view_is, c.opened-answer.ensures.told)
    (factories_keep c.self.inside.history.calls
    (command.Open c.number.result c.args.name (options.PublishSubscribe c.args.options.now) c.args.attributes [])
    refusal.PublishSubscribeOpen (as_made (λ it. made_factory.PublishSubscribe it) c.opened-answer.result.0))
