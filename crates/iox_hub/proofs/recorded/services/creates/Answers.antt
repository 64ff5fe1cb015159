use Rattle.std.proofs.Common.{[]}
use Rattle.iox_command.specs.NegotiateBase.PublishSubscribeErrors as publish_subscribe_errors
use Rattle.iox_command.specs.declared.service.ServiceOptions.TheVariants as options
use Rattle.iox_hub_commands.proofs.Ruled.{creates_by_rules}
use Rattle.iox_hub.proofs.recorded.services.creates.Goals as goal

pub returns-clause-opens : goal.returns-clause-opens
returns-clause-opens g c =
    creates_by_rules _ (options.PublishSubscribe c.args.asked.now) _ _ c.args.builder.node c.args.builder.name [] _ _ _
    publish_subscribe_errors.create_error c.args.attributes.now
    (rw (c.with_requirement-required.ensures, c.publish_subscribe-requirement.ensures, c.message_types.ensures) at
    c.creates_as_asked-answer.ensures)
