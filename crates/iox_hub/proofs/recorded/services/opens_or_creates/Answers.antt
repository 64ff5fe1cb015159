use Rattle.std.proofs.Common.{[], ap, ◌∙◌}
use Rattle.iox_command.specs.NegotiateBase.PublishSubscribeErrors as publish_subscribe_errors
use Rattle.iox_command.specs.declared.service.ServiceOptions.TheVariants as options
use Rattle.iox_hub_commands.proofs.Ruled.{either_by_rules}
use Rattle.iox_hub_commands.specs.Asked.{required_publish_subscribe}
use Rattle.iox_hub_commands.specs.DescribeBase.Attributes.{required}
use Rattle.iox_hub.proofs.recorded.services.opens_or_creates.Goals as goal

pub returns-clause-opens : goal.returns-clause-opens
returns-clause-opens g c =
    either_by_rules _ (options.PublishSubscribe c.args.asked.now) _ _ c.args.builder.node c.args.builder.name [] _ _ _
    publish_subscribe_errors.open_or_create_error _ c.args.attributes
    (c.opens_or_creates_as_asked-answer.ensures _
    (c.publish_subscribe-requirement.ensures
    ∙ ap (λ types. required_publish_subscribe c.args.asked.now types (required [] [])) c.message_types.ensures))
