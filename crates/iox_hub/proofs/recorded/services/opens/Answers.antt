use Rattle.std.proofs.Common.{[], ap, ◌∙◌}
use Rattle.iox_hub_commands.specs.Asked.{required_publish_subscribe}
use Rattle.iox_hub_commands.specs.DescribeBase.Attributes.{required}
use Rattle.iox_hub.proofs.recorded.services.opens.Goals as goal

pub returns-clause-opens : goal.returns-clause-opens
returns-clause-opens g c =
    c.opens_as_asked-answer.ensures _
    (c.publish_subscribe-requirement.ensures
    ∙ ap (λ types. required_publish_subscribe c.args.asked.now types (required [] [])) c.message_types.ensures)
