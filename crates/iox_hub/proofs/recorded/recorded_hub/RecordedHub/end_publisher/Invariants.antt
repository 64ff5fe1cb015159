use Rattle.iox_command.specs.declared.command.Command.TheVariants as command
use Rattle.iox_command.specs.declared.port.PortNumber.TheVariants as port
use Rattle.iox_hub_commands.specs.Numbering.{removed_if}
use Rattle.iox_hub_commands.specs.Replies.{done_reply}
use Rattle.iox_hub_commands.specs.Tables.{without_publisher}
use Rattle.iox_hub.specs.Recording.{asked_with}
use Rattle.iox_hub.proofs.recorded.recorded_hub.RecordedHub.end_publisher.Given as goal

abbrev pub ghost-told : goal.ghost-told
ghost-told g a = asked_with (removed_if a._answer.now (without_publisher a._asked.now.value) a._before.now.calls.made)
    (command.Leave (port.Publisher a._asked.now.value)) (done_reply a._answer.now) a._before.now.calls
