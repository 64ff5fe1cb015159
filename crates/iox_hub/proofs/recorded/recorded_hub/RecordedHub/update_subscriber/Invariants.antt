use Rattle.iox_command.specs.declared.command.Command.TheVariants as command
use Rattle.iox_command.specs.declared.port.PortNumber.TheVariants as port
use Rattle.iox_hub_commands.specs.Replies.{updated_reply}
use Rattle.iox_hub.specs.Recorded.{asked_too}
use Rattle.iox_hub.proofs.recorded.recorded_hub.RecordedHub.update_subscriber.Given as goal

abbrev pub ghost-told : goal.ghost-told
ghost-told g a = asked_too (command.Update (port.Subscriber a._asked.now.value)) (updated_reply a._answer.now) a._before.now.calls
