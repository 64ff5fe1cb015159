use Rattle.iox_command.specs.declared.command.Command.TheVariants as command
use Rattle.iox_hub_commands.specs.Replies.{done_reply}
use Rattle.iox_hub.specs.Recorded.{asked_too}
use Rattle.iox_hub.proofs.recorded.recorded_hub.RecordedHub.set.Given as goal

abbrev pub ghost-told : goal.ghost-told
ghost-told g a = asked_too (command.Set a._asked.now.value a._after.now.0 a._after.now.1) (done_reply a._answer.now) a._before.now.calls
