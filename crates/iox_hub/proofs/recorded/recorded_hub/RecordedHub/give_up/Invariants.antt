use Rattle.iox_command.specs.declared.command.Command.TheVariants as command
use Rattle.iox_hub_commands.specs.Replies.{given_up_reply}
use Rattle.iox_hub.specs.Recorded.{asked_too}
use Rattle.iox_hub.proofs.recorded.recorded_hub.RecordedHub.give_up.Given as goal

abbrev pub ghost-told : goal.ghost-told
ghost-told g a = asked_too (command.GiveUp a._asked.now.value) (given_up_reply a._answer.now) a._before.now.calls
