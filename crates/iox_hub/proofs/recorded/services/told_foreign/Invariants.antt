use Rattle.iox_command.specs.declared.command.Command.TheVariants as command
use Rattle.iox_hub_commands.specs.Replies.{foreign_reply}
use Rattle.iox_hub.specs.Recorded.{asked_too}
use Rattle.iox_hub.proofs.recorded.services.told_foreign.Given as goal

abbrev pub ghost-told : goal.ghost-told
ghost-told g a = asked_too (command.Foreign a._asked.now.0 a._asked.now.1 g.named) (foreign_reply a._answer.now) a._before.now.calls
