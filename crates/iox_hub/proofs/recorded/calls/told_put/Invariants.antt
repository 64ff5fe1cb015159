use Rattle.iox_command.specs.declared.command.Command.TheVariants as command
use Rattle.iox_hub.specs.Recorded.{asked_too}
use Rattle.iox_hub.specs.Recording.{told_came}
use Rattle.iox_hub.proofs.recorded.calls.told_put.Given as goal

abbrev pub ghost-told : goal.ghost-told
ghost-told g a = asked_too (command.Put a._asked.now.value g.sent) (told_came a._answer.now) a._before.now.calls
