use Rattle.iox_command.specs.declared.command.Command.TheVariants as command
use Rattle.iox_hub_commands.specs.Numbering.{removed_if}
use Rattle.iox_hub_commands.specs.Tables.{without_loan}
use Rattle.iox_hub.specs.Recording.{asked_with, told_came}
use Rattle.iox_hub.proofs.recorded.recorded_hub.RecordedHub.send.Given as goal

abbrev pub ghost-told : goal.ghost-told
ghost-told g a = asked_with (removed_if a._after.now (without_loan a._asked.now.value) a._before.now.calls.made)
    (command.Send a._asked.now.value) (told_came a._answer.now) a._before.now.calls
