use Rattle.std.proofs.Common.{true}
use Rattle.iox_command.specs.declared.command.Command.TheVariants as command
use Rattle.iox_hub_commands.specs.Replies.{done_reply}
use Rattle.iox_hub_commands.specs.Tables.{without_loan}
use Rattle.iox_hub.specs.Recording.{asked_with}
use Rattle.iox_hub.proofs.recorded.recorded_hub.RecordedHub.drop_loan.Given as goal

abbrev pub ghost-told : goal.ghost-told
ghost-told g a = asked_with (without_loan a._asked.now.value a._before.now.calls.made) (command.Drop a._asked.now.value)
    (done_reply true) a._before.now.calls
