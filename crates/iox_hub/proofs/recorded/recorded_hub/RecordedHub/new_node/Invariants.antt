use Rattle.iox_command.specs.declared.command.Command.TheVariants as command
use Rattle.iox_hub_machine.specs.TypedServices.{told_node}
use Rattle.iox_hub.specs.Recorded.{asked_too}
use Rattle.iox_hub.proofs.recorded.recorded_hub.RecordedHub.new_node.Given as goal

abbrev pub ghost-told : goal.ghost-told
ghost-told g a = asked_too command.Node (told_node a._answer.now) a._before.now.calls
