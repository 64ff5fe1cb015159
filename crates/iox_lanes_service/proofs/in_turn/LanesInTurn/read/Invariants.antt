use Rattle.iox_command.specs.declared.command.Command.TheVariants as command
use Rattle.iox_command.specs.declared.reply.Reply.TheVariants as reply
use Rattle.iox_lanes_service.specs.InTurn.{turned}
use Rattle.iox_lanes_service.proofs.SampleTurns.{one_value}
use Rattle.iox_lanes_service.proofs.in_turn.LanesInTurn.read.Given as goal

abbrev pub ghost-told : goal.ghost-told
ghost-told a = turned (command.Read a._asked.now.value) (reply.Values (one_value a._answer.now.now)) a._before.now.turns
