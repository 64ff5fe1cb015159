use Rattle.iox_command.specs.declared.command.Command.TheVariants as command
use Rattle.iox_command.specs.declared.reply.Reply.TheVariants as reply
use Rattle.iox_lanes_service.specs.Turning.{loan_spent}
use Rattle.iox_lanes_service.proofs.in_turn.LanesInTurn.drop_loan.Given as goal

abbrev pub ghost-told : goal.ghost-told
ghost-told a = loan_spent a._asked.now.value (command.Drop a._asked.now.value) reply.Done a._before.now.turns
