use Rattle.iox_command.specs.declared.command.Command.TheVariants as command
use Rattle.iox_lanes_service.specs.Turning.{loan_spent}
use Rattle.iox_lanes_service.specs.Laws.{send_replied}
use Rattle.iox_lanes_service.proofs.in_turn.LanesInTurn.send.Given as goal

abbrev pub ghost-told : goal.ghost-told
ghost-told a = loan_spent a._asked.now.value (command.Send a._asked.now.value) (send_replied a._answer.now) a._before.now.turns
