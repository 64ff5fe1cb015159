use Rattle.iox_lanes_service.specs.Turning.{loan_written}
use Rattle.iox_lanes_service.proofs.in_turn.LanesInTurn.write.Given as goal

abbrev pub ghost-told : goal.ghost-told
ghost-told a = loan_written a._asked.now.value a._answer.now.items a._before.now.turns
