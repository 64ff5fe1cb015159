use Rattle.std.proofs.Common.{◌+◌}
use Rattle.iox_lanes_service.specs.Turning.{loaned}
use Rattle.iox_lanes_service.proofs.in_turn.LanesInTurn.loan.Given as goal

abbrev pub ghost-given : goal.ghost-given
ghost-given a = a._from.now.turns.loans + 1

abbrev pub ghost-told : goal.ghost-told
ghost-told a = loaned a._asked.now a._answer.now a._before.now.turns
