use Rattle.std.proofs.Common.{◌+◌}
use Rattle.iox_lanes_service.proofs.SampleTurns.{received}
use Rattle.iox_lanes_service.proofs.in_turn.LanesInTurn.receive.Given as goal

abbrev pub ghost-of : goal.ghost-of
ghost-of a = a._from.now

abbrev pub ghost-given : goal.ghost-given
ghost-given a = a._from.now.turns.samples + 1

abbrev pub ghost-told : goal.ghost-told
ghost-told a = received a._answer.now.0 a._answer.now.1 a._asked.now.lanes a._before.now.turns
