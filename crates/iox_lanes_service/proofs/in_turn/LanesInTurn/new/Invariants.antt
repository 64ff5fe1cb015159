use Rattle.iox_lanes_service.proofs.Turns.{unasked}
use Rattle.iox_lanes_service.proofs.in_turn.LanesInTurn.new.Given as goal

abbrev pub ghost-told : goal.ghost-told
ghost-told a = unasked a._before.now
