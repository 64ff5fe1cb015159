use Rattle.iox_lanes_service.proofs.Turns.{ran_so}
use Rattle.iox_lanes_service.proofs.in_turn.LanesInTurn.answers_as_machine.Goals as goal

pub returns : goal.returns
returns c = record {
  answers = rw (← c.self.view_is)
      (ran_so c.self.inside.ran_out c.self.inside.history.turns c.self.inside.lanes c.self.invariant);
}
