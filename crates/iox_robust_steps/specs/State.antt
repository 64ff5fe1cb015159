-- The state of the machine, as lists and numbers.
use Rattle.iox_robust_steps.specs.Machine.{RobustSetState}
use Rattle.iox_robust_steps.specs.declared.state.State.{State}

-- The state of the machine, with its vectors as lists.
abbrev pub machine_of : State → RobustSetState
machine_of s = record {
  capacity = s.capacity;
  decisions = s.decisions.items;
  may_insist = s.may_insist;
  words = s.ring;
  seats = s.seats.items;
  places = s.places.items;
  lost = s.lost.items;
  events = s.events.items;
  finished = s.finished.items;
}
