-- The state of an index set's machine, as lists and numbers.
use Rattle.iox_index_steps.specs.Machine.{IndexSetState}
use Rattle.iox_index_steps.specs.declared.state.State.{State}

-- The state of an index set's machine, with its vectors as lists.
abbrev pub machine_of : State → IndexSetState
machine_of s = record {
  words = s.ring;
  seats = s.seats.items;
  holders = s.holders.items;
  events = s.events.items;
  finished = s.finished.items;
}
