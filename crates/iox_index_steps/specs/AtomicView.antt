-- The state of a single value's machine, as lists and numbers.
use Rattle.iox_index_steps.specs.AtomicMachine.{AtomicState}
use Rattle.iox_index_steps.specs.declared.atomic.state.State.{State}

-- The state of a single value's machine, with its vectors as lists.
abbrev pub machine_of : State → AtomicState
machine_of s = record {
  values = s.values.items;
  words = s.ring;
  producer = s.producer;
  seats = s.seats.items;
  events = s.events.items;
  finished = s.finished.items;
}
