-- The state of a set's machine, as lists and numbers.
use Rattle.iox_queues.specs.Machine.{SetState}
use Rattle.iox_queues.specs.declared.bits.state.State.{State}

-- The state of a set's machine, with its vectors as lists.
abbrev pub machine_of : State → SetState
machine_of s = record { max = s.max; words = s.ring; seats = s.seats.items; events = s.events.items; finished = s.finished.items }
