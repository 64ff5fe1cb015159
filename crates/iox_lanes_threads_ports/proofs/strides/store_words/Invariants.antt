use Rattle.std.proofs.Common.{◌≡◌}
use Rattle.iox_lanes_machine.specs.LanesParties.Publishers.{words_of as call_words}
use Rattle.iox_lanes_threads_rule.specs.Acts.{port_of}
use Rattle.iox_lanes_threads_ports.specs.SlotParts.{storing_at}
use Rattle.iox_lanes_threads_ports.specs.Strides.{called, PublisherStrode}
use Rattle.iox_lanes_threads_ports.proofs.strides.store_words.Given as goal

abbrev pub invariant-loop-at : goal.invariant-loop-at
invariant-loop-at g l =
    (l.seat.table_id ≡ l.initial.seat.table_id) × (l.seat.id ≡ l.initial.seat.id)
    × PublisherStrode (port_of l.initial.seat.me) l.fn.lane l.at l.seat.me
    (called (storing_at l.part (call_words l.fn.lane.port) l.slot l.at) l.fn.lane)
