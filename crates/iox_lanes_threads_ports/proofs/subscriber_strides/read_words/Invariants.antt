use Rattle.std.proofs.Common.{◌≡◌}
use Rattle.iox_lanes_machine.specs.LanesBase.Subscribing.{read_at}
use Rattle.iox_lanes_threads_rule.specs.Acts.{port_of}
use Rattle.iox_lanes_threads_ports.specs.Strides.{subscriber_called, SubscriberStrode}
use Rattle.iox_lanes_threads_ports.proofs.subscriber_strides.read_words.Given as goal

abbrev pub invariant-loop-word : goal.invariant-loop-word
invariant-loop-word g l =
    (l.seat.table_id ≡ l.initial.seat.table_id) × (l.seat.id ≡ l.initial.seat.id)
    × SubscriberStrode (port_of l.initial.seat.me) l.fn.lane l.seat.me (subscriber_called (read_at l.slot l.extent l.word) l.lane)

abbrev pub invariant-loop-word-2 : goal.invariant-loop-word-2
invariant-loop-word-2 g l =
    (l.seat.table_id ≡ l.fn.seat.table_id) × (l.seat.id ≡ l.fn.seat.id)
    × SubscriberStrode (port_of l.fn.seat.me) l.fn.lane l.seat.me (subscriber_called (read_at l.slot l.extent l.word) l.lane)
