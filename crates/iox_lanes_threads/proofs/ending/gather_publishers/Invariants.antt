use Rattle.std.specs.Vec.{vec_capacity}
use Rattle.std.specs.Vec.Iter.{into_iter_items, into_iter_len}
use Rattle.iox_lanes_machine.specs.LanesParties.Parties.{PublisherLaneState}
use Rattle.iox_lanes_threads.specs.Ports.{BoardPublisher}
use Rattle.iox_lanes_threads.proofs.BackTogether.{Came}
use Rattle.iox_lanes_threads.proofs.ending.gather_publishers.Given as goal

abbrev pub invariant-loop-port : goal.invariant-loop-port
invariant-loop-port l = Came {X = BoardPublisher} {Y = PublisherLaneState} (λ p. p.own.lane) (λ p. p.own.port) (λ p. p.own.table) l.words
    l.home.table_id l.initial.home.me.0.ports l.home.me.0.ports l.lanes.items (into_iter_items l.rest) l.fn.ports.items
    (vec_capacity l.lanes)

abbrev pub decreases-loop-port : goal.decreases-loop-port
decreases-loop-port l = into_iter_len l.rest
