use Rattle.std.specs.Vec.{vec_capacity}
use Rattle.std.specs.Vec.Iter.{into_iter_items, into_iter_len}
use Rattle.iox_lanes_threads.proofs.Seating.{Publishers}
use Rattle.iox_lanes_threads.proofs.room.seat_publishers.Given as goal

abbrev pub invariant-loop-lane : goal.invariant-loop-lane
invariant-loop-lane l = Publishers l.of.value l.board l.sizes l.initial.home.table_id l.home.table_id l.home.me (into_iter_items l.rest)
    l.shares.items l.writes.items l.seated.items (vec_capacity l.seated)

abbrev pub decreases-loop-lane : goal.decreases-loop-lane
decreases-loop-lane l = into_iter_len l.rest
