use Rattle.std.proofs.Common.{◌≡◌, sym, subst}
use Rattle.std.specs.List.{All}
use Rattle.atomic_table.specs.Seated.{TableId}
use Rattle.iox_lanes_threads.proofs.Standing.{Sound, all_publishers_stand, all_subscribers_stand}
use Rattle.iox_lanes_threads.proofs.room.Room.seat.Goals as goal

pub seat_publishers-publishers-requires-clause-lanes : goal.seat_publishers-publishers-requires-clause-lanes
seat_publishers-publishers-requires-clause-lanes c =
    let own = c.are_of_one_service.ensures in
    let sound : Sound c.args.lanes
    = record { within = own.within; rows = own.rows; named = own.named; near = own.near; together = own.together; rooms = own.rooms } in
    all_publishers_stand c.args.lanes c.args.self.of.value c.into_ports-publisher_lanes.result.0.items sound
    (λ who lane found. (c.finished.ensures.sends c.requires.may.few who lane found).connections.once) c.requires.may.between.publishers
    c.requires.room.of_is c.into_ports-publisher_lanes.ensures.0

pub seat_subscribers-subscribers-requires-clause-lanes : goal.seat_subscribers-subscribers-requires-clause-lanes
seat_subscribers-subscribers-requires-clause-lanes c =
    let own = c.are_of_one_service.ensures in
    let sound : Sound c.args.lanes
    = record { within = own.within; rows = own.rows; named = own.named; near = own.near; together = own.together; rooms = own.rooms } in
    all_subscribers_stand c.args.lanes c.args.self.of.value c.into_ports-publisher_lanes.result.1.items sound
    c.finished.ensures.reads.rooms c.requires.may.between.subscribers c.requires.room.of_is c.into_ports-publisher_lanes.ensures.1

pub seat_subscribers-subscribers-requires-clause-shares : goal.seat_subscribers-subscribers-requires-clause-shares
seat_subscribers-subscribers-requires-clause-shares c =
    subst (λ (t : TableId). All (λ (share : TableId). share ≡ t) c.args.self.subscriber_shares.items)
    (sym c.seat_publishers-publishers.ensures.home.0) c.requires.room.subscriber_shares
