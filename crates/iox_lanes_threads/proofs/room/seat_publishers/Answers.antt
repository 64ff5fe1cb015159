use Rattle.std.proofs.Common.{ℕ, ◌≡◌, [], ◌∷◌, ◌++◌, length, List, sym, ap, subst, ◌∙◌}
use Rattle.std.specs.Vec.{vec_capacity}
use Rattle.std.specs.Vec.Iter.{into_iter_items}
use Rattle.atomic_table.specs.Seated.{TableId}
use Rattle.iox_lanes_machine.specs.LanesParties.Parties.{PublisherLaneState}
use Rattle.iox_lanes_machine.specs.World.{World}
use Rattle.iox_lanes_threads.specs.Ports.{BoardPublisher}
use Rattle.iox_lanes_threads.proofs.Seating.{Publishers, opened_publisher, publisher_seated, publisher_waits}
use Rattle.iox_lanes_threads.proofs.room.seat_publishers.Goals as goal

pub loop-lane-preserved : goal.loop-lane-preserved
loop-lane-preserved c =
    let m : World = c.args.of.now.value in
    let table : TableId = c.args.home.now.table_id in
    let rest : List PublisherLaneState = into_iter_items c.next.new.self in
    let seated : List BoardPublisher = c.loop-lane.seated.items in
    let k : Publishers m c.args.board c.args.sizes table c.loop-lane.home.table_id c.loop-lane.home.me (c.in-Some.lane ∷ rest)
    c.loop-lane.shares.items c.loop-lane.writes.items seated (vec_capacity c.loop-lane.seated) =
    subst (λ (xs : List PublisherLaneState). Publishers m c.args.board c.args.sizes table c.loop-lane.home.table_id c.loop-lane.home.me
    xs c.loop-lane.shares.items c.loop-lane.writes.items seated (vec_capacity c.loop-lane.seated)) c.in-Some.ensures.items
    c.loop-lane.invariant in
    let waits = publisher_waits m c.args.board c.args.sizes table c.loop-lane.home.table_id c.loop-lane.home.me c.in-Some.lane rest
    c.loop-lane.shares.items c.loop-lane.writes.items seated (vec_capacity c.loop-lane.seated) k in
    let place : c.len.result ≡ length seated = c.len.ensures ∙ c.loop-lane.seated.ok.0 in
    let is : c.seat_publisher-publisher.result ≡ opened_publisher c.args.board table m (length seated) c.in-Some.lane =
    c.seat_publisher-publisher.ensures.value ∙
    (λ i. record { board = c.args.board; place = place i; own = record { table = k.same i; port = waits.1 i; lane = c.in-Some.lane } }) in
    subst (λ (n : ℕ). Publishers m c.args.board c.args.sizes table c.seat_publisher-publisher.new.home.table_id
    c.seat_publisher-publisher.new.home.me rest c.pop.new.self.items c.pop-in-Some.new.self.items c.push_reserved.new.self.items n)
    (sym c.push_reserved.ensures.capacity)
    (publisher_seated m c.args.board c.args.sizes table c.loop-lane.home.table_id c.seat_publisher-publisher.new.home.table_id
    c.loop-lane.home.me c.seat_publisher-publisher.new.home.me c.in-Some.lane rest
    c.loop-lane.shares.items c.pop.new.self.items c.in-Some-pop.share c.loop-lane.writes.items c.pop-in-Some.new.self.items
    c.in-Some-pop-2.asked seated c.push_reserved.new.self.items (vec_capacity c.loop-lane.seated) k
    c.seat_publisher-publisher.ensures.home.0 c.seat_publisher-publisher.ensures.home.1 c.in-Some-pop.ensures.items
    c.in-Some-pop-2.ensures.items (c.push_reserved.ensures.items ∙ ap (λ (x : BoardPublisher). seated ++ x ∷ []) is))
