use Rattle.std.proofs.Common.{ℕ, ◌≡◌, [], ◌∷◌, ◌++◌, length, List, sym, ap, subst, ◌∙◌}
use Rattle.std.specs.Vec.{vec_capacity}
use Rattle.std.specs.Vec.Iter.{into_iter_items}
use Rattle.atomic_table.specs.Seated.{TableId}
use Rattle.iox_lanes_machine.specs.LanesParties.Parties.{SubscriberLaneState}
use Rattle.iox_lanes_machine.specs.World.{World}
use Rattle.iox_lanes_threads.specs.Ports.{BoardSubscriber}
use Rattle.iox_lanes_threads.proofs.Seating.{Subscribers, opened_subscriber, subscriber_seated, subscriber_waits}
use Rattle.iox_lanes_threads.proofs.room.seat_subscribers.Goals as goal

pub loop-lane-preserved : goal.loop-lane-preserved
loop-lane-preserved c =
    let m : World = c.args.of.now.value in
    let table : TableId = c.args.home.now.table_id in
    let rest : List SubscriberLaneState = into_iter_items c.next.new.self in
    let seated : List BoardSubscriber = c.loop-lane.seated.items in
    let k : Subscribers m c.args.board c.args.sizes table c.loop-lane.home.table_id c.loop-lane.home.me (c.in-Some.lane ∷ rest)
    c.loop-lane.shares.items seated (vec_capacity c.loop-lane.seated) =
    subst (λ (xs : List SubscriberLaneState). Subscribers m c.args.board c.args.sizes table c.loop-lane.home.table_id
    c.loop-lane.home.me xs c.loop-lane.shares.items seated (vec_capacity c.loop-lane.seated)) c.in-Some.ensures.items
    c.loop-lane.invariant in
    let waits = subscriber_waits m c.args.board c.args.sizes table c.loop-lane.home.table_id c.loop-lane.home.me c.in-Some.lane rest
    c.loop-lane.shares.items seated (vec_capacity c.loop-lane.seated) k in
    let place : c.len.result ≡ length seated = c.len.ensures ∙ c.loop-lane.seated.ok.0 in
    let is : c.seat_subscriber-subscriber.result ≡ opened_subscriber c.args.board table m (length seated) c.in-Some.lane =
    c.seat_subscriber-subscriber.ensures.value ∙
    (λ i. record {
      board = c.args.board;
      place = place i;
      own
          = record { table = k.same i; port = waits.1 i; lane = c.in-Some.lane; words = [] };
    }) in
    subst (λ (n : ℕ). Subscribers m c.args.board c.args.sizes table c.seat_subscriber-subscriber.new.home.table_id
    c.seat_subscriber-subscriber.new.home.me rest c.pop.new.self.items c.push_reserved.new.self.items n)
    (sym c.push_reserved.ensures.capacity)
    (subscriber_seated m c.args.board c.args.sizes table c.loop-lane.home.table_id c.seat_subscriber-subscriber.new.home.table_id
    c.loop-lane.home.me c.seat_subscriber-subscriber.new.home.me c.in-Some.lane rest
    c.loop-lane.shares.items c.pop.new.self.items c.in-Some-pop.share seated c.push_reserved.new.self.items
    (vec_capacity c.loop-lane.seated) k
    c.seat_subscriber-subscriber.ensures.home.0 c.seat_subscriber-subscriber.ensures.home.1 c.in-Some-pop.ensures.items
    (c.push_reserved.ensures.items ∙ ap (λ (x : BoardSubscriber). seated ++ x ∷ []) is))
