-- A publisher's view counts what stands at its connections, and positions are near.
use Rattle.std.proofs.Common.{ℕ, ◌≡◌, ◌+◌, ◌≤◌, List, [], ◌++◌, map, slice_get, get_or, Option, Some}
use Rattle.std.proofs.Common.{refl, sym, ◌∙◌, ap, subst, if◌then◌else◌, nat_lt, Bool, true, false, arith}
use Rattle.std.proofs.lemmas.Bool.{ltb-false}
use Rattle.iox_lanes_machine.specs.QueuesSteps.declared.access.Word.TheVariants.{Write, Read}
use Rattle.iox_lanes_machine.specs.QueuesSteps.Ends.{cells_of, overflows}
use Rattle.iox_lanes_machine.specs.QueuesSteps.declared.order.Placed.{Placed}
use Rattle.iox_lanes_machine.specs.QueuesSteps.declared.rings.ends.RingKind.{RingKind}
use Rattle.iox_lanes_machine.specs.QueuesSteps.declared.rings.ends.RingKind.TheVariants as kind
use Rattle.iox_lanes_machine.specs.LanesBase.Table.{TableWords, held_by}
use Rattle.iox_lanes_machine.specs.LanesBase.declared.words.word.ConnectionRing.TheVariants.{Submission, Completion}
use Rattle.iox_lanes_machine.specs.LanesBase.declared.words.word.SharedWord.TheVariants.{Ring}
use Rattle.iox_lanes_machine.specs.LanesBase.declared.calls.publisher.PublisherCall.{PublisherCall}
use Rattle.iox_lanes_machine.specs.LanesBase.declared.calls.route.Route.{Route}
use Rattle.iox_lanes_machine.specs.LanesParties.Parties.{PublisherLaneState, SubscriberLaneState, place_of}
use Rattle.iox_lanes_machine.specs.LanesParties.declared.call.Party.{Party}
use Rattle.iox_lanes_machine.specs.LanesParties.declared.call.Party.TheVariants.{Publisher, Subscriber}
use Rattle.iox_lanes_machine.proofs.LanesParties.Rings.{all_at}
use Rattle.iox_lanes_machine.specs.Borrowing.{is_at, borrows}
use Rattle.iox_lanes_machine.specs.Kept.{IsLinkOf, sender}
use Rattle.iox_lanes_machine.specs.LedgerUses.{one_if, count, refers_to}
use Rattle.iox_lanes_machine.specs.Links.{LinkState}
use Rattle.iox_lanes_machine.specs.Rings.{ring_in, waiting, push_on, pop_on}
use Rattle.iox_lanes_machine.specs.Stored.{between}
use Rattle.iox_lanes_machine.specs.Together.{HoldTogether}
use Rattle.iox_lanes_machine.specs.Uses.{aside_at, given_back}
use Rattle.iox_lanes_machine.specs.World.{World, publisher_stage, subscriber_stage}
use Rattle.iox_lanes_machine.proofs.Ends.{some_is}
use Rattle.iox_lanes_machine.proofs.Entries.{count_append}
use Rattle.iox_lanes_machine.proofs.Mailboxes.{shape_near}
use Rattle.iox_lanes_machine.proofs.PublisherUses.{order_there}
use Rattle.iox_lanes_threads_rule.specs.Lanes.{HasPublisher, HasParty, as_table, line_of}
use Rattle.iox_lanes_threads_rule.specs.Slots.{ReferencesAreCounted, PositionsAreNear}
use Rattle.iox_lanes_threads_rule.specs.declared.service.Line.{Line}
use Rattle.iox_lanes_threads_rule.specs.declared.service.Service.{Service}
use Rattle.iox_lanes_threads_rule.specs.declared.view.PortParty.{PortParty}
use Rattle.iox_lanes_threads_rule.specs.declared.view.PortParty.TheVariants as party
use Rattle.iox_lanes_threads_rule.proofs.Anew.{mapped_is}
use Rattle.iox_lanes_threads_rule.proofs.Cells.{between_all}
use Rattle.iox_lanes_threads_rule.proofs.SubscriberBehind.{same_route}

-- the link that a line of the service is
link_there : (s : Service) (m : World) (connection : ℕ) (line : Line) → s.lines ≡ map line_of m.links
    → slice_get s.lines connection ≡ Some line
    → (link : LinkState) × (slice_get m.links connection ≡ Some link) × (line_of link ≡ line)
link_there s m connection line are found =
    mapped_is line_of m.links connection line (ap (λ (xs : List Line). slice_get xs connection) (sym are) ∙ found)

-- the publisher at whose place a party of lanes is
publisher_there : (m : World) (name : Party) (lane : PublisherLaneState) → HasParty m name (party.Publisher lane)
    → (place : ℕ) × HasPublisher m place lane
publisher_there m (Publisher place) lane has = (place, has)
publisher_there m (Subscriber place) lane has = absurd has

module _ (m : World) (k : HoldTogether m) (who first : ℕ) (lane : PublisherLaneState)
    (found : slice_get m.publishers who ≡ Some (record lane { first = first })) (place : ℕ) (route : Route)
    (at : slice_get lane.port.routes place ≡ Some route) (link : LinkState) (there : slice_get m.links route.connection ≡ Some link)
    (own : SubscriberLaneState) (since : ℕ)
    (reads : slice_get m.subscribers link.subscriber ≡ Some (record own { first = since })) where
  mine : IsLinkOf m.links sender who route
  mine = all_at (IsLinkOf m.links sender who) lane.port.routes place route at (k.within.senders who (record lane { first = first }) found)

  -- the link's publisher is this one
  sends : publisher_stage (slice_get m.publishers link.publisher) ≡ lane.port.call
  sends =
      let same : mine.link ≡ link = some_is mine.link link (sym mine.found ∙ there) in
      let is : link.publisher ≡ who = ap (λ (l : LinkState). l.publisher) (sym same) ∙ mine.own in
      ap (λ (n : ℕ). publisher_stage (slice_get m.publishers n)) is ∙ ap publisher_stage found

  abbrev order : List Placed
  order = get_or m.orders route.connection []

  got : slice_get m.orders route.connection ≡ Some order
  got = order_there m route.connection link there k.within

  messages : between (ring_in m.table route.connection (cells_of link.kind link.limit))
      ≡ waiting link order ++ aside_at m.table route.connection link lane.port.call
  messages =
      subst (λ (c : PublisherCall). between (ring_in m.table route.connection (cells_of link.kind link.limit))
      ≡ waiting link order ++ aside_at m.table route.connection link c) sends
      (between_all link.kind link.limit (ring_in m.table route.connection (cells_of link.kind link.limit)) (waiting link order)
      (push_on route.connection link.kind (publisher_stage (slice_get m.publishers link.publisher)))
      (pop_on route.connection link.kind (subscriber_stage (slice_get m.subscribers link.subscriber)))
      (k.rings route.connection link order there got).shape)

  pub counted_there : (slot : ℕ) → count slot (between (ring_in m.table route.connection (cells_of link.kind link.limit)))
      + one_if (borrows route.connection slot (Some own)) + count slot (given_back m.table route.connection)
      ≡ one_if (refers_to lane.port.book place slot)
  counted_there slot =
      let balanced = (k.uses.publishers who (record lane { first = first }) found).balanced place route link order at there got slot in
      let borrowed : one_if (borrows route.connection slot (slice_get m.subscribers link.subscriber))
      ≡ one_if (borrows route.connection slot (Some own))
      = ap (λ (o : Option SubscriberLaneState). one_if (borrows route.connection slot o)) reads
      ∙ ap (λ (r : Option Route). one_if (is_at route.connection r)) (same_route since (place_of slot own) own) in
      let split = ap (count slot) messages
      ∙ count_append slot (waiting link order) (aside_at m.table route.connection link lane.port.call) in
      omega (arith, balanced, borrowed, split)

pub references_are_counted : ReferencesAreCounted
references_are_counted s words ports publisher subscriber lane own place route line back early c slot =
    let b = back early in
    let who = publisher_there b.lanes publisher.name lane
    (subst (HasParty b.lanes publisher.name) c.sender (b.ports publisher.number publisher c.sends)) in
    let link = link_there s b.lanes route.connection line b.lines c.line_is in
    let name : subscriber.name ≡ Subscriber link.0.subscriber
    = c.name ∙ ap (λ (l : Line). Subscriber l.subscriber) (sym link.2) in
    let reads : HasParty b.lanes (Subscriber link.0.subscriber) (party.Subscriber own) =
    subst (λ (z : Party × PortParty). HasParty b.lanes z.0 z.1) (λ i. (name i, c.receiver i))
    (b.ports subscriber.number subscriber c.receives) in
    let counted = counted_there b.lanes b.together who.0 (who.1).0 lane (who.1).1 place route c.route_is link.0 link.1 own reads.0 reads.1
    slot in
    subst (λ (z : TableWords × Line). count slot (between (ring_in z.0 route.connection (cells_of z.1.kind z.1.limit)))
    + one_if (borrows route.connection slot (Some own)) + count slot (given_back z.0 route.connection)
    ≡ one_if (refers_to lane.port.book place slot)) (λ i. (b.table i, link.2 i)) counted

-- the same of a table of lanes
record NearIn (table : TableWords) (connection : ℕ) (line : Line) : Type 0 where
  behind : held_by table (Ring connection Submission Read) ≤ held_by table (Ring connection Submission Write)
  near : held_by table (Ring connection Submission Write)
      ≤ held_by table (Ring connection Submission Read) + cells_of line.kind line.limit
  back_behind : held_by table (Ring connection Completion Read) ≤ held_by table (Ring connection Completion Write)
  back_near : held_by table (Ring connection Completion Write)
      ≤ held_by table (Ring connection Completion Read) + table.sizes.completion_cells

-- a ring of messages holds no more than it has cells
near_cells : (k : RingKind) (limit : ℕ) → limit + (if overflows k then 1 else 0) ≤ cells_of k limit
near_cells kind.Overflowing limit = omega arith
near_cells kind.Refusing limit = by_test (nat_lt 0 limit) refl
  where
    by_test : (t : Bool) → nat_lt 0 limit ≡ t → limit + 0 ≤ (if t then limit else 1)
    by_test true e = omega arith
    by_test false e = omega (arith, ltb-false 0 limit e)

pub positions_are_near : PositionsAreNear
positions_are_near s words ports connection line back early found =
    let b = back early in
    let link = link_there s b.lanes connection line b.lines found in
    let order : List Placed = get_or (b.lanes).orders connection [] in
    let got = order_there b.lanes connection link.0 link.1 b.together.within in
    let near = shape_near link.0.kind link.0.limit _ _ _ _ (b.together.rings connection link.0 order link.1 got).shape in
    let most = near_cells link.0.kind link.0.limit in
    let back_shape = (b.together.returns.rings b.together.few connection link.0 link.1).shape in
    let here : NearIn b.lanes.table connection (line_of link.0) = record {
      behind = near.behind;
      near = omega (arith, near.near, most);
      back_behind = omega (arith, back_shape.level);
      back_near = omega (arith, back_shape.level, back_shape.room);
    } in
    let now : NearIn (as_table s words) connection line
    = subst (λ (z : TableWords × Line). NearIn z.0 connection z.1) (λ i. (b.table i, link.2 i)) here in
    record { behind = now.behind; near = now.near; back_behind = now.back_behind; back_near = now.back_near }
