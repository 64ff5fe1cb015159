-- One step of lanes, and what it keeps at each connection.
use Rattle.std.proofs.Common.{ℕ, ◌≡◌, ◌<◌, ◌≤◌, ◌^◌, ◌⊎◌, true, List, ◌++◌, set, slice_get, Option, Some, None, refl, sym, ◌∙◌, ap, subst}
use Rattle.std.proofs.Common.{inl, inr, arith}
use Rattle.std.proofs.lemmas.Bool.Decides.{eqb_tells}
use Rattle.iox_lanes_machine.specs.QueuesSteps.Access.{RingWords, successor}
use Rattle.iox_lanes_machine.specs.QueuesSteps.Order.{at}
use Rattle.iox_lanes_machine.specs.QueuesSteps.declared.access.Access.{Access}
use Rattle.iox_lanes_machine.specs.QueuesSteps.declared.access.Access.TheVariants as own
use Rattle.iox_lanes_machine.specs.QueuesSteps.declared.order.Act.{Act}
use Rattle.iox_lanes_machine.specs.QueuesSteps.declared.order.Placed.{Placed}
use Rattle.iox_lanes_machine.specs.QueuesSteps.Ends.{Shape, cells_of, push_idle, pop_idle}
use Rattle.iox_lanes_machine.specs.QueuesSteps.declared.rings.ends.Push.{Push}
use Rattle.iox_lanes_machine.specs.QueuesSteps.declared.rings.ends.Pop.{Pop}
use Rattle.iox_lanes_machine.specs.LanesBase.Table.{TableWords, after_shared, IsOfTable}
use Rattle.iox_lanes_machine.specs.LanesBase.Words.{on_ring}
use Rattle.iox_lanes_machine.specs.LanesBase.declared.words.word.ConnectionRing.TheVariants.{Submission, Completion}
use Rattle.iox_lanes_machine.specs.LanesBase.Publishing.{publisher_next}
use Rattle.iox_lanes_machine.specs.LanesBase.Subscribing.{subscriber_next, subscriber_take, subscriber_change}
use Rattle.iox_lanes_machine.specs.LanesBase.declared.calls.publisher.PublisherCall.{PublisherCall}
use Rattle.iox_lanes_machine.specs.LanesBase.declared.calls.publisher.PublisherCall.TheVariants as publishing
use Rattle.iox_lanes_machine.specs.LanesBase.declared.calls.subscriber.SubscriberCall.{SubscriberCall}
use Rattle.iox_lanes_machine.specs.LanesBase.declared.calls.subscriber.SubscriberCall.TheVariants as subscribing
use Rattle.iox_lanes_machine.specs.LanesParties.Publishers.{words_of}
use Rattle.iox_lanes_machine.specs.LanesParties.Parties.{PublisherLaneState, SubscriberLaneState, publisher_begun, publisher_after}
use Rattle.iox_lanes_machine.specs.LanesParties.Parties.{subscriber_begun, subscriber_after}
use Rattle.iox_lanes_machine.specs.LanesParties.Within.{IsPublishing, IsPublisher, IsSubscribing, IsSubscriber}
use Rattle.iox_lanes_machine.specs.LanesParties.declared.call.Call.{Call}
use Rattle.iox_lanes_machine.specs.LanesParties.declared.call.Move.{Move}
use Rattle.iox_lanes_machine.specs.LanesParties.declared.call.Move.TheVariants.{Begin, GoOn}
use Rattle.iox_lanes_machine.specs.LanesParties.declared.call.Party.{Party}
use Rattle.iox_lanes_machine.specs.LanesParties.declared.call.Party.TheVariants.{Publisher, Subscriber}
use Rattle.iox_lanes_machine.proofs.LanesParties.Rings.{all_at}
use Rattle.iox_lanes_machine.proofs.LanesParties.PublishersWithin.{publishers_stay_within}
use Rattle.iox_lanes_machine.proofs.LanesParties.SubscribersWithin.{subscribers_stay_within}
use Rattle.iox_lanes_machine.specs.Rings.{push_on, pop_on, waiting}
use Rattle.iox_lanes_machine.specs.World.{World, publisher_stage, subscriber_stage, pushes_to, pops_from, push_acts, pop_acts, added}
use Rattle.iox_lanes_machine.specs.World.{added_to, placed, fits, happens, publisher_fits_at, subscriber_fits_at, publisher_begins}
use Rattle.iox_lanes_machine.specs.World.{publisher_goes_on, publisher_given, subscriber_begins, subscriber_goes_on, subscriber_given}
use Rattle.iox_lanes_machine.specs.Kept.{IsLinkOf, sender, receiver, IsWithin, IsKeptAt, AreKept}
use Rattle.iox_lanes_machine.specs.Links.{LinkState}
use Rattle.iox_lanes_machine.proofs.InTable.{GoesElsewhere, access_elsewhere}
use Rattle.iox_lanes_machine.proofs.Within.{set_other, set_same, changed_routes}
use Rattle.iox_lanes_machine.proofs.Ends.{some_is, IsFreshPush, IsFreshPop, fresh_push_shape, fresh_pop_shape, push_off, pop_off}
use Rattle.iox_lanes_machine.proofs.Ends.{fresh_take, fresh_subscriber_take, push_begins, pop_begins}
use Rattle.iox_lanes_machine.proofs.Kept.{seat, quiet_kept, push_active, pop_active}

-- an access of a returned ring is none of the ring of messages
back_elsewhere : (table : TableWords) (here connection cells : ℕ) (access : Access)
    → IsOfTable table.sizes (on_ring connection Completion cells access)
    → GoesElsewhere Submission table here (on_ring connection Completion cells access)
back_elsewhere table here connection cells (own.Load word) h = tt
back_elsewhere table here connection cells (own.Store word value) h = (h, tt)
back_elsewhere table here connection cells (own.Exchange word old new) h = (h, tt)
back_elsewhere table here connection cells own.Local h = tt

-- nor is one of another ring of messages
other_elsewhere : (table : TableWords) (here connection cells : ℕ) (access : Access) → (Some connection ≡ Some here → ⊥)
    → IsOfTable table.sizes (on_ring connection Submission cells access)
    → GoesElsewhere Submission table here (on_ring connection Submission cells access)
other_elsewhere table here connection cells (own.Load word) off h = tt
other_elsewhere table here connection cells (own.Store word value) off h = (h, λ e. off (ap (λ (n : ℕ). Some n) e))
other_elsewhere table here connection cells (own.Exchange word old new) off h = (h, λ e. off (ap (λ (n : ℕ). Some n) e))
other_elsewhere table here connection cells own.Local off h = tt

pub publisher_elsewhere : (table : TableWords) (here : ℕ) (call : PublisherCall) → (pushes_to call ≡ Some here → ⊥)
    → IsOfTable table.sizes (publisher_next call) → GoesElsewhere Submission table here (publisher_next call)
publisher_elsewhere table here publishing.Idle off h = tt
publisher_elsewhere table here (publishing.LoanReclaims place route p) off h
    = back_elsewhere table here route.connection route.completion_cells _ h
publisher_elsewhere table here publishing.Lending off h = tt
publisher_elsewhere table here (publishing.Writing slot word value) off h = (h, tt)
publisher_elsewhere table here (publishing.Written slot) off h = tt
publisher_elsewhere table here (publishing.Heading slot word value) off h = (h, tt)
publisher_elsewhere table here (publishing.Remembering slot) off h = tt
publisher_elsewhere table here (publishing.SendReclaims slot place route p) off h
    = back_elsewhere table here route.connection route.completion_cells _ h
publisher_elsewhere table here (publishing.Pushing slot place route p delivery) off h
    = other_elsewhere table here route.connection route.submission_cells _ off h
publisher_elsewhere table here (publishing.Sent slot delivery) off h = tt
publisher_elsewhere table here (publishing.Dropping slot) off h = tt

pub subscriber_elsewhere : (table : TableWords) (here : ℕ) (call : SubscriberCall) → (pops_from call ≡ Some here → ⊥)
    → IsOfTable table.sizes (subscriber_next call) → GoesElsewhere Submission table here (subscriber_next call)
subscriber_elsewhere table here subscribing.Idle off h = tt
subscriber_elsewhere table here (subscribing.Receiving place route p waits) off h
    = other_elsewhere table here route.connection route.submission_cells _ off h
subscriber_elsewhere table here (subscribing.Received receipt) off h = tt
subscriber_elsewhere table here (subscribing.Reading slot word extent) off h = tt
subscriber_elsewhere table here (subscribing.WasRead slot) off h = tt
subscriber_elsewhere table here (subscribing.Releasing place route p) off h
    = back_elsewhere table here route.connection route.completion_cells _ h
subscriber_elsewhere table here (subscribing.Released done) off h = tt

-- whether a call stands at a connection
pub stands : (at : Option ℕ) (connection : ℕ) → (at ≡ Some connection) ⊎ (at ≡ Some connection → ⊥)
stands None connection = inr (λ e. absurd (cc e))
stands (Some here) connection = elim (eqb_tells here connection) [
  | inl same ↦ inl (ap (λ (n : ℕ). Some n) same.1)
  | inr other ↦ inr (λ e. other.1 (some_is here connection e))
]

-- acts added elsewhere leave an order, those added here stand after it
pub added_other : (orders : List (List Placed)) (to : Option ℕ) (moment : ℕ) (acts : List Act) (connection : ℕ)
    → (to ≡ Some connection → ⊥) → slice_get (added orders to moment acts) connection ≡ slice_get orders connection
added_other orders None moment acts connection off = refl
added_other orders (Some here) moment acts connection off = by_order (slice_get orders here)
  where
    by_order : (order : Option (List Placed)) → slice_get (added_to orders here moment acts order) connection ≡ slice_get orders connection
    by_order None = refl
    by_order (Some order) = set_other orders here connection (order ++ at moment acts) (λ e. off (ap (λ (n : ℕ). Some n) (sym e)))

added_at : (orders : List (List Placed)) (connection moment : ℕ) (acts : List Act) (order : Option (List Placed)) (after : List Placed)
    → slice_get orders connection ≡ order → slice_get (added_to orders connection moment acts order) connection ≡ Some after
    → (before : List Placed) × (slice_get orders connection ≡ Some before) × (after ≡ before ++ at moment acts)
added_at orders connection moment acts None after e got = absurd (cc (e, got))
added_at orders connection moment acts (Some order) after e got
    = (order, e, some_is after (order ++ at moment acts) (sym got ∙ set_same orders connection (order ++ at moment acts) order e))

pub added_here : (orders : List (List Placed)) (to : Option ℕ) (moment : ℕ) (acts : List Act) (connection : ℕ) (after : List Placed)
    → to ≡ Some connection → slice_get (added orders to moment acts) connection ≡ Some after
    → (before : List Placed) × (slice_get orders connection ≡ Some before) × (after ≡ before ++ at moment acts)
added_here orders None moment acts connection after here got = absurd (cc)
added_here orders (Some place) moment acts connection after here got =
    let same : place ≡ connection = some_is place connection here in
    added_at orders connection moment acts (slice_get orders connection) after refl
    (subst (λ (c : ℕ). slice_get (added_to orders c moment acts (slice_get orders c)) connection ≡ Some after) same got)

-- where a publisher stands after one of them changed
pub sender_now : (lanes : List PublisherLaneState) (place who : ℕ) (lane after : PublisherLaneState) → slice_get lanes place ≡ Some lane
    → ((who ≡ place) × (publisher_stage (slice_get lanes who) ≡ lane.port.call)
    × (publisher_stage (slice_get (set lanes place after) who) ≡ after.port.call))
    ⊎ (publisher_stage (slice_get (set lanes place after) who) ≡ publisher_stage (slice_get lanes who))
sender_now lanes place who lane after found = elim (eqb_tells who place) [
  | inl same ↦ inl (
    same.1,
    ap publisher_stage (ap (slice_get lanes) same.1 ∙ found),
    ap publisher_stage
        (ap (slice_get (set lanes place after)) same.1 ∙ set_same lanes place after lane found),
  )
  | inr other ↦ inr (ap publisher_stage (set_other lanes place who after other.1))
]

pub receiver_now : (lanes : List SubscriberLaneState) (place who : ℕ) (lane after : SubscriberLaneState) → slice_get lanes place ≡ Some lane
    → ((who ≡ place) × (subscriber_stage (slice_get lanes who) ≡ lane.port.call)
    × (subscriber_stage (slice_get (set lanes place after) who) ≡ after.port.call))
    ⊎ (subscriber_stage (slice_get (set lanes place after) who) ≡ subscriber_stage (slice_get lanes who))
receiver_now lanes place who lane after found = elim (eqb_tells who place) [
  | inl same ↦ inl (
    same.1,
    ap subscriber_stage (ap (slice_get lanes) same.1 ∙ found),
    ap subscriber_stage
        (ap (slice_get (set lanes place after)) same.1 ∙ set_same lanes place after lane found),
  )
  | inr other ↦ inr (ap subscriber_stage (set_other lanes place who after other.1))
]

-- a publisher that made no push at a connection, and makes none there or begins one
push_again : (lanes : List PublisherLaneState) (place : ℕ) (lane after : PublisherLaneState) (connection : ℕ) (link : LinkState)
    (words : RingWords) (q : List ℕ) (pop : Pop) → slice_get lanes place ≡ Some lane
    → push_on connection link.kind lane.port.call ≡ push_idle link.kind
    → IsFreshPush link.kind link.limit (push_on connection link.kind after.port.call)
    → Shape link.kind link.limit words q (push_on connection link.kind (publisher_stage (slice_get lanes link.publisher))) pop
    → Shape link.kind link.limit words q
    (push_on connection link.kind (publisher_stage (slice_get (set lanes place after) link.publisher))) pop
push_again lanes place lane after connection link words q pop found idle fresh s
    = elim (sender_now lanes place link.publisher lane after found) [
      | inl is ↦ subst (λ (c : PublisherCall). Shape link.kind link.limit words q (push_on connection link.kind c) pop) (sym is.2)
          (fresh_push_shape link.kind link.limit words q (push_on connection link.kind after.port.call) pop fresh
          (subst (λ (p : Push). Shape link.kind link.limit words q p pop) idle
          (subst (λ (c : PublisherCall). Shape link.kind link.limit words q (push_on connection link.kind c) pop) is.1 s)))
      | inr same ↦ subst (λ (c : PublisherCall). Shape link.kind link.limit words q (push_on connection link.kind c) pop) (sym same) s
    ]

pop_again : (lanes : List SubscriberLaneState) (place : ℕ) (lane after : SubscriberLaneState) (connection : ℕ) (link : LinkState)
    (words : RingWords) (q : List ℕ) (push : Push) → slice_get lanes place ≡ Some lane
    → pop_on connection link.kind lane.port.call ≡ pop_idle link.kind → IsFreshPop link.kind (pop_on connection link.kind after.port.call)
    → Shape link.kind link.limit words q push (pop_on connection link.kind (subscriber_stage (slice_get lanes link.subscriber)))
    → Shape link.kind link.limit words q push
    (pop_on connection link.kind (subscriber_stage (slice_get (set lanes place after) link.subscriber)))
pop_again lanes place lane after connection link words q push found idle fresh s
    = elim (receiver_now lanes place link.subscriber lane after found) [
      | inl is ↦ subst (λ (c : SubscriberCall). Shape link.kind link.limit words q push (pop_on connection link.kind c)) (sym is.2)
          (fresh_pop_shape link.kind link.limit words q push (pop_on connection link.kind after.port.call) fresh
          (subst (λ (p : Pop). Shape link.kind link.limit words q push p) idle
          (subst (λ (c : SubscriberCall). Shape link.kind link.limit words q push (pop_on connection link.kind c)) is.1 s)))
      | inr same ↦ subst (λ (c : SubscriberCall). Shape link.kind link.limit words q push (pop_on connection link.kind c)) (sym same) s
    ]

later : (moments : ℕ) → moments < 2 ^ 63 → moments ≤ successor moments
later moments h = omega arith

begun_publisher : (m : World) (place : ℕ) (c : Call) (at : Option PublisherLaneState) → slice_get m.publishers place ≡ at
    → publisher_fits_at at (Begin c) ≡ true → m.moments < 2 ^ 63 → AreKept m → AreKept (publisher_begins m place c at)
begun_publisher m place c None e fit bound k = k
begun_publisher m place c (Some lane) e fit bound k = λ connection link order found got.
    let was = k connection link order found got in
    let idle = push_begins connection link.kind m.moments c lane fit in
    quiet_kept m.table m.table m.moments (successor m.moments) connection link order _ _ _ _ refl (later m.moments bound)
    (push_again m.publishers place lane (publisher_begun m.moments c lane) connection link _ (waiting link order) _ e idle.0
    (inl idle.1) was.shape) was

begun_subscriber : (m : World) (place : ℕ) (c : Call) (at : Option SubscriberLaneState) → slice_get m.subscribers place ≡ at
    → subscriber_fits_at at (Begin c) ≡ true → m.moments < 2 ^ 63 → IsWithin m → AreKept m → AreKept (subscriber_begins m place c at)
begun_subscriber m place c None e fit bound w k = k
begun_subscriber m place c (Some lane) e fit bound w k = λ connection link order found got.
    let was = k connection link order found got in
    let fresh = pop_begins m.links receiver place connection link m.moments c lane fit (w.receivers place lane e) found in
    quiet_kept m.table m.table m.moments (successor m.moments) connection link order _ _ _ _ refl (later m.moments bound)
    (pop_again m.subscribers place lane (subscriber_begun m.moments c lane) connection link _ (waiting link order) _ e fresh.0 fresh.1
    was.shape) was

-- the link of a connection where a publisher pushes is its own
pub pushes_own : (m : World) (place : ℕ) (lane : PublisherLaneState) (connection : ℕ) (link : LinkState)
    → slice_get m.publishers place ≡ Some lane → IsWithin m → slice_get m.links connection ≡ Some link
    → pushes_to lane.port.call ≡ Some connection → link.publisher ≡ place
pushes_own m place lane connection link e w found here =
    by_call lane.port.call here (all_at (IsPublisher m.table.sizes) m.publishers place lane e w.publishers).call
  where
    by_call : (call : PublisherCall) → pushes_to call ≡ Some connection
        → IsPublishing m.table.sizes lane.port.routes (words_of lane.port) call → link.publisher ≡ place
    by_call publishing.Idle h is = absurd (cc)
    by_call (publishing.LoanReclaims at route p) h is = absurd (cc)
    by_call publishing.Lending h is = absurd (cc)
    by_call (publishing.Writing slot word value) h is = absurd (cc)
    by_call (publishing.Written slot) h is = absurd (cc)
    by_call (publishing.Heading slot word value) h is = absurd (cc)
    by_call (publishing.Remembering slot) h is = absurd (cc)
    by_call (publishing.SendReclaims slot at route p) h is = absurd (cc)
    by_call (publishing.Pushing slot at route p delivery) h is =
        let mine : IsLinkOf m.links sender place route
        = all_at (IsLinkOf m.links sender place) lane.port.routes at route is (w.senders place lane e) in
        let same : mine.link ≡ link = some_is mine.link link
        (sym mine.found ∙ ap (slice_get m.links) (some_is route.connection connection h) ∙ found) in
        ap sender (sym same) ∙ mine.own
    by_call (publishing.Sent slot delivery) h is = absurd (cc)
    by_call (publishing.Dropping slot) h is = absurd (cc)

pub pops_own : (m : World) (place : ℕ) (lane : SubscriberLaneState) (connection : ℕ) (link : LinkState)
    → slice_get m.subscribers place ≡ Some lane → IsWithin m → slice_get m.links connection ≡ Some link
    → pops_from lane.port.call ≡ Some connection → link.subscriber ≡ place
pops_own m place lane connection link e w found here =
    by_call lane.port.call here (all_at (IsSubscriber m.table.sizes) m.subscribers place lane e w.subscribers).call
  where
    by_call : (call : SubscriberCall) → pops_from call ≡ Some connection → IsSubscribing m.table.sizes lane.port.routes call
        → link.subscriber ≡ place
    by_call subscribing.Idle h is = absurd (cc)
    by_call (subscribing.Receiving at route p waits) h is =
        let mine : IsLinkOf m.links receiver place route
        = all_at (IsLinkOf m.links receiver place) lane.port.routes at route is (w.receivers place lane e) in
        let same : mine.link ≡ link = some_is mine.link link
        (sym mine.found ∙ ap (slice_get m.links) (some_is route.connection connection h) ∙ found) in
        ap receiver (sym same) ∙ mine.own
    by_call (subscribing.Received receipt) h is = absurd (cc)
    by_call (subscribing.Reading slot word extent) h is = absurd (cc)
    by_call (subscribing.WasRead slot) h is = absurd (cc)
    by_call (subscribing.Releasing at route p) h is = absurd (cc)
    by_call (subscribing.Released done) h is = absurd (cc)

-- a publisher's next step
gone_publisher : (m : World) (place : ℕ) (lane : PublisherLaneState) → slice_get m.publishers place ≡ Some lane → m.moments < 2 ^ 63
    → IsWithin m → AreKept m
    → AreKept (publisher_goes_on (record m
    { orders = added m.orders (pushes_to lane.port.call) m.moments (push_acts m.table lane.port.call) }) place (Some lane))
gone_publisher m place lane e bound w k = λ connection link order found got. elim (stands (pushes_to lane.port.call) connection) [
  | inl here ↦ active connection link order found got here
  | inr off ↦ quiet connection link order found got off
]
  where
    is : IsPublisher m.table.sizes lane
    is = all_at (IsPublisher m.table.sizes) m.publishers place lane e w.publishers

    active : (connection : ℕ) (link : LinkState) (order : List Placed) → slice_get m.links connection ≡ Some link
        → slice_get (added m.orders (pushes_to lane.port.call) m.moments (push_acts m.table lane.port.call)) connection ≡ Some order
        → pushes_to lane.port.call ≡ Some connection
        → IsKeptAt (after_shared m.table (publisher_next lane.port.call)) (successor m.moments) connection link order
        (publisher_stage (slice_get (set m.publishers place (publisher_after (publisher_given m.table lane) lane)) link.publisher))
        (subscriber_stage (slice_get m.subscribers link.subscriber))
    active connection link order found got here =
        let before = added_here m.orders (pushes_to lane.port.call) m.moments (push_acts m.table lane.port.call) connection order here
        got in
        let was = k connection link before.0 found before.1 in
        let mine : link.publisher ≡ place = pushes_own m place lane connection link e w found here in
        let stage : publisher_stage (slice_get m.publishers link.publisher) ≡ lane.port.call
        = ap publisher_stage (ap (slice_get m.publishers) mine ∙ e) in
        let now : publisher_stage (slice_get (set m.publishers place (publisher_after (publisher_given m.table lane) lane))
        link.publisher) ≡ (publisher_after (publisher_given m.table lane) lane).port.call =
        ap publisher_stage (ap (slice_get (set m.publishers place (publisher_after (publisher_given m.table lane) lane))) mine ∙
        set_same m.publishers place (publisher_after (publisher_given m.table lane) lane) lane e) in
        subst (λ (o : List Placed). IsKeptAt (after_shared m.table (publisher_next lane.port.call)) (successor m.moments) connection
        link o (publisher_stage (slice_get (set m.publishers place (publisher_after (publisher_given m.table lane) lane))
        link.publisher)) (subscriber_stage (slice_get m.subscribers link.subscriber))) (sym before.2)
        (subst (λ (c : PublisherCall). IsKeptAt (after_shared m.table (publisher_next lane.port.call)) (successor m.moments) connection
        link (before.0 ++ at m.moments (push_acts m.table lane.port.call)) c
        (subscriber_stage (slice_get m.subscribers link.subscriber))) (sym now)
        (push_active m.table m.moments connection m.links place lane.port.routes (words_of lane.port) lane.port.call link before.0
        (subscriber_stage (slice_get m.subscribers link.subscriber)) here (w.senders place lane e) is.call found
        (seat m connection link found w) bound
        (subst (λ (c : PublisherCall). IsKeptAt m.table m.moments connection link before.0 c
        (subscriber_stage (slice_get m.subscribers link.subscriber))) stage was)))

    quiet : (connection : ℕ) (link : LinkState) (order : List Placed) → slice_get m.links connection ≡ Some link
        → slice_get (added m.orders (pushes_to lane.port.call) m.moments (push_acts m.table lane.port.call)) connection ≡ Some order
        → (pushes_to lane.port.call ≡ Some connection → ⊥)
        → IsKeptAt (after_shared m.table (publisher_next lane.port.call)) (successor m.moments) connection link order
        (publisher_stage (slice_get (set m.publishers place (publisher_after (publisher_given m.table lane) lane)) link.publisher))
        (subscriber_stage (slice_get m.subscribers link.subscriber))
    quiet connection link order found got off =
        let was = k connection link order found
        (sym (added_other m.orders (pushes_to lane.port.call) m.moments (push_acts m.table lane.port.call) connection off) ∙ got) in
        quiet_kept m.table (after_shared m.table (publisher_next lane.port.call)) m.moments (successor m.moments) connection link order
        _ _ _ _
        (access_elsewhere Submission m.table connection (cells_of link.kind link.limit) (publisher_next lane.port.call)
        (seat m connection link found w)
        (publisher_elsewhere m.table connection lane.port.call off ((publishers_stay_within m.table.sizes lane is).2)))
        (later m.moments bound)
        (push_again m.publishers place lane (publisher_after (publisher_given m.table lane) lane) connection link _ (waiting link order)
        _ e (push_off connection link.kind lane.port.call off)
        (fresh_take m.links sender place lane.port.routes (words_of lane.port) lane.port.call (publisher_given m.table lane) connection
        link (w.senders place lane e) found off) was.shape) was

-- a subscriber's next step
gone_subscriber : (m : World) (place : ℕ) (lane : SubscriberLaneState) → slice_get m.subscribers place ≡ Some lane → m.moments < 2 ^ 63
    → IsWithin m → AreKept m
    → AreKept (subscriber_goes_on (record m
    { orders = added m.orders (pops_from lane.port.call) m.moments (pop_acts m lane.port.call) }) place (Some lane))
gone_subscriber m place lane e bound w k = λ connection link order found got. elim (stands (pops_from lane.port.call) connection) [
  | inl here ↦ active connection link order found got here
  | inr off ↦ quiet connection link order found got off
]
  where
    is : IsSubscriber m.table.sizes lane
    is = all_at (IsSubscriber m.table.sizes) m.subscribers place lane e w.subscribers

    taken : (subscriber_after (subscriber_given m.table lane) lane).port.call
        ≡ subscriber_take lane.port.routes lane.port.borrowed lane.port.most_borrowed lane.port.call (subscriber_given m.table lane)
    taken = (changed_routes (subscriber_change lane.port.call (subscriber_given m.table lane)) _).1

    active : (connection : ℕ) (link : LinkState) (order : List Placed) → slice_get m.links connection ≡ Some link
        → slice_get (added m.orders (pops_from lane.port.call) m.moments (pop_acts m lane.port.call)) connection ≡ Some order
        → pops_from lane.port.call ≡ Some connection
        → IsKeptAt (after_shared m.table (subscriber_next lane.port.call)) (successor m.moments) connection link order
        (publisher_stage (slice_get m.publishers link.publisher))
        (subscriber_stage (slice_get (set m.subscribers place (subscriber_after (subscriber_given m.table lane) lane)) link.subscriber))
    active connection link order found got here =
        let before = added_here m.orders (pops_from lane.port.call) m.moments (pop_acts m lane.port.call) connection order here got in
        let was = k connection link before.0 found before.1 in
        let mine : link.subscriber ≡ place = pops_own m place lane connection link e w found here in
        let stage : subscriber_stage (slice_get m.subscribers link.subscriber) ≡ lane.port.call
        = ap subscriber_stage (ap (slice_get m.subscribers) mine ∙ e) in
        let now : subscriber_stage (slice_get (set m.subscribers place (subscriber_after (subscriber_given m.table lane) lane))
        link.subscriber) ≡ subscriber_take lane.port.routes lane.port.borrowed lane.port.most_borrowed lane.port.call
        (subscriber_given m.table lane) =
        ap subscriber_stage (ap (slice_get (set m.subscribers place (subscriber_after (subscriber_given m.table lane) lane))) mine ∙
        set_same m.subscribers place (subscriber_after (subscriber_given m.table lane) lane) lane e) ∙ taken in
        subst (λ (o : List Placed). IsKeptAt (after_shared m.table (subscriber_next lane.port.call)) (successor m.moments) connection
        link o (publisher_stage (slice_get m.publishers link.publisher))
        (subscriber_stage (slice_get (set m.subscribers place (subscriber_after (subscriber_given m.table lane) lane))
        link.subscriber))) (sym before.2)
        (subst (λ (c : SubscriberCall). IsKeptAt (after_shared m.table (subscriber_next lane.port.call)) (successor m.moments)
        connection link (before.0 ++ at m.moments (pop_acts m lane.port.call))
        (publisher_stage (slice_get m.publishers link.publisher)) c) (sym now)
        (pop_active m connection place lane.port.routes lane.port.borrowed lane.port.most_borrowed lane.port.call link before.0 here
        (w.receivers place lane e) is.call found (seat m connection link found w) bound
        (subst (λ (c : SubscriberCall). IsKeptAt m.table m.moments connection link before.0
        (publisher_stage (slice_get m.publishers link.publisher)) c) stage was)))

    quiet : (connection : ℕ) (link : LinkState) (order : List Placed) → slice_get m.links connection ≡ Some link
        → slice_get (added m.orders (pops_from lane.port.call) m.moments (pop_acts m lane.port.call)) connection ≡ Some order
        → (pops_from lane.port.call ≡ Some connection → ⊥)
        → IsKeptAt (after_shared m.table (subscriber_next lane.port.call)) (successor m.moments) connection link order
        (publisher_stage (slice_get m.publishers link.publisher))
        (subscriber_stage (slice_get (set m.subscribers place (subscriber_after (subscriber_given m.table lane) lane)) link.subscriber))
    quiet connection link order found got off =
        let was = k connection link order found
        (sym (added_other m.orders (pops_from lane.port.call) m.moments (pop_acts m lane.port.call) connection off) ∙ got) in
        quiet_kept m.table (after_shared m.table (subscriber_next lane.port.call)) m.moments (successor m.moments) connection link order
        _ _ _ _
        (access_elsewhere Submission m.table connection (cells_of link.kind link.limit) (subscriber_next lane.port.call)
        (seat m connection link found w)
        (subscriber_elsewhere m.table connection lane.port.call off ((subscribers_stay_within m.table.sizes lane is).2)))
        (later m.moments bound)
        (pop_again m.subscribers place lane (subscriber_after (subscriber_given m.table lane) lane) connection link _
        (waiting link order) _ e (pop_off connection link.kind lane.port.call off)
        (subst (λ (c : SubscriberCall). IsFreshPop link.kind (pop_on connection link.kind c)) (sym taken)
        (fresh_subscriber_take m.links receiver place lane.port.routes lane.port.borrowed lane.port.most_borrowed lane.port.call
        (subscriber_given m.table lane) connection link (w.receivers place lane e) found off)) was.shape) was

gone_publisher_at : (m : World) (place : ℕ) (at : Option PublisherLaneState) → slice_get m.publishers place ≡ at
    → publisher_fits_at at GoOn ≡ true → m.moments < 2 ^ 63 → IsWithin m → AreKept m
    → AreKept (publisher_goes_on (record m
    { orders = added m.orders (pushes_to (publisher_stage at)) m.moments (push_acts m.table (publisher_stage at)) }) place at)
gone_publisher_at m place None e fit bound w k = absurd (cc)
gone_publisher_at m place (Some lane) e fit bound w k = gone_publisher m place lane e bound w k

gone_subscriber_at : (m : World) (place : ℕ) (at : Option SubscriberLaneState) → slice_get m.subscribers place ≡ at
    → subscriber_fits_at at GoOn ≡ true → m.moments < 2 ^ 63 → IsWithin m → AreKept m
    → AreKept (subscriber_goes_on (record m
    { orders = added m.orders (pops_from (subscriber_stage at)) m.moments (pop_acts m (subscriber_stage at)) }) place at)
gone_subscriber_at m place None e fit bound w k = absurd (cc)
gone_subscriber_at m place (Some lane) e fit bound w k = gone_subscriber m place lane e bound w k

pub happens_rings : (m : World) (party : Party) (step : Move) → fits m party step ≡ true → m.moments < 2 ^ 63 → IsWithin m → AreKept m
    → AreKept (happens m party step)
happens_rings m (Publisher place) (Begin c) fit bound w k = begun_publisher m place c (slice_get m.publishers place) refl fit bound k
happens_rings m (Subscriber place) (Begin c) fit bound w k = begun_subscriber m place c (slice_get m.subscribers place) refl fit bound w k
happens_rings m (Publisher place) GoOn fit bound w k = gone_publisher_at m place (slice_get m.publishers place) refl fit bound w k
happens_rings m (Subscriber place) GoOn fit bound w k = gone_subscriber_at m place (slice_get m.subscribers place) refl fit bound w k

-- each step that was made is one moment
begun_publisher_moments : (m : World) (place : ℕ) (c : Call) (at : Option PublisherLaneState) → publisher_fits_at at (Begin c) ≡ true
    → (publisher_begins m place c at).moments ≡ successor m.moments
begun_publisher_moments m place c None fit = absurd (cc)
begun_publisher_moments m place c (Some lane) fit = refl

begun_subscriber_moments : (m : World) (place : ℕ) (c : Call) (at : Option SubscriberLaneState) → subscriber_fits_at at (Begin c) ≡ true
    → (subscriber_begins m place c at).moments ≡ successor m.moments
begun_subscriber_moments m place c None fit = absurd (cc)
begun_subscriber_moments m place c (Some lane) fit = refl

gone_publisher_moments : (m : World) (place : ℕ) (at : Option PublisherLaneState) → publisher_fits_at at GoOn ≡ true
    → (publisher_goes_on m place at).moments ≡ successor m.moments
gone_publisher_moments m place None fit = absurd (cc)
gone_publisher_moments m place (Some lane) fit = refl

gone_subscriber_moments : (m : World) (place : ℕ) (at : Option SubscriberLaneState) → subscriber_fits_at at GoOn ≡ true
    → (subscriber_goes_on m place at).moments ≡ successor m.moments
gone_subscriber_moments m place None fit = absurd (cc)
gone_subscriber_moments m place (Some lane) fit = refl

pub happens_moments : (m : World) (party : Party) (step : Move) → fits m party step ≡ true
    → (happens m party step).moments ≡ successor m.moments
happens_moments m (Publisher place) (Begin c) fit = begun_publisher_moments m place c (slice_get m.publishers place) fit
happens_moments m (Subscriber place) (Begin c) fit = begun_subscriber_moments m place c (slice_get m.subscribers place) fit
happens_moments m (Publisher place) GoOn fit = gone_publisher_moments (placed m (Publisher place)) place (slice_get m.publishers place) fit
happens_moments m (Subscriber place) GoOn fit
    = gone_subscriber_moments (placed m (Subscriber place)) place (slice_get m.subscribers place) fit
