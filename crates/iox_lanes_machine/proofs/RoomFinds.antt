-- What stands at a connection, and so what a call that takes back finds there, and a release.
use Rattle.std.proofs.Common.{ℕ, ◌≡◌, ◌+◌, ◌-◌, ◌<◌, ◌≤◌, ◌==◌, true, false, List, [], length, get_or, slice_get, Option, Some, None}
use Rattle.std.proofs.Common.{refl, sym, ◌∙◌, ap, subst, inl, inr, arith}
use Rattle.std.proofs.lemmas.Bool.{cases_lt, lt-ltb}
use Rattle.std.proofs.lemmas.Bool.Decides.{eqb_tells}
use Rattle.std.proofs.lemmas.Option.{slice_get_within}
use Rattle.iox_lanes_machine.specs.QueuesSteps.Access.{RingWords}
use Rattle.iox_lanes_machine.specs.QueuesSteps.declared.access.Word.TheVariants.{Read}
use Rattle.iox_lanes_machine.specs.QueuesSteps.declared.order.Placed.{Placed}
use Rattle.iox_lanes_machine.specs.QueuesSteps.Refusing as refusing
use Rattle.iox_lanes_machine.specs.QueuesSteps.declared.rings.refusing.pop.Pop.{Pop}
use Rattle.iox_lanes_machine.specs.QueuesSteps.declared.rings.refusing.pop.Pop.TheVariants as pop
use Rattle.iox_lanes_machine.specs.QueuesSteps.declared.rings.refusing.push.Push.{Push}
use Rattle.iox_lanes_machine.specs.QueuesSteps.declared.rings.refusing.push.Push.TheVariants as push
use Rattle.iox_lanes_machine.specs.QueuesSteps.Ends.{Shape, cells_of, push_idle}
use Rattle.iox_lanes_machine.specs.QueuesSteps.declared.rings.ends.RingKind.{RingKind}
use Rattle.iox_lanes_machine.specs.QueuesSteps.declared.rings.ends.RingKind.TheVariants as kind
use Rattle.iox_lanes_machine.specs.QueuesSteps.declared.rings.ends.Push as ring_push_type
use Rattle.iox_lanes_machine.specs.QueuesSteps.declared.rings.ends.Push.TheVariants as ring_push
use Rattle.iox_lanes_machine.specs.QueuesSteps.declared.rings.ends.Pop as ring_pop_type
use Rattle.iox_lanes_machine.specs.QueuesSteps.declared.rings.ends.Pop.TheVariants as ring_pop
use Rattle.iox_lanes_machine.specs.LanesBase.Table.{held_by, shared_answer}
use Rattle.iox_lanes_machine.specs.LanesBase.Words.{on_ring}
use Rattle.iox_lanes_machine.specs.LanesBase.declared.words.word.ConnectionRing.TheVariants.{Completion}
use Rattle.iox_lanes_machine.specs.LanesBase.declared.calls.publisher.PublisherCall.{PublisherCall}
use Rattle.iox_lanes_machine.specs.LanesBase.declared.calls.subscriber.SubscriberCall.{SubscriberCall}
use Rattle.iox_lanes_machine.specs.LanesBase.declared.calls.subscriber.SubscriberCall.TheVariants as subscribing
use Rattle.iox_lanes_machine.specs.LanesBase.declared.calls.route.Route.{Route}
use Rattle.iox_lanes_machine.specs.LanesParties.PublisherKeeping.{BookState}
use Rattle.iox_lanes_machine.specs.LanesParties.Parties.{PublisherLaneState, SubscriberLaneState}
use Rattle.iox_lanes_machine.proofs.LanesParties.Rings.{all_at}
use Rattle.iox_lanes_machine.specs.Borrowing.{is_at, borrows, UsesBorrowed}
use Rattle.iox_lanes_machine.specs.LedgerRooms.{slots_at, borrowed_of}
use Rattle.iox_lanes_machine.specs.Stored.{aside}
use Rattle.iox_lanes_machine.specs.LedgerUses.{one_if, total, refers_to}
use Rattle.iox_lanes_machine.proofs.BorrowCounts.{PushFindsRoom}
use Rattle.iox_lanes_machine.proofs.Entries.{total_zero}
use Rattle.iox_lanes_machine.proofs.Rings.{between_is, idle_aside}
use Rattle.iox_lanes_machine.proofs.Rooms.{slots_most, slots_beside, slots_back}
use Rattle.iox_lanes_machine.proofs.RoomSteps.{PopFinds}
use Rattle.iox_lanes_machine.proofs.Samples.{borrows_is}
use Rattle.iox_lanes_machine.specs.Kept.{IsLinkOf, sender, receiver, IsKeptAt}
use Rattle.iox_lanes_machine.specs.Returns.{back_ring, reclaim_on, release_on, IsReturning}
use Rattle.iox_lanes_machine.specs.Rings.{sent_word, ring_in, waiting, push_on, pop_on}
use Rattle.iox_lanes_machine.specs.Rooms.{may_borrow, RoomsKept}
use Rattle.iox_lanes_machine.specs.Sends.{IsAmong}
use Rattle.iox_lanes_machine.specs.Uses.{aside_at, given_back, stands_at, UsesKept}
use Rattle.iox_lanes_machine.specs.World.{World, publisher_stage, subscriber_stage}
use Rattle.iox_lanes_machine.specs.Links.{LinkState}
use Rattle.iox_lanes_machine.proofs.InTable.{access_answer}
use Rattle.iox_lanes_machine.proofs.PublisherUses.{Balanced, order_there}
use Rattle.iox_lanes_machine.proofs.ReturnSteps.{back_seat}
use Rattle.iox_lanes_machine.proofs.Returns.{release_here}
use Rattle.iox_lanes_machine.proofs.SlotMoves.{Setting}
use Rattle.iox_lanes_machine.proofs.SubscriberUses as subscribers
use Rattle.iox_lanes_machine.proofs.SubscriberUses.{lane_there}

-- no more messages wait than may
pub few_wait : (k : RingKind) (limit : ℕ) (words : RingWords) (q : List ℕ) (p : ring_push_type.Push) (c : ring_pop_type.Pop)
    → Shape k limit words q p c → length q ≤ limit
few_wait kind.Overflowing limit words q (ring_push.Overflowing p) (ring_pop.Overflowing c) s = s.room
few_wait kind.Overflowing limit words q (ring_push.Overflowing p) (ring_pop.Refusing c) s = absurd s
few_wait kind.Overflowing limit words q (ring_push.Refusing p) (ring_pop.Overflowing c) s = absurd s
few_wait kind.Overflowing limit words q (ring_push.Refusing p) (ring_pop.Refusing c) s = absurd s
few_wait kind.Refusing limit words q (ring_push.Overflowing p) (ring_pop.Overflowing c) s = absurd s
few_wait kind.Refusing limit words q (ring_push.Overflowing p) (ring_pop.Refusing c) s = absurd s
few_wait kind.Refusing limit words q (ring_push.Refusing p) (ring_pop.Overflowing c) s = absurd s
few_wait kind.Refusing limit words q (ring_push.Refusing p) (ring_pop.Refusing c) s = s.room

-- nor are more samples borrowed of a connection
pub few_borrowed : (m : World) (connection : ℕ) (link : LinkState) (at : Option SubscriberLaneState)
    → slice_get m.links connection ≡ Some link → slice_get m.subscribers link.subscriber ≡ at → UsesKept m → RoomsKept m
    → total (λ s. borrows connection s at) m.table.sizes.slots ≤ may_borrow at
few_borrowed m connection link None found e u r = omega (arith, total_zero (λ s. borrows connection s None) m.table.sizes.slots (λ s. refl))
few_borrowed m connection link (Some lane) found e u r =
    let among : IsAmong lane.port.routes connection = (r.receivers link.subscriber lane e).each connection link found refl in
    let number = (r.subscribers link.subscriber lane e).numbers among.place among.route among.found in
    let all : length lane.port.samples ≡ m.table.sizes.slots = (u.subscribers link.subscriber lane e).all in
    omega (arith, number.1, ap (λ (c : ℕ). borrowed_of c lane) among.same, ap (total (λ s. borrows connection s (Some lane))) all)

-- what a pop that takes back finds at its connection
pub reclaim_finds : (m : World) (who : ℕ) (routes : List Route) (stored : List ℕ) (book : BookState) (c : PublisherCall) (at : ℕ)
    (route : Route) (p : Pop) → Setting m who routes stored c → slice_get routes at ≡ Some route
    → reclaim_on route.connection c ≡ p → ((k : RingKind) → push_on route.connection k c ≡ push_idle k) → Balanced m routes book c
    → book.first + length book.uses ≤ m.table.sizes.slots → UsesKept m → RoomsKept m
    → PopFinds m.table.sizes.completion_cells (slots_at book at) p
    (shared_answer m.table (on_ring route.connection Completion route.completion_cells (refusing.pop_next p)))
reclaim_finds m who routes stored book c at route pop.Idle k here is idle b le u r = tt
reclaim_finds m who routes stored book c at route pop.Begun k here is idle b le u r = tt
reclaim_finds m who routes stored book c at route (pop.SawRead seen) k here is idle b le u r = (λ e. empty e, λ e. some e)
  where
    mine : IsLinkOf m.links sender who route
    mine = all_at (IsLinkOf m.links sender who) routes at route here k.links

    link : LinkState
    link = mine.link

    order : List Placed
    order = get_or m.orders route.connection []

    got : slice_get m.orders route.connection ≡ Some order
    got = order_there m route.connection link mine.found k.within

    receiver_lane : Option SubscriberLaneState
    receiver_lane = slice_get m.subscribers link.subscriber

    cells : ℕ
    cells = m.table.sizes.completion_cells

    returning : IsReturning cells m.table m.moments route.connection c (subscriber_stage receiver_lane)
    returning =
        subst (λ (x : PublisherCall). IsReturning cells m.table m.moments route.connection x (subscriber_stage receiver_lane))
        (ap (λ (i : ℕ). publisher_stage (slice_get m.publishers i)) mine.own ∙ k.stage) (k.returning route.connection link mine.found)

    kept : IsKeptAt m.table m.moments route.connection link order c (subscriber_stage receiver_lane)
    kept =
        subst (λ (x : PublisherCall). IsKeptAt m.table m.moments route.connection link order x (subscriber_stage receiver_lane))
        (ap (λ (i : ℕ). publisher_stage (slice_get m.publishers i)) mine.own ∙ k.stage) (k.kept route.connection link order mine.found got)

    words : RingWords
    words = back_ring m.table route.connection cells

    shape : refusing.Shape cells words returning.list (release_on route.connection (subscriber_stage receiver_lane)) (pop.SawRead seen)
    shape = subst (λ (x : Pop). refusing.Shape cells words returning.list (release_on route.connection (subscriber_stage receiver_lane))
        x) is returning.shape

    answered : words.write ≡ shared_answer m.table
        (on_ring route.connection Completion route.completion_cells (refusing.pop_next (pop.SawRead seen)))
    answered = access_answer Completion m.table route.connection cells (refusing.pop_next (pop.SawRead seen))
        (back_seat m route.connection link mine.found k.some k.within)

    back : length (given_back m.table route.connection) ≡ length returning.list
    back = ap (λ (xs : List ℕ). length xs)
        (between_is cells words returning.list (release_on route.connection (subscriber_stage receiver_lane)) (pop.SawRead seen) shape)

    nothing_aside : length (aside_at m.table route.connection link c) ≡ 0
    nothing_aside = ap (λ (xs : List ℕ). length xs)
        (ap (aside (held_by m.table (sent_word route.connection Read))) (idle link.kind) ∙ idle_aside
        (held_by m.table (sent_word route.connection Read)) link.kind)

    empty : (shared_answer m.table (on_ring route.connection Completion route.completion_cells (refusing.pop_next (pop.SawRead seen)))
        == seen) ≡ true → slots_at book at < cells
    empty e =
        let same : shared_answer m.table (on_ring route.connection Completion route.completion_cells
        (refusing.pop_next (pop.SawRead seen))) ≡ seen = is_equal _ seen e in
        omega (
          arith,
          slots_most book at m.table.sizes.slots (waiting link order) (aside_at m.table route.connection link c)
              (λ s. borrows route.connection s receiver_lane) (given_back m.table route.connection) le
              (λ s. b at route link order here mine.found got s),
          few_wait link.kind link.limit (ring_in m.table route.connection (cells_of link.kind link.limit)) (waiting link order)
              (push_on route.connection link.kind c) (pop_on route.connection link.kind (subscriber_stage receiver_lane)) kept.shape,
          nothing_aside,
          few_borrowed m route.connection link receiver_lane mine.found refl u r,
          r.cells route.connection link mine.found,
          back,
          shape.level,
          shape.pop_knows,
          answered,
          same,
        )
      where
        is_equal : (x y : ℕ) → (x == y) ≡ true → x ≡ y
        is_equal x y h = elim (eqb_tells x y) [
          | inl here ↦ here.1
          | inr other ↦ absurd (cc (sym h ∙ other.0))
        ]

    some : (shared_answer m.table (on_ring route.connection Completion route.completion_cells (refusing.pop_next (pop.SawRead seen))) ==
        seen) ≡ false → 0 < slots_at book at
    some e =
        let apart : shared_answer m.table (on_ring route.connection Completion route.completion_cells
        (refusing.pop_next (pop.SawRead seen))) ≡ seen → ⊥ = is_apart _ seen e in
        slots_back book at (waiting link order) (aside_at m.table route.connection link c)
        (λ s. borrows route.connection s receiver_lane) (given_back m.table route.connection)
        (elim (cases_lt 0 (length returning.list)) [
          | inl lt ↦ omega (arith, lt, back)
          | inr none ↦ absurd (apart (omega (arith, none, shape.level, shape.pop_knows, answered)))
        ]) (λ s. b at route link order here mine.found got s)
      where
        is_apart : (x y : ℕ) → (x == y) ≡ false → x ≡ y → ⊥
        is_apart x y h same = elim (eqb_tells x y) [
          | inl here ↦ absurd (cc (sym h ∙ here.0))
          | inr other ↦ other.1 same
        ]
reclaim_finds m who routes stored book c at route (pop.Nonempty seen next) k here is idle b le u r = tt
reclaim_finds m who routes stored book c at route (pop.SawCell next value) k here is idle b le u r = tt
reclaim_finds m who routes stored book c at route (pop.Popped got) k here is idle b le u r = tt
reclaim_finds m who routes stored book c at route pop.LookBegun k here is idle b le u r = tt
reclaim_finds m who routes stored book c at route (pop.LookRead seen) k here is idle b le u r = tt
reclaim_finds m who routes stored book c at route (pop.Looked found) k here is idle b le u r = tt

-- what a release finds: room, since its own sample is not among those given back
pub release_finds : (m : World) (who : ℕ) (lane : SubscriberLaneState) (place : ℕ) (route : Route) (p : Push)
    → subscribers.Setting m who lane (subscribing.Releasing place route p) → RoomsKept m
    → PushFindsRoom p (subscribers.told m (subscribing.Releasing place route p))
release_finds m who lane place route push.Idle k r = tt
release_finds m who lane place route (push.Begun limit value) k r = tt
release_finds m who lane place route (push.SawWrite limit value write next) k r = lt-ltb _ limit room
  where
    call : SubscriberCall
    call = subscribing.Releasing place route (push.SawWrite limit value write next)

    mine : IsLinkOf m.links receiver who route
    mine = all_at (IsLinkOf m.links receiver who) lane.port.routes place route k.call_is k.links

    link : LinkState
    link = mine.link

    order : List Placed
    order = get_or m.orders route.connection []

    got : slice_get m.orders route.connection ≡ Some order
    got = order_there m route.connection link mine.found k.within

    owner : (z : PublisherLaneState) × (slice_get m.publishers link.publisher ≡ Some z)
    owner = lane_there m.publishers link.publisher (slice_get m.publishers link.publisher) refl
        ((k.uses).senders route.connection link mine.found)

    among : IsAmong (owner.0).port.routes route.connection
    among = (k.sends link.publisher owner.0 owner.1).each route.connection link mine.found refl

    there : slice_get m.subscribers link.subscriber ≡ Some lane
    there = ap (slice_get m.subscribers) mine.own ∙ k.found

    cells : ℕ
    cells = m.table.sizes.completion_cells

    balanced : (s : ℕ) → stands_at m.table route.connection link order (owner.0).port.call (Some lane) s
        ≡ one_if (refers_to (owner.0).port.book among.place s)
    balanced s =
        subst (λ (at : Option SubscriberLaneState). stands_at m.table route.connection link order (owner.0).port.call at s
        ≡ one_if (refers_to (owner.0).port.book among.place s)) there
        (subst (λ (n : ℕ). stands_at m.table n link order (owner.0).port.call (slice_get m.subscribers link.subscriber) s
        ≡ one_if (refers_to (owner.0).port.book among.place s)) among.same
        (((k.uses).publishers link.publisher owner.0 owner.1).balanced among.place among.route link order among.found
        (ap (slice_get m.links) among.same ∙ mine.found) (ap (slice_get m.orders) among.same ∙ got) s))

    returning : IsReturning cells m.table m.moments route.connection (publisher_stage (slice_get m.publishers link.publisher)) call
    returning =
        subst (λ (x : SubscriberCall). IsReturning cells m.table m.moments route.connection
        (publisher_stage (slice_get m.publishers link.publisher)) x)
        (subscribers.stage_here m who lane call link k mine.own) (k.returning route.connection link mine.found)

    words : RingWords
    words = back_ring m.table route.connection cells

    shape : refusing.Shape cells words returning.list (push.SawWrite limit value write next)
        (reclaim_on route.connection (publisher_stage (slice_get m.publishers link.publisher)))
    shape = subst (λ (x : Push). refusing.Shape cells words returning.list x
        (reclaim_on route.connection (publisher_stage (slice_get m.publishers link.publisher))))
        (release_here place route (push.SawWrite limit value write next)) returning.shape

    answered : words.read ≡ subscribers.told m call
    answered = access_answer Completion m.table route.connection cells (refusing.push_next (push.SawWrite limit value write next))
        (back_seat m route.connection link mine.found k.some k.within)

    back : length (given_back m.table route.connection) ≡ length returning.list
    back = ap (λ (xs : List ℕ). length xs)
        (between_is cells words returning.list (push.SawWrite limit value write next)
        (reclaim_on route.connection (publisher_stage (slice_get m.publishers link.publisher))) shape)

    eqb_here : (n : ℕ) → (n == n) ≡ true
    eqb_here n = elim (eqb_tells n n) [
      | inl same ↦ same.0
      | inr other ↦ absurd (other.1 refl)
    ]

    borrowed : borrows route.connection value (Some lane) ≡ true
    borrowed = borrows_is lane route.connection value (Some place) (subst (UsesBorrowed lane.port.samples) k.stage (k.own).borrowed) ∙
        ap (is_at route.connection) k.call_is ∙ eqb_here route.connection

    room : write - subscribers.told m call < limit
    room =
        let most : slots_at (owner.0).port.book among.place ≤ cells
        = (r.publishers link.publisher owner.0 owner.1).most among.place
        (slice_get_within (owner.0).port.routes among.place among.route among.found) in
        omega (
          arith,
          slots_beside (owner.0).port.book among.place value (waiting link order)
              (aside_at m.table route.connection link (owner.0).port.call) (λ s. borrows route.connection s (Some lane))
              (given_back m.table route.connection) borrowed balanced,
          most,
          back,
          shape.level,
          (shape.push_knows).0,
          (shape.push_knows).1,
          answered,
        )
release_finds m who lane place route (push.SawRoom value write next) k r = tt
release_finds m who lane place route (push.Filled value next) k r = tt
release_finds m who lane place route (push.Pushed value answered) k r = tt
