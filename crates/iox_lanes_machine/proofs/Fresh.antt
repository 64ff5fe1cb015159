-- Lanes before their first step keep what every step keeps.
use Rattle.std.proofs.Common.{ℕ, ◌≡◌, ◌+◌, ◌*◌, ◌<◌, ◌≤◌, ◌^◌, false, List, [], length, get_or, slice_get, Option, Some, None, refl, sym}
use Rattle.std.proofs.Common.{◌∙◌, ap, subst, inl, inr, arith}
use Rattle.std.specs.List.{All}
use Rattle.std.proofs.lemmas.Bool.{cases_lt}
use Rattle.std.proofs.lemmas.List.{get_or_past}
use Rattle.std.proofs.lemmas.List.Elements.{All-nil}
use Rattle.std.proofs.lemmas.Option.{slice_get_within, slice_get-get_or}
use Rattle.iox_lanes_machine.specs.QueuesSteps.Access.{RingWords}
use Rattle.iox_lanes_machine.specs.QueuesSteps.Order.{puts}
use Rattle.iox_lanes_machine.specs.QueuesSteps.declared.access.Word.TheVariants.{Read}
use Rattle.iox_lanes_machine.specs.QueuesSteps.declared.order.Placed.{Placed}
use Rattle.iox_lanes_machine.specs.QueuesSteps.declared.order.PushCall.{PushCall}
use Rattle.iox_lanes_machine.specs.QueuesSteps.Order.{PutNow}
use Rattle.iox_lanes_machine.specs.QueuesSteps.Refusing as refusing
use Rattle.iox_lanes_machine.specs.QueuesSteps.declared.rings.refusing.pop.Pop.TheVariants as refusing_pop
use Rattle.iox_lanes_machine.specs.QueuesSteps.declared.rings.refusing.push.Push.TheVariants as refusing_push
use Rattle.iox_lanes_machine.specs.QueuesSteps.Ends.{Shape, cells_of, push_idle, pop_idle}
use Rattle.iox_lanes_machine.specs.QueuesSteps.RingMachine.{first_words}
use Rattle.iox_lanes_machine.specs.QueuesSteps.declared.rings.ends.RingKind.{RingKind}
use Rattle.iox_lanes_machine.specs.QueuesSteps.declared.rings.ends.RingKind.TheVariants as kind
use Rattle.iox_lanes_machine.proofs.QueuesSteps.EitherRing.{start_overflowing, start_refusing}
use Rattle.iox_lanes_machine.specs.LanesBase.Table.{held_by}
use Rattle.iox_lanes_machine.specs.LanesBase.Publishing.{publisher_is_idle}
use Rattle.iox_lanes_machine.specs.LanesBase.Subscribing.{subscriber_is_idle}
use Rattle.iox_lanes_machine.specs.LanesBase.declared.calls.publisher.PublisherCall.{PublisherCall}
use Rattle.iox_lanes_machine.specs.LanesBase.declared.calls.publisher.PublisherCall.TheVariants as publishing
use Rattle.iox_lanes_machine.specs.LanesBase.declared.calls.route.Route.{Route}
use Rattle.iox_lanes_machine.specs.LanesBase.declared.calls.subscriber.SubscriberCall.{SubscriberCall}
use Rattle.iox_lanes_machine.specs.LanesBase.declared.calls.subscriber.SubscriberCall.TheVariants as subscribing
use Rattle.iox_lanes_machine.specs.LanesParties.Parties.{PublisherLaneState, SubscriberLaneState, route_at}
use Rattle.iox_lanes_machine.specs.LanesParties.Within.{IsPublisher}
use Rattle.iox_lanes_machine.specs.LanesParties.declared.call.FinishedCall.{FinishedCall}
use Rattle.iox_lanes_machine.proofs.LanesParties.Rings.{all_at}
use Rattle.iox_lanes_machine.specs.Borrowing.{is_at, borrows, UsesBorrowed}
use Rattle.iox_lanes_machine.specs.LedgerRooms.{slots_at, borrowed_of, HasRooms, MayBorrow, ReleasesOk, CountsBorrowed}
use Rattle.iox_lanes_machine.specs.Sending.{SendsLacking}
use Rattle.iox_lanes_machine.specs.Stored.{between}
use Rattle.iox_lanes_machine.specs.LedgerUses.{one_if, count}
use Rattle.iox_lanes_machine.proofs.Entries.{total_zero}
use Rattle.iox_lanes_machine.proofs.Rings.{between_is, idle_aside}
use Rattle.iox_lanes_machine.proofs.Rooms.{slots_most}
use Rattle.iox_lanes_machine.proofs.RoomSteps.{none_within}
use Rattle.iox_lanes_machine.specs.Calls.{IsEnded, AreInTurn, IsStageOf, IsReceiverStageOf, CallsFollow}
use Rattle.iox_lanes_machine.specs.Fresh.{IsFresh}
use Rattle.iox_lanes_machine.specs.Held.{LoadsHeld}
use Rattle.iox_lanes_machine.specs.Kept.{IsLinkOf, sender, IsWithin, IsKeptAt, AreKept, IsKept}
use Rattle.iox_lanes_machine.specs.Left.{StoresHeld}
use Rattle.iox_lanes_machine.specs.Links.{LinkState}
use Rattle.iox_lanes_machine.specs.Opening.{SendsSlot, GivesSlot}
use Rattle.iox_lanes_machine.specs.Reads.{ReadsLie, reads_of, width}
use Rattle.iox_lanes_machine.specs.Receipts.{given_in_hand, ReceivesGive, AllReceivesGive}
use Rattle.iox_lanes_machine.specs.Returns.{back_ring, reclaim_on, release_on, AreReturning, ReturnsKept}
use Rattle.iox_lanes_machine.specs.Rings.{sent_word, waiting}
use Rattle.iox_lanes_machine.specs.Rooms.{GaveBack, RoomsKept}
use Rattle.iox_lanes_machine.specs.Sends.{puts_at, read_at, sends_of, PutSoFar, done_at, in_hand_at, AllSendsPut}
use Rattle.iox_lanes_machine.specs.Slots.{StandsAtLoan}
use Rattle.iox_lanes_machine.specs.Uses.{given_back, aside_at, stands_at, UsesKept}
use Rattle.iox_lanes_machine.specs.World.{World, publisher_stage, subscriber_stage}
use Rattle.iox_lanes_machine.proofs.Puts.{idle_hand}

-- no publisher is in a call
pub sender_idle : (m : World) (place : ℕ) (at : Option PublisherLaneState) → slice_get m.publishers place ≡ at → IsFresh m
    → publisher_stage at ≡ publishing.Idle
sender_idle m place None e h = refl
sender_idle m place (Some lane) e h = (h.publishers place lane e).idle

-- no subscriber is in a call
pub receiver_idle : (m : World) (place : ℕ) (at : Option SubscriberLaneState) → slice_get m.subscribers place ≡ at → IsFresh m
    → subscriber_stage at ≡ subscribing.Idle
receiver_idle m place None e h = refl
receiver_idle m place (Some lane) e h = (h.subscribers place lane e).idle

-- no subscriber borrows anything
pub borrows_none : (m : World) (connection place slot : ℕ) (at : Option SubscriberLaneState) → slice_get m.subscribers place ≡ at
    → IsFresh m → borrows connection slot at ≡ false
borrows_none m connection place slot None e h = refl
borrows_none m connection place slot (Some lane) e h
    = ap (λ (o : Option ℕ). is_at connection (route_at o lane)) ((h.subscribers place lane e).none slot)

-- what was given back at a connection
pub returned_is : (m : World) (connection : ℕ) (link : LinkState) (found : slice_get m.links connection ≡ Some link) (h : IsFresh m)
    → given_back m.table connection ≡ (h.links connection link found).back
returned_is m connection link found h =
    let is = h.links connection link found in
    let cells : ℕ = m.table.sizes.completion_cells in
    ap between is.returned ∙ between_is cells (first_words kind.Refusing cells is.back) is.back refusing_push.Idle refusing_pop.Idle
    (start_refusing cells is.back h.small (omega (arith, is.few)))

first_shape : (k : RingKind) (limit : ℕ) (q : List ℕ) → 0 < limit → limit < 2 ^ 62 → length q ≤ limit
    → Shape k limit (first_words k limit q) q (push_idle k) (pop_idle k)
first_shape kind.Overflowing limit q some small room = start_overflowing limit q some small room
first_shape kind.Refusing limit q some small room = start_refusing limit q small room

fresh_rings : (m : World) → m.moments ≡ 0 → IsFresh m → AreKept m
fresh_rings m none h = λ connection link order found got.
    let is = h.links connection link found in
    let cells : ℕ = cells_of link.kind link.limit in
    let empty : IsKeptAt m.table m.moments connection link [] publishing.Idle subscribing.Idle = record {
      mailbox = record { acts = tt; rises = omega arith };
      shape = subst (λ (words : RingWords). Shape link.kind link.limit words link.found (push_idle link.kind) (pop_idle link.kind))
          (sym is.ring) (first_shape link.kind link.limit link.found is.some is.small is.room);
      few = omega (arith, ap (λ (words : RingWords). words.write) is.ring, is.room, is.small);
    } in
    subst (λ (o : List Placed). IsKeptAt m.table m.moments connection link o (publisher_stage (slice_get m.publishers link.publisher))
    (subscriber_stage (slice_get m.subscribers link.subscriber))) (sym (h.orders connection order got))
    (subst (λ (c : PublisherCall). IsKeptAt m.table m.moments connection link [] c
    (subscriber_stage (slice_get m.subscribers link.subscriber)))
    (sym (sender_idle m link.publisher (slice_get m.publishers link.publisher) refl h))
    (subst (λ (c : SubscriberCall). IsKeptAt m.table m.moments connection link [] publishing.Idle c)
    (sym (receiver_idle m link.subscriber (slice_get m.subscribers link.subscriber) refl h)) empty))

-- no receive gave anything yet
none_given : (connection place : ℕ) (m : World) (link : LinkState) (at : Option SubscriberLaneState)
    → slice_get m.subscribers place ≡ at → IsFresh m → ReceivesGive [] connection link [] at
none_given connection place m link None e h = refl
none_given connection place m link (Some lane) e h
    = subst (λ (c : SubscriberCall). [] ≡ given_in_hand lane.port.routes connection c) (sym ((h.subscribers place lane e).idle)) refl

fresh_receipts : (m : World) → IsFresh m → AllReceivesGive m
fresh_receipts m h = λ connection link order found got.
    subst (λ (calls : List FinishedCall). ReceivesGive calls connection link order (slice_get m.subscribers link.subscriber))
    (sym h.finished)
    (subst (λ (o : List Placed). ReceivesGive [] connection link o (slice_get m.subscribers link.subscriber))
    (sym (h.orders connection order got))
    (none_given connection link.subscriber m link (slice_get m.subscribers link.subscriber) refl h))

-- no call began yet
fresh_calls : (m : World) → IsFresh m → CallsFollow m
fresh_calls m h = record {
  ended = subst (All (IsEnded m.moments)) (sym h.finished) (All-nil (IsEnded m.moments));
  in_turn = subst AreInTurn (sym h.finished) tt;
  publishers = λ place lane e.
      let idle = (h.publishers place lane e).idle in (
        subst (IsStageOf lane.call) (sym idle) tt,
        λ busy. absurd (cc (sym busy ∙ ap publisher_is_idle idle)),
      );
  subscribers = λ place lane e.
      let idle = (h.subscribers place lane e).idle in (
        subst (IsReceiverStageOf lane.call) (sym idle) tt,
        λ busy. absurd (cc (sym busy ∙ ap subscriber_is_idle idle)),
      );
}

-- no send put anything yet
no_puts : (m : World) (route : Route) → IsFresh m → puts_at m.orders route ≡ []
no_puts m route h = ap puts (empty m.orders route.connection (λ order got. h.orders route.connection order got))
  where
    empty : (orders : List (List Placed)) (c : ℕ) → ((order : List Placed) → slice_get orders c ≡ Some order → order ≡ [])
        → get_or {A = List Placed} orders c [] ≡ []
    empty orders c none = elim (cases_lt c (length orders)) [
      | inl lt ↦ none (get_or {A = List Placed} orders c []) (slice_get-get_or orders c [] lt)
      | inr ge ↦ get_or_past {X = List Placed} orders c [] ge
    ]

fresh_sends : (m : World) → IsFresh m → AllSendsPut m
fresh_sends m h = λ who lane e.
    let is = h.publishers who lane e in
    let sent : sends_of who m.finished ≡ [] = ap (sends_of who) h.finished in
    record {
      connections = is.connections;
      sent = λ number send found. absurd (cc (sym found ∙ ap (λ (calls : List FinishedCall). slice_get calls number) sent));
      so_far = subst (PutSoFar m.table m.orders lane.port.routes (length (sends_of who m.finished)) lane.first m.moments) (sym is.idle) tt;
      no_more = λ place route found.
          let hand : in_hand_at m.table route lane.port.call ≡ 0
          = ap (in_hand_at m.table route) is.idle ∙ ap (λ (ps : List PutNow). length ps)
          (idle_hand (read_at m.table route) route.kind) in
          let done : done_at place lane.port.call ≡ 0 = ap (done_at place) is.idle in
          omega (
            arith,
            ap (λ (ps : List PushCall). length ps) (no_puts m route h),
            ap (λ (calls : List FinishedCall). length calls) sent,
            hand,
            done,
          );
    }

fresh_returning : (m : World) → IsFresh m → AreReturning m
fresh_returning m h = λ connection link found.
    let is = h.links connection link found in
    let cells : ℕ = m.table.sizes.completion_cells in
    record {
      list = is.back;
      shape = subst (λ (c : SubscriberCall). refusing.Shape cells (back_ring m.table connection cells) is.back (release_on connection c)
          (reclaim_on connection (publisher_stage (slice_get m.publishers link.publisher))))
          (sym (receiver_idle m link.subscriber (slice_get m.subscribers link.subscriber) refl h))
          (subst (λ (c : PublisherCall). refusing.Shape cells (back_ring m.table connection cells) is.back refusing_push.Idle
          (reclaim_on connection c)) (sym (sender_idle m link.publisher (slice_get m.publishers link.publisher) refl h))
          (subst (λ (words : RingWords). refusing.Shape cells words is.back refusing_push.Idle refusing_pop.Idle) (sym is.returned)
          (start_refusing cells is.back h.small (omega (arith, is.few)))));
      few = omega (arith, ap (λ (words : RingWords). words.write) is.returned, is.few, h.small);
    }

fresh_returns : (m : World) → IsFresh m → ReturnsKept m
fresh_returns m h = record {
  some = h.some;
  publishers = λ place lane e. (h.publishers place lane e).round;
  subscribers = λ place lane e. (h.subscribers place lane e).round;
  rings = λ few. fresh_returning m h;
}

fresh_reads : (m : World) → IsFresh m → ReadsLie m
fresh_reads m h =
    let none : reads_of m.finished ≡ [] = ap reads_of h.finished in
    record {
      each = λ number call found. absurd (cc (sym found ∙ ap (λ (calls : List FinishedCall). slice_get calls number) none));
      all = omega (
        arith,
        ap (λ (ws : List ℕ). length ws) h.read,
        ap (λ (calls : List FinishedCall). length calls * width m.table.sizes)
            none,
      );
      rooms = λ place lane e. (h.subscribers place lane e).words;
    }

-- what stands at a connection is what waits there and what was given back
stands_found : (m : World) (connection : ℕ) (link : LinkState) (order : List Placed) (call : PublisherCall)
    → slice_get m.orders connection ≡ Some order → call ≡ publishing.Idle → IsFresh m
    → (slot : ℕ) → stands_at m.table connection link order call (slice_get m.subscribers link.subscriber) slot
    ≡ count slot link.found + count slot (given_back m.table connection)
stands_found m connection link order call got idle h slot =
    let aside : aside_at m.table connection link call ≡ []
    = ap (aside_at m.table connection link) idle ∙ idle_aside (held_by m.table (sent_word connection Read)) link.kind in
    omega (
      arith,
      ap (λ (o : List Placed). count slot (waiting link o)) (h.orders connection order got),
      ap (count slot) aside,
      ap one_if (borrows_none m connection link.subscriber slot (slice_get m.subscribers link.subscriber) refl h),
    )

fresh_uses : (m : World) → IsFresh m → UsesKept m
fresh_uses m h = record {
  publishers = λ place lane e.
      let is = h.publishers place lane e in
      record {
        counted = is.counted;
        lacking = subst (SendsLacking (length lane.port.routes) lane.port.book) (sym is.idle) tt;
        balanced = λ at route link order here found got slot. stands_found m route.connection link order lane.port.call got is.idle h
            slot ∙ is.has at route link here found slot;
      };
  subscribers = λ place lane e.
      let is = h.subscribers place lane e in
      record {
        all = is.all;
        borrowed = subst (UsesBorrowed lane.port.samples) (sym is.idle) tt;
        placed = λ slot at there. absurd (cc (sym there ∙ is.none slot));
      };
  senders = λ connection link found. (h.links connection link found).sender;
  pairs = h.pairs;
}

-- a publisher has room at each of its connections
fresh_rooms_of : (m : World) (place : ℕ) (lane : PublisherLaneState) → slice_get m.publishers place ≡ Some lane → IsWithin m → IsFresh m
    → HasRooms m.table.sizes.completion_cells (length lane.port.routes) lane.port.book publishing.Idle
fresh_rooms_of m place lane e w h =
    let is = h.publishers place lane e in
    record {
      most = λ at below. few at below (slice_get lane.port.routes at) refl;
      swept = λ at below swept. absurd swept;
      takes = tt;
      counts = is.counts;
    }
  where
    few : (at : ℕ) → at < length lane.port.routes → (r : Option Route) → slice_get lane.port.routes at ≡ r
        → slots_at lane.port.book at ≤ m.table.sizes.completion_cells
    few at below None here = absurd (omega (arith, below, none_within lane.port.routes at here))
    few at below (Some route) here =
        let mine : IsLinkOf m.links sender place route
        = all_at (IsLinkOf m.links sender place) lane.port.routes at route here (w.senders place lane e) in
        let is = h.links route.connection mine.link mine.found in
        let own = h.publishers place lane e in
        let all : IsPublisher m.table.sizes lane = all_at (IsPublisher m.table.sizes) m.publishers place lane e w.publishers in
        let le : lane.port.book.first + length lane.port.book.uses ≤ m.table.sizes.slots
        = omega (arith, all.slots, own.counted.loans_each) in
        let most = slots_most lane.port.book at m.table.sizes.slots mine.link.found [] (λ s. false) (given_back m.table route.connection) le
        (λ s. omega (arith, own.has at route mine.link here mine.found s)) in
        omega (
          arith,
          most,
          total_zero (λ s. false) m.table.sizes.slots (λ s. refl),
          is.few,
          ap (λ (xs : List ℕ). length xs)
              (returned_is m route.connection mine.link mine.found h),
        )

fresh_borrowed : (m : World) (place : ℕ) (lane : SubscriberLaneState) → slice_get m.subscribers place ≡ Some lane → IsFresh m
    → CountsBorrowed lane
fresh_borrowed m place lane e h =
    let is = h.subscribers place lane e in
    record {
      numbers = λ at route found.
          let none : borrowed_of route.connection lane ≡ 0
          = total_zero (λ slot. borrows route.connection slot (Some lane)) (length lane.port.samples)
          (λ slot. borrows_none m route.connection place slot (Some lane) e h) in
          (is.borrowed at (slice_get_within lane.port.routes at route found) ∙ ap (λ (n : ℕ). Some n) (sym none), omega (arith, none));
      may = subst (MayBorrow lane) (sym is.idle) tt;
      ok = subst ReleasesOk (sym is.idle) tt;
    }

fresh_rooms : (m : World) → IsWithin m → IsFresh m → RoomsKept m
fresh_rooms m w h = record {
  publishers = λ place lane e. subst (HasRooms m.table.sizes.completion_cells (length lane.port.routes) lane.port.book)
      (sym ((h.publishers place lane e).idle)) (fresh_rooms_of m place lane e w h);
  subscribers = λ place lane e. fresh_borrowed m place lane e h;
  receivers = λ place lane e. (h.subscribers place lane e).connections;
  cells = λ connection link found. (h.links connection link found).cells;
  releases = subst (All (λ (call : FinishedCall). GaveBack call.answer)) (sym h.finished)
      (All-nil (λ (call : FinishedCall). GaveBack call.answer));
}

pub fresh_kept : (m : World) → m.moments ≡ 0 → IsWithin m → IsFresh m → IsKept m
fresh_kept m none w h = record {
  within = w;
  rings = λ few. fresh_rings m none h;
  receipts = λ few. fresh_receipts m h;
  calls = λ few. fresh_calls m h;
  sends = λ few. fresh_sends m h;
  loans = record {
    stages = λ place lane e. subst (StandsAtLoan lane.port.book) (sym ((h.publishers place lane e).idle)) tt;
    rows
        = h.rows;
  };
  returns = fresh_returns m h;
  reads = fresh_reads m h;
  uses = λ few. fresh_uses m h;
  held = λ few place lane e. subst (LoadsHeld m.table lane.port.words) (sym ((h.subscribers place lane e).idle)) tt;
  left = λ few place lane e. subst (StoresHeld m.table lane.port.sends lane.port.payload lane.port.head)
      (sym ((h.publishers place lane e).idle)) tt;
  rooms = λ few. fresh_rooms m w h;
  named = record {
    spare = h.spare;
    cells = h.named;
    publishers = λ place lane e. subst (SendsSlot m.table.sizes.slots) (sym ((h.publishers place lane e).idle)) tt;
    subscribers = λ place lane e. subst (GivesSlot m.table.sizes.slots) (sym ((h.subscribers place lane e).idle)) tt;
    room = λ connection link found. (h.links connection link found).some;
  };
  fresh = λ e. h;
}
