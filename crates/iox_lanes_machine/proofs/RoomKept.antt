-- Every step keeps the room at connections.
use Rattle.std.proofs.Common.{ℕ, ◌≡◌, ◌+◌, ◌<◌, ◌≤◌, ◌^◌, Bool, true, false, if◌then◌else◌, nat_lt, List, [], ◌∷◌, ◌++◌, length, set}
use Rattle.std.proofs.Common.{get_or, slice_get, Option, Some, None, refl, sym, ◌∙◌, ap, subst, inl, inr, arith}
use Rattle.std.specs.List.{All}
use Rattle.std.proofs.lemmas.List.Elements.{All-nil, All-cons, All-head, All-tail}
use Rattle.std.proofs.lemmas.Bool.Decides.{eqb_tells}
use Rattle.iox_lanes_machine.specs.LanesBase.Table.{after_shared}
use Rattle.iox_lanes_machine.specs.LanesBase.declared.words.sizes.TableSizes.{TableSizes}
use Rattle.iox_lanes_machine.specs.LanesBase.Publishing.{publisher_next}
use Rattle.iox_lanes_machine.specs.LanesBase.Subscribing.{subscriber_next, subscriber_change, receive_from, is_full_at}
use Rattle.iox_lanes_machine.specs.LanesBase.declared.calls.publisher.PublisherCall.{PublisherCall}
use Rattle.iox_lanes_machine.specs.LanesBase.declared.calls.publisher.PublisherCall.TheVariants as publishing
use Rattle.iox_lanes_machine.specs.LanesBase.declared.calls.subscriber.SubscriberCall.{SubscriberCall}
use Rattle.iox_lanes_machine.specs.LanesBase.declared.calls.subscriber.SubscriberCall.TheVariants as subscribing
use Rattle.iox_lanes_machine.specs.LanesBase.declared.calls.route.Route.{Route}
use Rattle.iox_lanes_machine.specs.LanesParties.PublisherKeeping.{BookState}
use Rattle.iox_lanes_machine.specs.LanesParties.Publishers.{words_of}
use Rattle.iox_lanes_machine.specs.LanesParties.declared.publisher.slot_book.LoanAnswer.{LoanAnswer}
use Rattle.iox_lanes_machine.specs.LanesParties.Parties.{PublisherLaneState, SubscriberLaneState, publisher_begun, publisher_after}
use Rattle.iox_lanes_machine.specs.LanesParties.Parties.{publisher_answer, head_of, subscriber_begun, subscriber_after, subscriber_answer}
use Rattle.iox_lanes_machine.specs.LanesParties.Parties.{release_begun, place_of, route_at}
use Rattle.iox_lanes_machine.specs.LanesParties.Within.{IsPublisher, IsSubscriber, IsSubscribing}
use Rattle.iox_lanes_machine.specs.LanesParties.declared.call.Answer.{Answer}
use Rattle.iox_lanes_machine.specs.LanesParties.declared.call.Call.{Call}
use Rattle.iox_lanes_machine.specs.LanesParties.declared.call.Call.TheVariants as call
use Rattle.iox_lanes_machine.specs.LanesParties.declared.call.CallName.{CallName}
use Rattle.iox_lanes_machine.specs.LanesParties.declared.call.CallName.TheVariants as name
use Rattle.iox_lanes_machine.specs.LanesParties.declared.call.FinishedCall.{FinishedCall}
use Rattle.iox_lanes_machine.specs.LanesParties.declared.call.Move.{Move}
use Rattle.iox_lanes_machine.specs.LanesParties.declared.call.Move.TheVariants.{Begin, GoOn}
use Rattle.iox_lanes_machine.specs.LanesParties.declared.call.Party.{Party}
use Rattle.iox_lanes_machine.specs.LanesParties.declared.call.Party.TheVariants.{Publisher, Subscriber}
use Rattle.iox_lanes_machine.proofs.LanesParties.Rings.{all_at}
use Rattle.iox_lanes_machine.specs.Borrowing.{UsesBorrowed}
use Rattle.iox_lanes_machine.specs.LedgerRooms.{HasRooms, ReleasesOk, CountsBorrowed}
use Rattle.iox_lanes_machine.proofs.BorrowCounts.{FitsAt, IsPlaced, ReleaseFindsRoom, from_may, quiet_numbers, borrowed_same, take_counts}
use Rattle.iox_lanes_machine.proofs.BorrowCounts.{numbers_are}
use Rattle.iox_lanes_machine.proofs.RoomSteps.{CallFinds, take_rooms, begun_rooms}
use Rattle.iox_lanes_machine.proofs.Samples.{gives_fit}
use Rattle.iox_lanes_machine.specs.Kept.{IsLinkOf, receiver, IsWithin, AreKept}
use Rattle.iox_lanes_machine.specs.Returns.{ReturnsKept, AreReturning}
use Rattle.iox_lanes_machine.specs.Rooms.{may_borrow, HasReceived, GaveBack, RoomsKept}
use Rattle.iox_lanes_machine.specs.Sends.{AreConnected}
use Rattle.iox_lanes_machine.specs.Slots.{LoansStand}
use Rattle.iox_lanes_machine.specs.Uses.{PublisherUses, UsesKept}
use Rattle.iox_lanes_machine.specs.World.{World, fits, happens, ended, publisher_stage, subscriber_stage, pushes_to, push_acts, pops_from}
use Rattle.iox_lanes_machine.specs.World.{pop_acts, added, publisher_given, publisher_begins, publisher_goes_on, publisher_ending}
use Rattle.iox_lanes_machine.specs.World.{publisher_fits_at, subscriber_given, subscriber_begins, subscriber_goes_on, subscriber_fits_at}
use Rattle.iox_lanes_machine.specs.Links.{LinkState}
use Rattle.iox_lanes_machine.proofs.Calls.{set_is}
use Rattle.iox_lanes_machine.proofs.Ends.{some_is}
use Rattle.iox_lanes_machine.proofs.PublisherUses as publishers
use Rattle.iox_lanes_machine.proofs.PublisherUses.{order_there, order_after}
use Rattle.iox_lanes_machine.proofs.Returns.{loan_here, send_here}
use Rattle.iox_lanes_machine.proofs.RoomFinds.{reclaim_finds, release_finds}
use Rattle.iox_lanes_machine.proofs.SlotMoves.{Setting, told}
use Rattle.iox_lanes_machine.proofs.SubscriberUses as subscribers
use Rattle.iox_lanes_machine.proofs.Within.{set_other, set_same, sizes_stay, subscriber_routes, changed_routes}

-- what the call of a publisher finds
call_finds : (m : World) (who : ℕ) (routes : List Route) (stored : List ℕ) (book : BookState) (c : PublisherCall)
    → Setting m who routes stored c → publishers.Balanced m routes book c → book.first + length book.uses ≤ m.table.sizes.slots
    → UsesKept m → RoomsKept m
    → CallFinds m.table.sizes.completion_cells book c (told m c)
call_finds m who routes stored book publishing.Idle k b le u r = tt
call_finds m who routes stored book (publishing.LoanReclaims at route p) k b le u r
    = reclaim_finds m who routes stored book (publishing.LoanReclaims at route p) at route p k k.call_is (loan_here at route p)
    (λ kind. refl) b le u r
call_finds m who routes stored book publishing.Lending k b le u r = tt
call_finds m who routes stored book (publishing.Writing slot word value) k b le u r = tt
call_finds m who routes stored book (publishing.Written slot) k b le u r = tt
call_finds m who routes stored book (publishing.Heading slot word value) k b le u r = tt
call_finds m who routes stored book (publishing.Remembering slot) k b le u r = tt
call_finds m who routes stored book (publishing.SendReclaims slot at route p) k b le u r
    = reclaim_finds m who routes stored book (publishing.SendReclaims slot at route p) at route p k k.call_is
    (send_here slot at route p) (λ kind. refl) b le u r
call_finds m who routes stored book (publishing.Pushing slot at route push delivery) k b le u r = tt
call_finds m who routes stored book (publishing.Sent slot delivery) k b le u r = tt
call_finds m who routes stored book (publishing.Dropping slot) k b le u r = tt

-- calls that ended
pub all_more : (P : FinishedCall → Type 0) (xs ys : List FinishedCall) → All P xs → All P ys → All P (xs ++ ys)
all_more P [] ys h g = g
all_more P (x ∷ xs) ys h g = All-cons P x (xs ++ ys) (All-head P x xs h) (all_more P xs ys (All-tail P x xs h) g)

ended_gave : (party : Party) (name : CallName) (first last : ℕ) (given : Option Answer) → ((a : Answer) → given ≡ Some a → GaveBack a)
    → All (λ call. GaveBack call.answer) (ended party name first last given)
ended_gave party name first last None h = All-nil (λ call. GaveBack call.answer)
ended_gave party name first last (Some a) h
    = All-cons (λ call. GaveBack call.answer) _ [] (h a refl) (All-nil (λ call. GaveBack call.answer))

publisher_gave : (fails : Bool) (c : PublisherCall) (loan : Option LoanAnswer) (a : Answer) → publisher_answer fails c loan ≡ Some a
    → GaveBack a
publisher_gave fails publishing.Idle loan a e = absurd (cc e)
publisher_gave fails (publishing.LoanReclaims at route p) loan a e = absurd (cc e)
publisher_gave fails publishing.Lending None a e = subst GaveBack (some_is _ a e) tt
publisher_gave fails publishing.Lending (Some given) a e = subst GaveBack (some_is _ a e) tt
publisher_gave fails (publishing.Writing slot word value) loan a e = absurd (cc e)
publisher_gave fails (publishing.Written slot) loan a e = subst GaveBack (some_is _ a e) tt
publisher_gave fails (publishing.Heading slot word value) loan a e = absurd (cc e)
publisher_gave fails (publishing.Remembering slot) loan a e = absurd (cc e)
publisher_gave fails (publishing.SendReclaims slot at route p) loan a e = absurd (cc e)
publisher_gave fails (publishing.Pushing slot at route push delivery) loan a e = absurd (cc e)
publisher_gave fails (publishing.Sent slot delivery) loan a e = subst GaveBack (some_is _ a e) tt
publisher_gave fails (publishing.Dropping slot) loan a e = subst GaveBack (some_is _ a e) tt

subscriber_gave : (c : SubscriberCall) (from : ℕ) (a : Answer) → ReleasesOk c → subscriber_answer c from ≡ Some a → GaveBack a
subscriber_gave subscribing.Idle from a ok e = absurd (cc e)
subscriber_gave (subscribing.Receiving at route p waits) from a ok e = absurd (cc e)
subscriber_gave (subscribing.Received given) from a ok e = subst GaveBack (some_is _ a e) tt
subscriber_gave (subscribing.Reading slot word extent) from a ok e = absurd (cc e)
subscriber_gave (subscribing.WasRead slot) from a ok e = subst GaveBack (some_is _ a e) tt
subscriber_gave (subscribing.Releasing at route p) from a ok e = absurd (cc e)
subscriber_gave (subscribing.Released done) from a ok e = subst GaveBack (some_is _ a e) ok

-- a publisher's step
pub gone_publisher : (m : World) (place : ℕ) (at : Option PublisherLaneState) → slice_get m.publishers place ≡ at
    → publisher_fits_at at GoOn ≡ true → m.moments < 2 ^ 63 → IsWithin m → AreKept m → ReturnsKept m → AreReturning m → AreConnected m
    → LoansStand m → UsesKept m → RoomsKept m
    → RoomsKept (publisher_goes_on (record m
    { orders = added m.orders (pushes_to (publisher_stage at)) m.moments (push_acts m.table (publisher_stage at)) }) place at)
gone_publisher m place None e fit bound w k r b s l u rooms = absurd (cc)
gone_publisher m place (Some lane) e fit bound w k r b s l u rooms =
    let setting = publishers.setting_of m place lane e bound w k r b s in
    let sizes : (after_shared m.table (publisher_next lane.port.call)).sizes ≡ m.table.sizes
    = (sizes_stay m.table (publisher_next lane.port.call)).0 in
    let is : IsPublisher m.table.sizes lane = all_at (IsPublisher m.table.sizes) m.publishers place lane e w.publishers in
    let uses : PublisherUses m lane = u.publishers place lane e in
    let fits = publishers.change_fits m place lane.port.routes (words_of lane.port) lane.port.book lane.port.call setting
    (l.stages place lane e) uses.lacking uses.balanced in
    let finds = call_finds m place lane.port.routes (words_of lane.port) lane.port.book lane.port.call setting uses.balanced
    (omega (arith, is.slots, uses.counted.loans_each)) u rooms in
    let after = take_rooms m.table.sizes.completion_cells lane.port.routes (words_of lane.port) lane.port.book lane.port.call
    (told m lane.port.call) (publishers.is_there m.table.sizes lane.port.routes (words_of lane.port) lane.port.call is.call) finds
    fits uses.counted (rooms.publishers place lane e) in
    record {
      publishers = λ who z got. subst (λ (t : TableSizes). HasRooms t.completion_cells (length z.port.routes) z.port.book z.port.call)
          (sym sizes) (elim (eqb_tells who place) [
            | inl same ↦
                let now : z ≡ publisher_after (publisher_given m.table lane) lane
                = set_is m.publishers place who lane (publisher_after (publisher_given m.table lane) lane) z e same.1 got in
                subst (λ (x : PublisherLaneState). HasRooms m.table.sizes.completion_cells (length x.port.routes) x.port.book x.port.call)
                (sym now) after
            | inr other ↦ rooms.publishers who z
                (sym (set_other m.publishers place who (publisher_after (publisher_given m.table lane) lane) other.1) ∙ got)
          ]);
      subscribers = rooms.subscribers;
      receivers = rooms.receivers;
      cells = λ connection link found. subst
          (λ (t : TableSizes). link.limit + may_borrow (slice_get m.subscribers link.subscriber) < t.completion_cells) (sym sizes)
          (rooms.cells connection link found);
      releases = all_more (λ call. GaveBack call.answer) m.finished
          (ended (Publisher place) lane.call lane.first m.moments (publisher_ending m.table lane)) rooms.releases
          (ended_gave (Publisher place) lane.call lane.first m.moments (publisher_ending m.table lane)
          (λ a h. publisher_gave lane.fails lane.port.call (publisher_after (publisher_given m.table lane) lane).port.book.answer a h));
    }

-- what a subscriber's change wants at each of its connections
fits_at : (m : World) (who : ℕ) (lane : SubscriberLaneState) (c : SubscriberCall) → subscribers.Setting m who lane c
    → (at : ℕ) (route : Route) → slice_get lane.port.routes at ≡ Some route → FitsAt lane route.connection (subscribers.told m c) c
fits_at m who lane subscribing.Idle k at route here = tt
fits_at m who lane (subscribing.Receiving place own p waits) k at route here =
    let mine : IsLinkOf m.links receiver who route = all_at (IsLinkOf m.links receiver who) lane.port.routes at route here k.links in
    subscribers.takes_unborrowed m who lane place own p waits route.connection mine.link (get_or m.orders route.connection [])
    (get_or (added m.orders (Some own.connection) m.moments (pop_acts m (subscribing.Receiving place own p waits))) route.connection
    []) k
    (record {
      found = mine.found;
      receiver_is = mine.own;
      got = order_there m route.connection mine.link mine.found k.within;
      after = order_after m (Some own.connection) (pop_acts m (subscribing.Receiving place own p waits)) route.connection mine.link
          mine.found k.within;
    })
fits_at m who lane (subscribing.Received given) k at route here = tt
fits_at m who lane (subscribing.Reading slot word extent) k at route here = tt
fits_at m who lane (subscribing.WasRead slot) k at route here = tt
fits_at m who lane (subscribing.Releasing place own p) k at route here
    = gives_fit lane route.connection place p (subst (UsesBorrowed lane.port.samples) k.stage (k.own).borrowed)
fits_at m who lane (subscribing.Released done) k at route here = tt

finds_at : (m : World) (who : ℕ) (lane : SubscriberLaneState) (c : SubscriberCall) → subscribers.Setting m who lane c → RoomsKept m
    → ReleaseFindsRoom c (subscribers.told m c)
finds_at m who lane subscribing.Idle k r = tt
finds_at m who lane (subscribing.Receiving place own p waits) k r = tt
finds_at m who lane (subscribing.Received given) k r = tt
finds_at m who lane (subscribing.Reading slot word extent) k r = tt
finds_at m who lane (subscribing.WasRead slot) k r = tt
finds_at m who lane (subscribing.Releasing place own p) k r = release_finds m who lane place own p k r
finds_at m who lane (subscribing.Released done) k r = tt

is_placed : (sizes : TableSizes) (routes : List Route) (c : SubscriberCall) → IsSubscribing sizes routes c → IsPlaced routes c
is_placed sizes routes subscribing.Idle h = tt
is_placed sizes routes (subscribing.Receiving place own p waits) h = h
is_placed sizes routes (subscribing.Received given) h = tt
is_placed sizes routes (subscribing.Reading slot word extent) h = tt
is_placed sizes routes (subscribing.WasRead slot) h = tt
is_placed sizes routes (subscribing.Releasing place own p) h = h
is_placed sizes routes (subscribing.Released done) h = tt

-- a ring of samples given back has fewer than 2^62 cells, so a subscriber may borrow fewer samples
few_cells : (m : World) (connection : ℕ) (link : LinkState) → slice_get m.links connection ≡ Some link → AreReturning m
    → m.table.sizes.completion_cells < 2 ^ 62
few_cells m connection link found b = ((b connection link found).shape).small

-- a subscriber's step
pub gone_subscriber : (m : World) (place : ℕ) (at : Option SubscriberLaneState) → slice_get m.subscribers place ≡ at
    → subscriber_fits_at at GoOn ≡ true → m.moments < 2 ^ 63 → IsWithin m → AreKept m → ReturnsKept m → AreReturning m → AreConnected m
    → LoansStand m → UsesKept m → RoomsKept m
    → RoomsKept (subscriber_goes_on (record m
    { orders = added m.orders (pops_from (subscriber_stage at)) m.moments (pop_acts m (subscriber_stage at)) }) place at)
gone_subscriber m place None e fit bound w k r b s l u rooms = absurd (cc)
gone_subscriber m place (Some lane) e fit bound w k r b s l u rooms =
    let setting = subscribers.setting_of m place lane e bound w k r b s l u in
    let sizes : (after_shared m.table (subscriber_next lane.port.call)).sizes ≡ m.table.sizes
    = (sizes_stay m.table (subscriber_next lane.port.call)).0 in
    let is : IsSubscriber m.table.sizes lane = all_at (IsSubscriber m.table.sizes) m.subscribers place lane e w.subscribers in
    let c : SubscriberCall = lane.port.call in
    let given : ℕ = subscriber_given m.table lane in
    let after : SubscriberLaneState = subscriber_after given lane in
    let routes : after.port.routes ≡ lane.port.routes = (changed_routes (subscriber_change c given) _).0 in
    let most : after.port.most_borrowed ≡ lane.port.most_borrowed = (numbers_are (subscriber_change c given) _).1 in
    let was : CountsBorrowed lane = rooms.subscribers place lane e in
    let counts : CountsBorrowed after = take_counts lane after c given (record {
      alters = record { samples = subscribers.changes_of m lane; borrowed = (numbers_are (subscriber_change c given) _).0; most = most };
      stage = refl;
      taken = (changed_routes (subscriber_change c given) _).1;
      fits = fits_at m place lane c setting;
      placed = is_placed m.table.sizes lane.port.routes c is.call;
      finds = finds_at m place lane c setting rooms;
      once = (rooms.receivers place lane e).once;
      small = λ at route here.
          let mine : IsLinkOf m.links receiver place route
          = all_at (IsLinkOf m.links receiver place) lane.port.routes at route here (w.receivers place lane e) in
          let there : may_borrow (slice_get m.subscribers mine.link.subscriber) ≡ lane.port.most_borrowed
          = ap may_borrow (ap (slice_get m.subscribers) mine.own ∙ e) in
          omega (arith, rooms.cells route.connection mine.link mine.found, few_cells m route.connection mine.link mine.found b, there);
      was = was;
    }) in
    record {
      publishers = λ who z got. subst (λ (t : TableSizes). HasRooms t.completion_cells (length z.port.routes) z.port.book z.port.call)
          (sym sizes) (rooms.publishers who z got);
      subscribers = λ who z got. elim (eqb_tells who place) [
        | inl same ↦ subst CountsBorrowed (sym (set_is m.subscribers place who lane after z e same.1 got)) counts
        | inr other ↦ rooms.subscribers who z (sym (set_other m.subscribers place who after other.1) ∙ got)
      ];
      receivers = λ who z got. elim (eqb_tells who place) [
        | inl same ↦
            let now : z ≡ after = set_is m.subscribers place who lane after z e same.1 got in
            subst (λ (x : SubscriberLaneState). HasReceived m.links who x.port.routes) (sym now)
            (subst (HasReceived m.links who) (sym routes) (rooms.receivers who lane (ap (slice_get m.subscribers) same.1 ∙ e)))
        | inr other ↦ rooms.receivers who z (sym (set_other m.subscribers place who after other.1) ∙ got)
      ];
      cells = λ connection link found. subst
          (λ (t : TableSizes). link.limit + may_borrow (slice_get (set m.subscribers place after) link.subscriber) < t.completion_cells)
          (sym sizes)
          (elim (eqb_tells link.subscriber place) [
            | inl same ↦ omega (
              arith,
              rooms.cells connection link found,
              ap may_borrow (ap (slice_get m.subscribers) same.1 ∙ e),
              ap may_borrow (ap (slice_get (set m.subscribers place after)) same.1 ∙ set_same m.subscribers place after lane e),
              most,
            )
            | inr other ↦ omega (
              arith,
              rooms.cells connection link found,
              ap may_borrow
                  (set_other m.subscribers place link.subscriber after other.1),
            )
          ]);
      releases = all_more (λ call. GaveBack call.answer) m.finished
          (ended (Subscriber place) lane.call lane.first m.moments (subscriber_answer c (length m.read))) rooms.releases
          (ended_gave (Subscriber place) lane.call lane.first m.moments (subscriber_answer c (length m.read))
          (λ a h. subscriber_gave c (length m.read) a was.ok h));
    }

receive_ok : (place : ℕ) (full waits : Bool) (at : Option Route) → ReleasesOk (receive_from place full waits at)
receive_ok place full waits None = tt
receive_ok place full waits (Some route) = tt

-- a begin changes no record; a receive looks where it may borrow no more
begun_subscriber_counts : (moment : ℕ) (c : Call) (lane : SubscriberLaneState) → CountsBorrowed lane
    → CountsBorrowed (subscriber_begun moment c lane)
begun_subscriber_counts moment call.LoanUninit lane k = k
begun_subscriber_counts moment (call.Write loan payload user_header) lane k = k
begun_subscriber_counts moment (call.Send loan) lane k = k
begun_subscriber_counts moment (call.DropLoan loan) lane k = k
begun_subscriber_counts moment call.Receive lane k = record {
  numbers = quiet_numbers lane (subscriber_begun moment call.Receive lane) refl refl refl refl k.numbers;
  may = from_may lane (subscriber_begun moment call.Receive lane) 0 false (slice_get lane.port.routes 0) refl k.numbers
      (λ connection. borrowed_same lane (subscriber_begun moment call.Receive lane) connection refl refl) refl;
  ok = receive_ok 0 (is_full_at lane.port.borrowed lane.port.most_borrowed 0) false (slice_get lane.port.routes 0);
}
begun_subscriber_counts moment (call.Read sample) lane k
    = by_test (nat_lt 0 (3 + lane.port.extent.user_header_words + lane.port.extent.payload_words))
  where
    by_test : (b : Bool) → CountsBorrowed
        (record lane {
          port = record lane.port
              { call = if b then subscribing.Reading sample 0 lane.port.extent else subscribing.WasRead sample };
          call = name.Read sample;
          first = moment;
        })
    by_test true = record { numbers = quiet_numbers lane _ refl refl refl refl k.numbers; may = tt; ok = tt }
    by_test false = record { numbers = quiet_numbers lane _ refl refl refl refl k.numbers; may = tt; ok = tt }
begun_subscriber_counts moment (call.Release sample) lane k = released (place_of sample lane) (route_at (place_of sample lane) lane)
  where
    released : (at : Option ℕ) (to : Option Route) → CountsBorrowed (release_begun moment sample at to lane)
    released None to = k
    released (Some place) None = k
    released (Some place) (Some route) = record { numbers = quiet_numbers lane _ refl refl refl refl k.numbers; may = tt; ok = tt }

begun_most : (moment : ℕ) (c : Call) (lane : SubscriberLaneState)
    → (subscriber_begun moment c lane).port.most_borrowed ≡ lane.port.most_borrowed
begun_most moment call.LoanUninit lane = refl
begun_most moment (call.Write loan payload user_header) lane = refl
begun_most moment (call.Send loan) lane = refl
begun_most moment (call.DropLoan loan) lane = refl
begun_most moment call.Receive lane = refl
begun_most moment (call.Read sample) lane = refl
begun_most moment (call.Release sample) lane = released (place_of sample lane) (route_at (place_of sample lane) lane)
  where
    released : (at : Option ℕ) (to : Option Route) → (release_begun moment sample at to lane).port.most_borrowed ≡ lane.port.most_borrowed
    released None to = refl
    released (Some place) None = refl
    released (Some place) (Some route) = refl

begun_publisher_rooms : (cells moment : ℕ) (c : Call) (lane : PublisherLaneState)
    → HasRooms cells (length lane.port.routes) lane.port.book lane.port.call
    → HasRooms cells (length (publisher_begun moment c lane).port.routes) (publisher_begun moment c lane).port.book
    (publisher_begun moment c lane).port.call
begun_publisher_rooms cells moment call.LoanUninit lane k = (begun_rooms cells lane.port.routes lane.port.book lane.port.call k).0
begun_publisher_rooms cells moment (call.Write loan payload user_header) lane k
    = (begun_rooms cells lane.port.routes lane.port.book lane.port.call k).1 loan 0 (slice_get payload.items 0)
begun_publisher_rooms cells moment (call.Send loan) lane k
    = (begun_rooms cells lane.port.routes lane.port.book lane.port.call k).2 loan 0 (slice_get (head_of loan lane) 0)
begun_publisher_rooms cells moment (call.DropLoan loan) lane k = (begun_rooms cells lane.port.routes lane.port.book lane.port.call k).3 loan
begun_publisher_rooms cells moment call.Receive lane k = k
begun_publisher_rooms cells moment (call.Read sample) lane k = k
begun_publisher_rooms cells moment (call.Release sample) lane k = k

pub begun_publisher : (m : World) (place : ℕ) (c : Call) (at : Option PublisherLaneState) → slice_get m.publishers place ≡ at
    → publisher_fits_at at (Begin c) ≡ true → RoomsKept m → RoomsKept (publisher_begins m place c at)
begun_publisher m place c None e fit r = absurd (cc)
begun_publisher m place c (Some lane) e fit r = record {
  publishers = λ who z got. elim (eqb_tells who place) [
    | inl same ↦
        let now : z ≡ publisher_begun m.moments c lane
        = set_is m.publishers place who lane (publisher_begun m.moments c lane) z e same.1 got in
        subst (λ (x : PublisherLaneState). HasRooms m.table.sizes.completion_cells (length x.port.routes) x.port.book x.port.call)
        (sym now) (begun_publisher_rooms m.table.sizes.completion_cells m.moments c lane (r.publishers place lane e))
    | inr other ↦ r.publishers who z (sym (set_other m.publishers place who (publisher_begun m.moments c lane) other.1) ∙ got)
  ];
  subscribers = r.subscribers;
  receivers = r.receivers;
  cells = r.cells;
  releases = r.releases;
}

pub begun_subscriber : (m : World) (place : ℕ) (c : Call) (at : Option SubscriberLaneState) → slice_get m.subscribers place ≡ at
    → subscriber_fits_at at (Begin c) ≡ true → RoomsKept m → RoomsKept (subscriber_begins m place c at)
begun_subscriber m place c None e fit r = absurd (cc)
begun_subscriber m place c (Some lane) e fit r = record {
  publishers = r.publishers;
  subscribers = λ who z got. elim (eqb_tells who place) [
    | inl same ↦ subst CountsBorrowed (sym (set_is m.subscribers place who lane (subscriber_begun m.moments c lane) z e same.1 got))
        (begun_subscriber_counts m.moments c lane (r.subscribers place lane e))
    | inr other ↦ r.subscribers who z (sym (set_other m.subscribers place who (subscriber_begun m.moments c lane) other.1) ∙ got)
  ];
  receivers = λ who z got. elim (eqb_tells who place) [
    | inl same ↦
        let now : z ≡ subscriber_begun m.moments c lane
        = set_is m.subscribers place who lane (subscriber_begun m.moments c lane) z e same.1 got in
        subst (λ (x : SubscriberLaneState). HasReceived m.links who x.port.routes) (sym now)
        (subst (HasReceived m.links who) (sym (subscriber_routes m.moments c lane))
        (r.receivers who lane (ap (slice_get m.subscribers) same.1 ∙ e)))
    | inr other ↦ r.receivers who z (sym (set_other m.subscribers place who (subscriber_begun m.moments c lane) other.1) ∙ got)
  ];
  cells = λ connection link found. elim (eqb_tells link.subscriber place) [
    | inl same ↦ omega (
      arith,
      r.cells connection link found,
      ap may_borrow (ap (slice_get m.subscribers) same.1 ∙ e),
      ap may_borrow (ap (slice_get (set m.subscribers place (subscriber_begun m.moments c lane))) same.1 ∙ set_same m.subscribers place
          (subscriber_begun m.moments c lane) lane e),
      begun_most m.moments c lane,
    )
    | inr other ↦ omega (
      arith,
      r.cells connection link found,
      ap may_borrow
          (set_other m.subscribers place link.subscriber (subscriber_begun m.moments c lane) other.1),
    )
  ];
  releases = r.releases;
}

pub happens_rooms : (m : World) (party : Party) (step : Move) → fits m party step ≡ true → m.moments < 2 ^ 63 → IsWithin m → AreKept m
    → ReturnsKept m → AreReturning m → AreConnected m → LoansStand m → UsesKept m → RoomsKept m → RoomsKept (happens m party step)
happens_rooms m (Publisher place) (Begin c) fit bound w k r b s l u rooms
    = begun_publisher m place c (slice_get m.publishers place) refl fit rooms
happens_rooms m (Subscriber place) (Begin c) fit bound w k r b s l u rooms
    = begun_subscriber m place c (slice_get m.subscribers place) refl fit rooms
happens_rooms m (Publisher place) GoOn fit bound w k r b s l u rooms
    = gone_publisher m place (slice_get m.publishers place) refl fit bound w k r b s l u rooms
happens_rooms m (Subscriber place) GoOn fit bound w k r b s l u rooms
    = gone_subscriber m place (slice_get m.subscribers place) refl fit bound w k r b s l u rooms
