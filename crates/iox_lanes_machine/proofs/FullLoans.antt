-- A loan finds no slot only where all were in use when it began.
use Rattle.std.proofs.Common.{ℕ, ◌≡◌, ◌+◌, ◌-◌, ◌<◌, ◌≤◌, ◌^◌, ◌==◌, Bool, true, false, nat_lt, List, [], ◌∷◌, ◌++◌, length, get_or}
use Rattle.std.proofs.Common.{slice_get, Option, Some, None, refl, sym, ◌∙◌, ap, subst, inl, inr, arith}
use Rattle.std.proofs.lemmas.Bool.{cases_lt, ltb-true, ltb-false}
use Rattle.std.proofs.lemmas.Bool.Decides.{eqb_tells}
use Rattle.std.proofs.lemmas.Option.{slice_get_within}
use Rattle.iox_lanes_machine.specs.QueuesSteps.Access.{RingWords, successor}
use Rattle.iox_lanes_machine.specs.QueuesSteps.Refusing as refusing
use Rattle.iox_lanes_machine.specs.QueuesSteps.declared.rings.refusing.pop.Pop.{Pop}
use Rattle.iox_lanes_machine.specs.QueuesSteps.declared.rings.refusing.pop.Pop.TheVariants as pop
use Rattle.iox_lanes_machine.specs.LanesBase.Table.{TableWords, after_shared}
use Rattle.iox_lanes_machine.specs.LanesBase.Answers.{refusing_pop_answer}
use Rattle.iox_lanes_machine.specs.LanesBase.Publishing.{publisher_is_idle, publisher_next, publisher_take, publisher_change, taken_back}
use Rattle.iox_lanes_machine.specs.LanesBase.Publishing.{loan_reclaimed, loan_from}
use Rattle.iox_lanes_machine.specs.LanesBase.Subscribing.{subscriber_next}
use Rattle.iox_lanes_machine.specs.LanesBase.declared.calls.publisher.PublisherCall.{PublisherCall}
use Rattle.iox_lanes_machine.specs.LanesBase.declared.calls.publisher.PublisherCall.TheVariants as publishing
use Rattle.iox_lanes_machine.specs.LanesBase.declared.calls.publisher.PublisherChange.{PublisherChange}
use Rattle.iox_lanes_machine.specs.LanesBase.declared.calls.publisher.PublisherChange.TheVariants as change
use Rattle.iox_lanes_machine.specs.LanesBase.declared.calls.subscriber.SubscriberCall.{SubscriberCall}
use Rattle.iox_lanes_machine.specs.LanesBase.declared.calls.subscriber.SubscriberCall.TheVariants as subscribing
use Rattle.iox_lanes_machine.specs.LanesBase.declared.calls.route.Route.{Route}
use Rattle.iox_lanes_machine.specs.LanesParties.PublisherKeeping.{BookState, changed, lent}
use Rattle.iox_lanes_machine.specs.LanesParties.Publishers.{words_of}
use Rattle.iox_lanes_machine.specs.LanesParties.declared.publisher.slot_book.LoanMark.TheVariants as mark
use Rattle.iox_lanes_machine.specs.LanesParties.declared.publisher.slot_book.LoanAnswer.TheVariants as loan
use Rattle.iox_lanes_machine.specs.LanesParties.Parties as parties
use Rattle.iox_lanes_machine.specs.LanesParties.Parties.{PublisherLaneState, SubscriberLaneState, is_out, publisher_begun, publisher_after}
use Rattle.iox_lanes_machine.specs.LanesParties.Within.{IsPublisher}
use Rattle.iox_lanes_machine.specs.LanesParties.declared.call.Answer.{Answer}
use Rattle.iox_lanes_machine.specs.LanesParties.declared.call.Answer.TheVariants as answer
use Rattle.iox_lanes_machine.specs.LanesParties.declared.call.Call.{Call}
use Rattle.iox_lanes_machine.specs.LanesParties.declared.call.Call.TheVariants as call
use Rattle.iox_lanes_machine.specs.LanesParties.declared.call.Entry.{Entry}
use Rattle.iox_lanes_machine.specs.LanesParties.declared.call.FinishedCall.{FinishedCall}
use Rattle.iox_lanes_machine.specs.LanesParties.declared.call.Move.{Move}
use Rattle.iox_lanes_machine.specs.LanesParties.declared.call.Move.TheVariants.{Begin, GoOn}
use Rattle.iox_lanes_machine.specs.LanesParties.declared.call.Party.{Party}
use Rattle.iox_lanes_machine.specs.LanesParties.declared.call.Party.TheVariants.{Publisher, Subscriber}
use Rattle.iox_lanes_machine.proofs.LanesParties.Rings.{all_at}
use Rattle.iox_lanes_machine.proofs.LanesParties.PublishersWithin.{publishers_stay_within}
use Rattle.iox_lanes_machine.specs.LedgerRooms.{HasSwept, CallGoes}
use Rattle.iox_lanes_machine.specs.LedgerUses.{one_if, count, entry, refers_to, references, total, IsOwn, UsesCounted, ChangeFits}
use Rattle.iox_lanes_machine.proofs.Changes.{IsChangeAt, put_by, back_follows, refers_there, refers_elsewhere, lacks_after, own_after}
use Rattle.iox_lanes_machine.proofs.Changes.{loans_after}
use Rattle.iox_lanes_machine.proofs.Entries.{entry_is, total_none}
use Rattle.iox_lanes_machine.proofs.Permitted.{none_free, some_place}
use Rattle.iox_lanes_machine.proofs.Rings.{between_is}
use Rattle.iox_lanes_machine.proofs.RoomSteps.{none_within}
use Rattle.iox_lanes_machine.proofs.Sums.{total_is, sum_none}
use Rattle.iox_lanes_machine.specs.FullLoans.{IsHeld, IsInUse, LoansFindAllUsed}
use Rattle.iox_lanes_machine.specs.Kept.{IsLinkOf, sender, IsKept}
use Rattle.iox_lanes_machine.specs.Paces.{after_entry, led}
use Rattle.iox_lanes_machine.specs.Returns.{back_ring, release_on, IsReturning}
use Rattle.iox_lanes_machine.specs.Sends.{is_sender}
use Rattle.iox_lanes_machine.specs.Uses.{aside_at, given_back}
use Rattle.iox_lanes_machine.specs.World.{World, fits, happens, placed, publisher_stage, subscriber_stage, publisher_given}
use Rattle.iox_lanes_machine.specs.World.{publisher_begins, publisher_goes_on, publisher_fits_at, subscriber_begins, subscriber_goes_on}
use Rattle.iox_lanes_machine.specs.World.{subscriber_fits_at, pops_from, pop_acts, added}
use Rattle.iox_lanes_machine.proofs.Connected.{sends_connected}
use Rattle.iox_lanes_machine.specs.Links.{LinkState}
use Rattle.iox_lanes_machine.proofs.Ends.{some_is}
use Rattle.iox_lanes_machine.specs.LanesBase.declared.words.word.ConnectionRing.TheVariants.{Completion}
use Rattle.iox_lanes_machine.proofs.InTable.{access_answer, access_elsewhere}
use Rattle.iox_lanes_machine.proofs.Loans.{finds, lends_at, goes}
use Rattle.iox_lanes_machine.proofs.Paces.{turn, begun_first, one_more, later, may_begin, came_kept}
use Rattle.iox_lanes_machine.proofs.PublisherUses as publishers
use Rattle.iox_lanes_machine.proofs.PublisherUses.{order_there, order_after}
use Rattle.iox_lanes_machine.proofs.Returns.{reclaims_at, releases_at, loan_here, publisher_off, subscriber_off}
use Rattle.iox_lanes_machine.proofs.ReturnSteps.{back_seat, reclaims_own, releases_own}
use Rattle.iox_lanes_machine.proofs.SlotMoves as moves
use Rattle.iox_lanes_machine.proofs.SlotMoves.{Setting, Spot, told, returning_here}
use Rattle.iox_lanes_machine.proofs.Standing.{reclaim_moves, back_same}
use Rattle.iox_lanes_machine.proofs.Steps.{happens_moments}
use Rattle.iox_lanes_machine.proofs.SubscriberUses as subscribers
use Rattle.iox_lanes_machine.proofs.Whole.{happens_keeps}

-- how often a slot stands among the samples given back at a connection
abbrev Back : World → ℕ → ℕ → ℕ
Back m connection slot = count slot (given_back m.table connection)

-- a step of another party takes no sample back
other_publisher : (m : World) (own place connection slot : ℕ) (link : LinkState) (at : Option PublisherLaneState)
    → slice_get m.publishers own ≡ at → publisher_fits_at at GoOn ≡ true → IsKept m → slice_get m.links connection ≡ Some link
    → link.publisher ≡ place → (own ≡ place → ⊥)
    → Back m connection slot ≤ Back (publisher_goes_on (placed m (Publisher own)) own at) connection slot
other_publisher m own place connection slot link None e fit k found is not = absurd (cc)
other_publisher m own place connection slot link (Some lane) e fit k found is not =
    let w = k.within in
    let in_table : IsPublisher m.table.sizes lane = all_at (IsPublisher m.table.sizes) m.publishers own lane e w.publishers in
    let off : reclaims_at lane.port.call ≡ Some connection
    → ⊥ = λ h. not (sym (reclaims_own m own lane connection link e w found h) ∙ is) in
    let same = back_same m.table (publisher_next lane.port.call) connection
    (access_elsewhere Completion m.table connection m.table.sizes.completion_cells (publisher_next lane.port.call)
    (back_seat m connection link found k.returns.some w)
    (publisher_off m.table connection lane.port.call off ((publishers_stay_within m.table.sizes lane in_table).2))) slot in
    omega (arith, same)

subscriber_back : (m : World) (own connection slot : ℕ) (link : LinkState) (lane : SubscriberLaneState) (c : SubscriberCall)
    → subscribers.Setting m own lane c → slice_get m.links connection ≡ Some link → link.subscriber ≡ own
    → Back m connection slot ≤ count slot (given_back (after_shared m.table (subscriber_next c)) connection)
subscriber_back m own connection slot link lane c k found is = by_call c k
  where
    spot : (d : SubscriberCall) → subscribers.Setting m own lane d
        → subscribers.Spot m own d connection link (get_or m.orders connection [])
        (get_or (added m.orders (pops_from d) m.moments (pop_acts m d)) connection [])
    spot d k = record {
      found = found;
      receiver_is = is;
      got = order_there m connection link found k.within;
      after
          = order_after m (pops_from d) (pop_acts m d) connection link found k.within;
    }

    elsewhere : (d : SubscriberCall) → subscribers.Setting m own lane d → (releases_at d ≡ Some connection → ⊥)
        → Back m connection slot ≤ count slot (given_back (after_shared m.table (subscriber_next d)) connection)
    elsewhere d k off = omega (arith, subscribers.returned_same m own lane d connection link _ _ k (spot d k) off slot)

    by_call : (d : SubscriberCall) → subscribers.Setting m own lane d
        → Back m connection slot ≤ count slot (given_back (after_shared m.table (subscriber_next d)) connection)
    by_call subscribing.Idle k = elsewhere subscribing.Idle k (λ e. cc e)
    by_call (subscribing.Receiving at route p waits) k = elsewhere (subscribing.Receiving at route p waits) k (λ e. cc e)
    by_call (subscribing.Received given) k = elsewhere (subscribing.Received given) k (λ e. cc e)
    by_call (subscribing.Reading s word extent) k = elsewhere (subscribing.Reading s word extent) k (λ e. cc e)
    by_call (subscribing.WasRead s) k = elsewhere (subscribing.WasRead s) k (λ e. cc e)
    by_call (subscribing.Releasing at route p) k = elim (eqb_tells route.connection connection) [
      | inl same ↦
          subst (λ (n : ℕ). subscribers.Spot m own (subscribing.Releasing at route p) n link (get_or m.orders n [])
          (get_or (added m.orders (pops_from (subscribing.Releasing at route p)) m.moments
          (pop_acts m (subscribing.Releasing at route p))) n [])
          → Back m n slot ≤ count slot (given_back (after_shared m.table (subscriber_next (subscribing.Releasing at route p))) n)) same.1
          (λ here. omega (arith, subscribers.given_there m own lane at route p link _ _ k here slot))
          (spot (subscribing.Releasing at route p) k)
      | inr other ↦ elsewhere (subscribing.Releasing at route p) k (λ e. other.1 (some_is route.connection connection e))
    ]
    by_call (subscribing.Released done) k = elsewhere (subscribing.Released done) k (λ e. cc e)

other_subscriber : (m : World) (own connection slot : ℕ) (link : LinkState) (at : Option SubscriberLaneState)
    → slice_get m.subscribers own ≡ at → subscriber_fits_at at GoOn ≡ true → IsKept m → m.moments < 2 ^ 63
    → slice_get m.links connection ≡ Some link
    → Back m connection slot ≤ Back (subscriber_goes_on (placed m (Subscriber own)) own at) connection slot
other_subscriber m own connection slot link None e fit k bound found = absurd (cc)
other_subscriber m own connection slot link (Some lane) e fit k bound found =
    let few : m.moments ≤ 2 ^ 63 = omega (arith, bound) in
    let setting = subscribers.setting_of m own lane e bound k.within (k.rings few) k.returns (k.returns.rings few)
    (sends_connected m (k.sends few)) k.loans
    (k.uses few) in
    elim (eqb_tells link.subscriber own) [
      | inl same ↦ subscriber_back m own connection slot link lane lane.port.call setting found same.1
      | inr other ↦
          let off : releases_at lane.port.call ≡ Some connection
          → ⊥ = λ h. other.1 (releases_own m own lane connection link e k.within found h) in
          omega (
            arith,
            back_same m.table (subscriber_next lane.port.call) connection
                (access_elsewhere Completion m.table connection m.table.sizes.completion_cells (subscriber_next lane.port.call)
                (back_seat m connection link found k.returns.some k.within)
                (subscriber_off m.table connection lane.port.call off setting.access)) slot,
          )
    ]

begun_back : (m : World) (own connection slot : ℕ) (c : Call) (at : Option PublisherLaneState)
    → Back m connection slot ≤ Back (publisher_begins m own c at) connection slot
begun_back m own connection slot c None = omega arith
begun_back m own connection slot c (Some lane) = omega arith

subscriber_begun_back : (m : World) (own connection slot : ℕ) (c : Call) (at : Option SubscriberLaneState)
    → Back m connection slot ≤ Back (subscriber_begins m own c at) connection slot
subscriber_begun_back m own connection slot c None = omega arith
subscriber_begun_back m own connection slot c (Some lane) = omega arith

others_back : (m : World) (party : Party) (step : Move) (place connection slot : ℕ) (link : LinkState) → fits m party step ≡ true
    → IsKept m → m.moments < 2 ^ 63 → slice_get m.links connection ≡ Some link → link.publisher ≡ place → is_sender party place ≡ false
    → Back m connection slot ≤ Back (happens m party step) connection slot
others_back m (Publisher own) (Begin c) place connection slot link fit k bound found is not
    = begun_back m own connection slot c (slice_get m.publishers own)
others_back m (Subscriber own) (Begin c) place connection slot link fit k bound found is not
    = subscriber_begun_back m own connection slot c (slice_get m.subscribers own)
others_back m (Publisher own) GoOn place connection slot link fit k bound found is not =
    other_publisher m own place connection slot link (slice_get m.publishers own) refl fit k found is (apart own place not)
  where
    apart : (x y : ℕ) → (x == y) ≡ false → x ≡ y → ⊥
    apart x y h e = elim (eqb_tells x y) [
      | inl same ↦ absurd (cc (sym h ∙ same.0))
      | inr other ↦ other.1 e
    ]
others_back m (Subscriber own) GoOn place connection slot link fit k bound found is not
    = other_subscriber m own connection slot link (slice_get m.subscribers own) refl fit k bound found

-- a call that takes back finds nothing only where nothing was given back
back_empty : (m : World) (who : ℕ) (routes : List Route) (stored : List ℕ) (at : ℕ) (route : Route) (seen : ℕ)
    → Setting m who routes stored (publishing.LoanReclaims at route (pop.SawRead seen))
    → (told m (publishing.LoanReclaims at route (pop.SawRead seen)) == seen) ≡ true → (slot : ℕ) → Back m route.connection slot ≡ 0
back_empty m who routes stored at route seen k e slot =
    let mine : IsLinkOf m.links sender who route = all_at (IsLinkOf m.links sender who) routes at route k.call_is k.links in
    let receives : SubscriberCall = subscriber_stage (slice_get m.subscribers mine.link.subscriber) in
    let c : PublisherCall = publishing.LoanReclaims at route (pop.SawRead seen) in
    let returning : IsReturning m.table.sizes.completion_cells m.table m.moments route.connection c receives =
    subst (λ (x : PublisherCall). IsReturning m.table.sizes.completion_cells m.table m.moments route.connection x receives)
    (ap (λ (i : ℕ). publisher_stage (slice_get m.publishers i)) mine.own ∙ k.stage) (k.returning route.connection mine.link mine.found) in
    let words : RingWords = back_ring m.table route.connection m.table.sizes.completion_cells in
    let shape : refusing.Shape m.table.sizes.completion_cells words returning.list (release_on route.connection receives)
    (pop.SawRead seen) =
    subst (λ (x : Pop). refusing.Shape m.table.sizes.completion_cells words returning.list (release_on route.connection receives) x)
    (loan_here at route (pop.SawRead seen)) returning.shape in
    let answered : words.write ≡ told m c
    = access_answer Completion m.table route.connection m.table.sizes.completion_cells (refusing.pop_next (pop.SawRead seen))
    (back_seat m route.connection mine.link mine.found k.some k.within) in
    let same : told m c ≡ seen = is_equal (told m c) seen e in
    let empty : length returning.list ≡ 0 = omega (arith, shape.level, shape.pop_knows, answered, same) in
    none_in slot (given_back m.table route.connection)
    (ap (λ (xs : List ℕ). length xs)
    (between_is m.table.sizes.completion_cells words returning.list (release_on route.connection receives) (pop.SawRead seen) shape)
    ∙ empty)
  where
    is_equal : (x y : ℕ) → (x == y) ≡ true → x ≡ y
    is_equal x y h = elim (eqb_tells x y) [
      | inl here ↦ here.1
      | inr other ↦ absurd (cc (sym h ∙ other.0))
    ]

    none_in : (s : ℕ) (xs : List ℕ) → length xs ≡ 0 → count s xs ≡ 0
    none_in s [] h = refl
    none_in s (x ∷ xs) h = absurd (omega (arith, h))

-- a loan is in progress
abbrev pub IsLoan : PublisherCall → Type 0
IsLoan publishing.Idle = ⊥
IsLoan (publishing.LoanReclaims at route p) = Unit {0}
IsLoan publishing.Lending = Unit {0}
IsLoan (publishing.Writing slot word value) = ⊥
IsLoan (publishing.Written slot) = ⊥
IsLoan (publishing.Heading slot word value) = ⊥
IsLoan (publishing.Remembering slot) = ⊥
IsLoan (publishing.SendReclaims slot at route p) = ⊥
IsLoan (publishing.Pushing slot at route push delivery) = ⊥
IsLoan (publishing.Sent slot delivery) = ⊥
IsLoan (publishing.Dropping slot) = ⊥

-- A slot of a publisher that is in a loan is no loan, in no history and held nowhere: what has it was given back, and where the
-- loan has taken back all, nothing has it.
record IsSpare (m : World) (routes : List Route) (book : BookState) (call : PublisherCall) (slot : ℕ) : Type 0 where
  loan : IsLoan call
  own : IsOwn book slot
  out : is_out (entry book.first book.loans slot mark.No) ≡ false
  past : count slot book.history ≡ 0
  back : (at : ℕ) (route : Route) → slice_get routes at ≡ Some route → Back m route.connection slot ≡ one_if (refers_to book at slot)
  swept : (at : ℕ) → at < length routes → HasSwept call at → refers_to book at slot ≡ false

no_one : (b : Bool) → one_if b ≡ 0 → b ≡ false
no_one true h = absurd (omega (arith, h))
no_one false h = refl

-- a change at a place leaves the history
history_after : (here : ℕ) (book : BookState) (c : PublisherChange) → IsChangeAt here c → (changed c book).history ≡ book.history
history_after here book change.Nothing at = refl
history_after here book change.Lend at = absurd at
history_after here book (change.Mark v) at = absurd at
history_after here book (change.Remember v) at = absurd at
history_after here book (change.TakenBack p v) at = refl
history_after here book (change.Put p v) at = refl
history_after here book (change.LeftOut p v) at = refl
history_after here book (change.DropLoan v) at = absurd at

-- what a loan has swept after its step
swept_next : (routes : List Route) (book : BookState) (slot at : ℕ) → at < length routes → length routes < 2 ^ 62
    → ((place : ℕ) → place < length routes → place < at → refers_to book place slot ≡ false) → refers_to book at slot ≡ false
    → (to : Option Route) → slice_get routes (successor at) ≡ to → (place : ℕ) → place < length routes
    → HasSwept (loan_from (successor at) to) place → refers_to book place slot ≡ false
swept_next routes book slot at there few before here to e place below swept = up_to (by_route to e swept)
  where
    next : successor at ≡ at + 1
    next = omega (arith, there, few)

    up_to : place < at + 1 → refers_to book place slot ≡ false
    up_to lt = elim (cases_lt place at) [
      | inl less ↦ before place below less
      | inr ge ↦ let is : at ≡ place = omega (arith, lt, ge) in subst (λ (i : ℕ). refers_to book i slot ≡ false) is here
    ]

    by_route : (to : Option Route) → slice_get routes (successor at) ≡ to → HasSwept (loan_from (successor at) to) place → place < at + 1
    by_route None e h = let all : length routes ≤ successor at = none_within routes (successor at) e in omega (arith, below, all, next)
    by_route (Some r) e h = omega (arith, h, next)

pub loan_next : (n : ℕ) (at : Option Route) → IsLoan (loan_from n at)
loan_next n None = tt
loan_next n (Some route) = tt

-- a step of the loan itself leaves what is no connection's alone
spare_own : (m n : World) (routes : List Route) (book : BookState) (call after : PublisherCall) (c : PublisherChange) (here slot : ℕ)
    → IsSpare m routes book call slot → IsChangeAt here c → put_by c ≡ [] → ChangeFits (length routes) book c
    → UsesCounted (length routes) book
    → IsLoan after → ((at : ℕ) (route : Route) → slice_get routes at ≡ Some route
    → Back n route.connection slot ≡ one_if (refers_to (changed c book) at slot))
    → ((at : ℕ) → at < length routes → HasSwept after at → refers_to book at slot ≡ false) → IsSpare n routes (changed c book) after slot
spare_own m n routes book call after c here slot s is none fits counted loan back swept =
    let same = loans_after here book c is in
    record {
      loan = loan;
      own = own_after here book c slot is s.own;
      out = ap (λ (f : ℕ). is_out (entry f (changed c book).loans slot mark.No)) same.1 ∙ ap
          (λ (l : List _). is_out (entry book.first l slot mark.No)) same.0 ∙ s.out;
      past = ap (count slot) (history_after here book c is) ∙ s.past;
      back = back;
      swept = λ at below h. lacks_after (length routes) here book c at slot is fits counted (inl none) (swept at below h);
    }

-- what a step that takes back leaves among the samples given back
spare_back : (m : World) (who : ℕ) (routes : List Route) (stored : List ℕ) (book : BookState) (at : ℕ) (route : Route) (p : Pop)
    (slot : ℕ) → Setting m who routes stored (publishing.LoanReclaims at route p) → UsesCounted (length routes) book
    → ChangeFits (length routes) book (publisher_change (publishing.LoanReclaims at route p) (told m (publishing.LoanReclaims at route p)))
    → ((place : ℕ) (other : Route) → slice_get routes place ≡ Some other
    → Back m other.connection slot ≡ one_if (refers_to book place slot))
    → (place : ℕ) (other : Route) → slice_get routes place ≡ Some other
    → count slot (given_back (after_shared m.table (publisher_next (publishing.LoanReclaims at route p))) other.connection)
    ≡ one_if (refers_to (changed (publisher_change (publishing.LoanReclaims at route p)
    (told m (publishing.LoanReclaims at route p))) book) place slot)
spare_back m who routes stored book at route p slot k counted fits was place other here =
    let call : PublisherCall = publishing.LoanReclaims at route p in
    let c : PublisherChange = publisher_change call (told m call) in
    let follows = back_follows at (told m call) p in
    let mine : IsLinkOf m.links sender who other = all_at (IsLinkOf m.links sender who) routes place other here k.links in
    let spot : Spot m who routes call place other mine.link (get_or m.orders other.connection [])
    (get_or (added m.orders None m.moments []) other.connection []) =
    record {
      here = here;
      found = mine.found;
      sender_is = mine.own;
      got
          = order_there m other.connection mine.link mine.found k.within;
      after = order_there m other.connection mine.link mine.found k.within;
    } in
    elim (eqb_tells place at) [
      | inl same ↦
          let route_is : route ≡ other = some_is route other (sym k.call_is ∙ ap (slice_get routes) (sym same.1) ∙ here) in
          let size : route.completion_cells ≡ m.table.sizes.completion_cells
          = all_at (λ (r : Route). r.completion_cells ≡ m.table.sizes.completion_cells) routes at route k.call_is k.round in
          let own : IsLinkOf m.links sender who route = all_at (IsLinkOf m.links sender who) routes at route k.call_is k.links in
          let spot_own : Spot m who routes call at route own.link (get_or m.orders route.connection [])
          (get_or (added m.orders None m.moments []) route.connection []) =
          record {
            here = k.call_is;
            found = own.found;
            sender_is = own.own;
            got
                = order_there m route.connection own.link own.found k.within;
            after = order_there m route.connection own.link own.found k.within;
          } in
          let moved = reclaim_moves m.table m.moments route.connection call _ p route.completion_cells size (loan_here at route p)
          (back_seat m route.connection own.link own.found k.some k.within) k.bound
          (returning_here m who routes stored call at route own.link _ _ k spot_own) slot in
          let told_so = refers_there (length routes) at book c follows.at fits counted slot in
          let now : count slot (given_back (after_shared m.table (publisher_next call)) route.connection)
          ≡ one_if (refers_to (changed c book) at slot) =
          omega (arith, moved, told_so, was at route k.call_is, ap (count slot) follows.puts, ap (count slot) follows.loses) in
          subst (λ (r : Route). count slot (given_back (after_shared m.table (publisher_next call)) r.connection)
          ≡ one_if (refers_to (changed c book) place slot)) route_is
          (subst (λ (i : ℕ). count slot (given_back (after_shared m.table (publisher_next call)) route.connection)
          ≡ one_if (refers_to (changed c book) i slot)) (sym same.1) now)
      | inr apart ↦
          let off : reclaims_at call ≡ Some other.connection
          → ⊥ = λ h. apart.1 (sym (k.once at place route other k.call_is here (some_is route.connection other.connection h))) in
          omega (
            arith,
            moves.returned_same m who routes stored call place other mine.link _ _ k spot off slot,
            was place other here,
            ap
                one_if (refers_elsewhere (length routes) at book c follows.at fits place slot apart.1),
          )
    ]

-- a loan's step keeps a spare slot so
spare_step : (m n : World) (who : ℕ) (routes : List Route) (stored : List ℕ) (book : BookState) (call : PublisherCall) (slot : ℕ)
    → Setting m who routes stored call → UsesCounted (length routes) book
    → ChangeFits (length routes) book (publisher_change call (told m call))
    → CallGoes book call
    → ((connection : ℕ) → Back n connection slot ≡ count slot (given_back (after_shared m.table (publisher_next call)) connection))
    → publisher_is_idle (publisher_take routes stored call (told m call)) ≡ false
    → IsSpare m routes book call slot → IsSpare n routes (changed (publisher_change call (told m call)) book)
    (publisher_take routes stored call (told m call)) slot
spare_step m n who routes stored book publishing.Idle slot k counted fits goes same busy z = absurd z.loan
spare_step m n who routes stored book (publishing.Writing s word value) slot k counted fits goes same busy z = absurd z.loan
spare_step m n who routes stored book (publishing.Written s) slot k counted fits goes same busy z = absurd z.loan
spare_step m n who routes stored book (publishing.Heading s word value) slot k counted fits goes same busy z = absurd z.loan
spare_step m n who routes stored book (publishing.Remembering s) slot k counted fits goes same busy z = absurd z.loan
spare_step m n who routes stored book (publishing.SendReclaims s at route p) slot k counted fits goes same busy z = absurd z.loan
spare_step m n who routes stored book (publishing.Pushing s at route push delivery) slot k counted fits goes same busy z = absurd z.loan
spare_step m n who routes stored book (publishing.Sent s delivery) slot k counted fits goes same busy z = absurd z.loan
spare_step m n who routes stored book (publishing.Dropping s) slot k counted fits goes same busy z = absurd z.loan
spare_step m n who routes stored book publishing.Lending slot k counted fits goes same busy z = absurd (cc busy)
spare_step m n who routes stored book (publishing.LoanReclaims at route pop.Idle) slot k counted fits goes same busy z = absurd goes
spare_step m n who routes stored book (publishing.LoanReclaims at route (pop.Popped got)) slot k counted fits goes same busy z = absurd goes
spare_step m n who routes stored book (publishing.LoanReclaims at route pop.LookBegun) slot k counted fits goes same busy z = absurd goes
spare_step m n who routes stored book (publishing.LoanReclaims at route (pop.LookRead seen)) slot k counted fits goes same busy z
    = absurd goes
spare_step m n who routes stored book (publishing.LoanReclaims at route (pop.Looked some)) slot k counted fits goes same busy z
    = absurd goes
spare_step m n who routes stored book (publishing.LoanReclaims at route pop.Begun) slot k counted fits goes same busy z =
    spare_own m n routes book (publishing.LoanReclaims at route pop.Begun) _ change.Nothing at slot z tt refl tt counted tt
    (λ place other here. same other.connection ∙ z.back place other here) z.swept
spare_step m n who routes stored book (publishing.LoanReclaims at route (pop.SawRead seen)) slot k counted fits goes same busy z =
    by_test (told m (publishing.LoanReclaims at route (pop.SawRead seen)) == seen)
    (λ e. back_empty m who routes stored at route seen k e slot)
  where
    back : (place : ℕ) (other : Route) → slice_get routes place ≡ Some other
        → Back n other.connection slot ≡ one_if (refers_to book place slot)
    back place other here = same other.connection ∙ z.back place other here

    by_test : (b : Bool) → (b ≡ true → Back m route.connection slot ≡ 0)
        → IsSpare n routes (changed (taken_back at (refusing_pop_answer (refusing.pop_emptied b seen))) book)
        (loan_reclaimed routes at route (refusing.pop_emptied b seen) (refusing_pop_answer (refusing.pop_emptied b seen))) slot
    by_test true none =
        let there : at < length routes = slice_get_within routes at route k.call_is in
        let empty : refers_to book at slot ≡ false = no_one (refers_to book at slot) (sym (z.back at route k.call_is) ∙ none refl) in
        spare_own m n routes book (publishing.LoanReclaims at route (pop.SawRead seen)) _ change.Nothing at slot z tt refl tt counted
        (loan_next (successor at) (slice_get routes (successor at))) back
        (λ place below h. swept_next routes book slot at there counted.few (λ p lt before. z.swept p lt before) empty
        (slice_get routes (successor at)) refl place below h)
    by_test false none = spare_own m n routes book (publishing.LoanReclaims at route (pop.SawRead seen)) _ change.Nothing at slot z tt
        refl tt counted tt back z.swept
spare_step m n who routes stored book (publishing.LoanReclaims at route (pop.Nonempty seen next)) slot k counted fits goes same busy z =
    spare_own m n routes book (publishing.LoanReclaims at route (pop.Nonempty seen next)) _ change.Nothing at slot z tt refl tt counted
    tt (λ place other here. same other.connection ∙ z.back place other here) z.swept
spare_step m n who routes stored book (publishing.LoanReclaims at route (pop.SawCell next value)) slot k counted fits goes same busy z =
    spare_own m n routes book (publishing.LoanReclaims at route (pop.SawCell next value)) _ (change.TakenBack at value) at slot z refl
    refl fits counted tt
    (λ place other here. same other.connection ∙ spare_back m who routes stored book at route (pop.SawCell next value) slot k counted
    fits z.back place other here) z.swept

-- what every step keeps of a spare slot while its publisher is in the loan
record Spared (place first slot : ℕ) (m : World) : Type 0 where
  kept : IsKept m
  past : first < m.moments
  spare : (lane : PublisherLaneState) → slice_get m.publishers place ≡ Some lane → lane.first ≡ first
      → publisher_is_idle lane.port.call ≡ false → IsSpare m lane.port.routes lane.port.book lane.port.call slot

-- the step of another party
spare_stays : (m n : World) (place slot : ℕ) (lane : PublisherLaneState) → slice_get m.publishers place ≡ Some lane
    → slice_get n.publishers place ≡ Some lane → IsKept m → IsKept n → n.moments ≤ 2 ^ 63
    → ((connection : ℕ) (link : LinkState) → slice_get m.links connection ≡ Some link → link.publisher ≡ place
    → Back m connection slot ≤ Back n connection slot)
    → IsSpare m lane.port.routes lane.port.book lane.port.call slot → IsSpare n lane.port.routes lane.port.book lane.port.call slot
spare_stays m n place slot lane found now k kept few grows z = record {
  loan = z.loan;
  own = z.own;
  out = z.out;
  past = z.past;
  swept = z.swept;
  back = λ at route here.
      let mine : IsLinkOf m.links sender place route
      = all_at (IsLinkOf m.links sender place) lane.port.routes at route here ((k.within).senders place lane found) in
      let after : IsLinkOf n.links sender place route
      = all_at (IsLinkOf n.links sender place) lane.port.routes at route here ((kept.within).senders place lane now) in
      let got = order_there n route.connection after.link after.found kept.within in
      let balanced = ((kept.uses few).publishers place lane now).balanced at route after.link _ here after.found got slot in
      omega (arith, grows route.connection mine.link mine.found mine.own, z.back at route here, balanced);
}

spared_on : (place first slot : ℕ) (m : World) (party : Party) (step : Move) → fits m party step ≡ true → m.moments < 2 ^ 63
    → Spared place first slot m → Spared place first slot (happens m party step)
spared_on place first slot m party step fit bound p =
    let next : (happens m party step).moments ≡ m.moments + 1 = happens_moments m party step fit ∙ one_more m.moments bound in
    let few : m.moments ≤ 2 ^ 63 = omega (arith, bound) in
    let kept : IsKept (happens m party step) = happens_keeps m party step fit p.kept in
    record {
      kept = kept;
      past = omega (arith, next, p.past);
      spare = λ lane found since busy. elim (turn m party step place fit) [
        | inl same ↦
            let was : slice_get m.publishers place ≡ Some lane = sym same.0 ∙ found in
            spare_stays m (happens m party step) place slot lane was found p.kept kept (omega (arith, next, bound))
            (λ connection link there is. others_back m party step place connection slot link fit p.kept bound there is same.1)
            (p.spare lane was since busy)
        | inr (inl began) ↦
            let is : publisher_begun m.moments began.0 began.1 ≡ lane = some_is _ lane (sym began.4 ∙ found) in
            let now : m.moments ≡ first = sym (begun_first m.moments began.0 began.1 began.3) ∙ ap (λ (x : PublisherLaneState). x.first)
            is ∙ since in
            absurd (omega (arith, now, p.past))
        | inr (inr went) ↦
            let is : publisher_after (publisher_given m.table went.0) went.0 ≡ lane = some_is _ lane (sym went.3 ∙ found) in
            let was = p.spare went.0 went.1 (ap (λ (x : PublisherLaneState). x.first) is ∙ since) went.2 in
            let setting = publishers.setting_of m place went.0 went.1 bound p.kept.within (p.kept.rings few) p.kept.returns
            (p.kept.returns.rings few) (sends_connected m (p.kept.sends few)) in
            let uses = (p.kept.uses few).publishers place went.0 went.1 in
            let fit' = publishers.change_fits m place went.0.port.routes (words_of went.0.port) went.0.port.book went.0.port.call
            setting (p.kept.loans.stages place went.0 went.1) uses.lacking uses.balanced in
            subst (λ (x : PublisherLaneState). IsSpare (happens m party step) x.port.routes x.port.book x.port.call slot) is
            (spare_step m (happens m party step) place went.0.port.routes (words_of went.0.port) went.0.port.book went.0.port.call slot
            setting uses.counted fit' ((p.kept.rooms few).publishers place went.0 went.1).takes
            (λ connection. ap (λ (t : TableWords). count slot (given_back t connection)) went.5)
            (ap (λ (x : PublisherLaneState). publisher_is_idle x.port.call) is ∙ busy) was)
      ];
    }

all_spared : (place first slot : ℕ) (m : World) (entries : List Entry) → (led m entries).moments ≤ 2 ^ 63 → Spared place first slot m
    → Spared place first slot (led m entries)
all_spared place first slot m [] few p = p
all_spared place first slot m (entry ∷ entries) few p =
    all_spared place first slot (after_entry (fits m entry.party entry.step) m entry) entries few
    (by_fit (fits m entry.party entry.step) refl (later (after_entry (fits m entry.party entry.step) m entry) entries few))
  where
    by_fit : (b : Bool) → fits m entry.party entry.step ≡ b → (after_entry b m entry).moments ≤ (led m (entry ∷ entries)).moments
        → Spared place first slot (after_entry b m entry)
    by_fit true e h = spared_on place first slot m entry.party entry.step e
        (omega (arith, happens_moments m entry.party entry.step e, h, few)) p
    by_fit false e h = p

-- whether something of a slot is held at the connection of a place
abbrev held_at : World → BookState → ℕ → ℕ → Option Route → Bool
held_at m book slot at None = false
held_at m book slot at (Some route) = nat_lt (Back m route.connection slot) (one_if (refers_to book at slot))

begin_sweeps_none : (routes : List Route) (at : Option Route) → slice_get routes 0 ≡ at → (place : ℕ) → place < length routes
    → HasSwept (loan_from 0 at) place → ⊥
begin_sweeps_none routes None e place below h = let none : length routes ≤ 0 = none_within routes 0 e in absurd (omega (arith, below, none))
begin_sweeps_none routes (Some route) e place below h = absurd (omega (arith, h))

-- a slot is held at a connection if it stands there and was not given back
is_held : (m : World) (place slot at : ℕ) (lane : PublisherLaneState) → slice_get m.publishers place ≡ Some lane → IsKept m
    → m.moments ≤ 2 ^ 63 → (to : Option Route) → slice_get lane.port.routes at ≡ to → held_at m lane.port.book slot at to ≡ true
    → IsHeld m slot
is_held m place slot at lane found k few None here held = absurd (cc held)
is_held m place slot at lane found k few (Some route) here held =
    let mine : IsLinkOf m.links sender place route
    = all_at (IsLinkOf m.links sender place) lane.port.routes at route here ((k.within).senders place lane found) in
    let got = order_there m route.connection mine.link mine.found k.within in
    let balanced = ((k.uses few).publishers place lane found).balanced at route mine.link (get_or m.orders route.connection []) here
    mine.found got slot in
    let less : Back m route.connection slot < one_if (refers_to lane.port.book at slot)
    = ltb-true (Back m route.connection slot) (one_if (refers_to lane.port.book at slot)) held in
    let sends : publisher_stage (slice_get m.publishers mine.link.publisher) ≡ lane.port.call
    = ap publisher_stage (ap (slice_get m.publishers) mine.own ∙ found) in
    record {
      connection = route.connection;
      link = mine.link;
      order = get_or m.orders route.connection [];
      found = mine.found;
      got = got;
      has = omega (arith, balanced, less, ap (λ (c : PublisherCall). count slot (aside_at m.table route.connection mine.link c)) sends);
    }

-- else all of it that a connection has was given back
is_back : (m : World) (place slot at : ℕ) (lane : PublisherLaneState) (route : Route) → slice_get m.publishers place ≡ Some lane
    → IsKept m → m.moments ≤ 2 ^ 63 → slice_get lane.port.routes at ≡ Some route → held_at m lane.port.book slot at (Some route) ≡ false
    → Back m route.connection slot ≡ one_if (refers_to lane.port.book at slot)
is_back m place slot at lane route found k few here none =
    let mine : IsLinkOf m.links sender place route
    = all_at (IsLinkOf m.links sender place) lane.port.routes at route here ((k.within).senders place lane found) in
    let got = order_there m route.connection mine.link mine.found k.within in
    let balanced = ((k.uses few).publishers place lane found).balanced at route mine.link (get_or m.orders route.connection []) here
    mine.found got slot in
    omega (arith, balanced, ltb-false (Back m route.connection slot) (one_if (refers_to lane.port.book at slot)) none)

-- a loan that has a spare slot does not end without one
spare_found : (m : World) (place : ℕ) (slot : ℕ) (lane : PublisherLaneState) (ended : FinishedCall)
    → slice_get m.publishers place ≡ Some lane → IsKept m → m.moments ≤ 2 ^ 63
    → IsSpare m lane.port.routes lane.port.book lane.port.call slot
    → (happens m (Publisher place) GoOn).finished ≡ m.finished ++ ended ∷ [] → ended.answer ≡ answer.Lent loan.OutOfMemory → ⊥
spare_found m place slot lane ended found k few z more full =
    let end = goes m place (slice_get m.publishers place) lane ended refl found more in
    let says = lends_at lane.fails lane.port.call (publisher_after (publisher_given m.table lane) lane).port.book.answer
    loan.OutOfMemory (end.answered ∙ ap (λ (a : Answer). Some a) full) in
    let book_is : (publisher_after (publisher_given m.table lane) lane).port.book ≡ lent lane.port.book
    = ap (λ (c : PublisherCall). changed (publisher_change c (publisher_given m.table lane)) lane.port.book) says.0 in
    let counted = ((k.uses few).publishers place lane found).counted in
    let swept : (at : ℕ) → at < length lane.port.routes
    → refers_to lane.port.book at slot ≡ false
    = λ at below. z.swept at below (subst (λ (c : PublisherCall). HasSwept c at) (sym says.0) tt) in
    let nowhere : references lane.port.book.first (length lane.port.book.uses) lane.port.book.referred (length lane.port.routes) slot ≡ 0 =
    total_is (λ at. refers_to lane.port.book at slot) (length lane.port.routes) ∙ sum_none
    (λ at. one_if (refers_to lane.port.book at slot)) (length lane.port.routes) (λ at below. ap one_if (swept at below)) in
    let free : entry lane.port.book.first lane.port.book.uses slot 0 ≡ 0
    = omega (arith, (counted.each slot).counted, ap one_if z.out, z.past, nowhere) in
    elim (finds lane.port.book loan.OutOfMemory (ap (λ (b : BookState). parties.lent b.answer) (sym book_is) ∙ says.1)) [
      | inl none ↦
          let is = entry_is lane.port.book.first slot lane.port.book.uses 0 z.own.above in
          absurd (omega (
            arith,
            free,
            is,
            none_free lane.port.book.uses 0 (slot - lane.port.book.first) none.1
                (omega (arith, z.own.above, z.own.below)),
          ))
      | inr (inl lends) ↦ absurd (cc lends.1.2)
      | inr (inr refused) ↦ absurd (cc refused.1)
    ]

begun_table : (m : World) (place : ℕ) (c : Call) (at : Option PublisherLaneState) → (publisher_begins m place c at).table ≡ m.table
begun_table m place c None = refl
begun_table m place c (Some lane) = refl

-- a slot is in use, or spare
decide : (m : World) (place slot : ℕ) (lane : PublisherLaneState) → slice_get m.publishers place ≡ Some lane → IsKept m → m.moments ≤ 2 ^ 63
    → (is_out (entry lane.port.book.first lane.port.book.loans slot mark.No) ≡ false → count slot lane.port.book.history ≡ 0
    → ((at : ℕ) (route : Route) → slice_get lane.port.routes at ≡ Some route
    → Back m route.connection slot ≡ one_if (refers_to lane.port.book at slot)) → ⊥)
    → IsInUse m lane slot
decide m place slot lane found k few spare = by_loan (is_out (entry lane.port.book.first lane.port.book.loans slot mark.No)) refl
  where
    test : ℕ → Bool
    test at = held_at m lane.port.book slot at (slice_get lane.port.routes at)

    by_loan : (b : Bool) → is_out (entry lane.port.book.first lane.port.book.loans slot mark.No) ≡ b → IsInUse m lane slot
    by_loan true e = inl e
    by_loan false e = elim (cases_lt 0 (count slot lane.port.book.history)) [
      | inl lt ↦ inr (inl lt)
      | inr none ↦ elim (cases_lt 0 (total test (length lane.port.routes))) [
        | inl some ↦
            let at = some_place test (length lane.port.routes) some in
            inr (inr (is_held m place slot at.0 lane found k few (slice_get lane.port.routes at.0) refl at.2))
        | inr nothing ↦ absurd (spare e (omega (arith, none)) (λ at route here.
            let off : test at ≡ false = total_none test (length lane.port.routes) at (omega (arith, nothing))
            (slice_get_within lane.port.routes at route here) in
            is_back m place slot at lane route found k few here (ap (held_at m lane.port.book slot at) (sym here) ∙ off)))
      ]
    ]

pub loans_find_all_used : LoansFindAllUsed
loans_find_all_used = λ m came place entries fit few inside ended more full lane found slot own.
    let k = came_kept m came in
    let next = happens_moments m (Publisher place) (Begin call.LoanUninit) fit in
    let after = later (happens m (Publisher place) (Begin call.LoanUninit)) entries few in
    let bound : m.moments < 2 ^ 63 = omega (arith, next, after, few) in
    decide m place slot lane found k.0 (omega (arith, bound)) (λ out past back.
    let began = may_begin m place call.LoanUninit (slice_get m.publishers place) refl fit in
    let same : lane ≡ began.0 = some_is lane began.0 (sym found ∙ began.1) in
    let start : Spared place m.moments slot (happens m (Publisher place) (Begin call.LoanUninit)) = record {
      kept = happens_keeps m (Publisher place) (Begin call.LoanUninit) fit k.0;
      past = omega (arith, next, one_more m.moments bound);
      spare = λ now there since busy.
          let is : publisher_begun m.moments call.LoanUninit lane ≡ now
          = ap (publisher_begun m.moments call.LoanUninit) same ∙ some_is _ now (sym began.3 ∙ there) in
          subst (λ (x : PublisherLaneState). IsSpare (happens m (Publisher place) (Begin call.LoanUninit)) x.port.routes x.port.book
          x.port.call slot) is
          (record {
            loan = loan_next 0 (slice_get lane.port.routes 0);
            own = own;
            out = out;
            past = past;
            back = λ at route here. ap (λ (t : TableWords). count slot (given_back t route.connection))
                (begun_table m place call.LoanUninit (slice_get m.publishers place)) ∙ back at route here;
            swept = λ at below h. absurd (begin_sweeps_none lane.port.routes (slice_get lane.port.routes 0) refl at below h);
          });
    } in
    let end = all_spared place m.moments slot (happens m (Publisher place) (Begin call.LoanUninit)) entries few start in
    spare_found (led (happens m (Publisher place) (Begin call.LoanUninit)) entries) place slot inside.lane ended inside.found end.kept
    few (end.spare inside.lane inside.found inside.since inside.busy) more full)
