-- The samples given back at a connection are a queue.
use Rattle.std.proofs.Common.{ℕ, ◌≡◌, ◌+◌, ◌<◌, ◌≤◌, ◌^◌, ◌==◌, Bool, true, false, List, [], ◌∷◌, ◌++◌, length, slice_get, Option, Some}
use Rattle.std.proofs.Common.{None, refl, sym, ◌∙◌, ap, subst, inl, inr, arith}
use Rattle.std.proofs.lemmas.Bool.Decides.{eqb_tells}
use Rattle.std.proofs.lemmas.List.{append-nil}
use Rattle.iox_lanes_machine.specs.QueuesSteps.Access.{RingWords, answer_of, after_access}
use Rattle.iox_lanes_machine.specs.QueuesSteps.declared.schedule.Stepped.{Stepped}
use Rattle.iox_lanes_machine.specs.QueuesSteps.declared.schedule.Stepped.TheVariants as stepped
use Rattle.iox_lanes_machine.specs.QueuesSteps.Refusing as refusing
use Rattle.iox_lanes_machine.specs.QueuesSteps.declared.rings.refusing.pop.Pop.{Pop}
use Rattle.iox_lanes_machine.specs.QueuesSteps.declared.rings.refusing.pop.Pop.TheVariants as pop
use Rattle.iox_lanes_machine.specs.QueuesSteps.declared.rings.refusing.push.Push.{Push}
use Rattle.iox_lanes_machine.specs.QueuesSteps.declared.rings.refusing.push.Push.TheVariants as push
use Rattle.iox_lanes_machine.proofs.QueuesSteps.RefusingSteps as refusing_steps
use Rattle.iox_lanes_machine.specs.LanesBase.Table.{TableWords, after_shared}
use Rattle.iox_lanes_machine.specs.LanesBase.Words.{on_ring}
use Rattle.iox_lanes_machine.specs.LanesBase.declared.words.word.ConnectionRing.TheVariants.{Completion}
use Rattle.iox_lanes_machine.specs.LanesBase.Publishing.{publisher_next, publisher_change}
use Rattle.iox_lanes_machine.specs.LanesBase.Subscribing.{subscriber_next, subscriber_change, given_back_by}
use Rattle.iox_lanes_machine.specs.LanesBase.declared.calls.publisher.PublisherCall.{PublisherCall}
use Rattle.iox_lanes_machine.specs.LanesBase.declared.calls.publisher.PublisherCall.TheVariants as publishing
use Rattle.iox_lanes_machine.specs.LanesBase.declared.calls.publisher.PublisherChange.{PublisherChange}
use Rattle.iox_lanes_machine.specs.LanesBase.declared.calls.publisher.PublisherChange.TheVariants as change
use Rattle.iox_lanes_machine.specs.LanesBase.declared.calls.subscriber.SubscriberCall.{SubscriberCall}
use Rattle.iox_lanes_machine.specs.LanesBase.declared.calls.subscriber.SubscriberCall.TheVariants as subscribing
use Rattle.iox_lanes_machine.specs.LanesBase.declared.calls.route.Route.{Route}
use Rattle.iox_lanes_machine.specs.LanesParties.PublisherKeeping.{BookState, changed}
use Rattle.iox_lanes_machine.specs.LanesParties.Publishers.{words_of}
use Rattle.iox_lanes_machine.specs.LanesParties.Parties.{PublisherLaneState, SubscriberLaneState, publisher_after, subscriber_after}
use Rattle.iox_lanes_machine.specs.LanesParties.Within.{IsPublisher, IsPublishing, IsSubscribing}
use Rattle.iox_lanes_machine.specs.LanesParties.declared.call.Call.{Call}
use Rattle.iox_lanes_machine.specs.LanesParties.declared.call.Move.{Move}
use Rattle.iox_lanes_machine.specs.LanesParties.declared.call.Move.TheVariants.{Begin, GoOn}
use Rattle.iox_lanes_machine.specs.LanesParties.declared.call.Party.{Party}
use Rattle.iox_lanes_machine.specs.LanesParties.declared.call.Party.TheVariants.{Publisher, Subscriber}
use Rattle.iox_lanes_machine.proofs.LanesParties.Rings.{all_at}
use Rattle.iox_lanes_machine.specs.Borrowing.{borrows, UsesBorrowed}
use Rattle.iox_lanes_machine.specs.Stored.{between}
use Rattle.iox_lanes_machine.specs.LedgerUses.{one_if, count, refers_to, UsesCounted, ChangeFits}
use Rattle.iox_lanes_machine.proofs.Changes.{refers_there, release_follows}
use Rattle.iox_lanes_machine.proofs.Queue.{takes_first, puts_last}
use Rattle.iox_lanes_machine.proofs.Rings.{between_is, taking_refusing, storing_refusing}
use Rattle.iox_lanes_machine.proofs.Samples.{Changes, own_there, gives_fit}
use Rattle.iox_lanes_machine.specs.Kept.{IsKept, IsLinkOf, sender, receiver}
use Rattle.iox_lanes_machine.specs.Queues.{QueueMoves, GivenBackInTurn}
use Rattle.iox_lanes_machine.specs.Returns.{back_ring, reclaim_on, release_on, IsReturning}
use Rattle.iox_lanes_machine.specs.Uses.{given_back}
use Rattle.iox_lanes_machine.specs.World.{World, fits, happens, StepsTo, placed, publisher_stage, subscriber_stage, publisher_given}
use Rattle.iox_lanes_machine.specs.World.{publisher_begins, publisher_goes_on, publisher_fits_at, subscriber_given, subscriber_begins}
use Rattle.iox_lanes_machine.specs.World.{subscriber_goes_on, subscriber_fits_at}
use Rattle.iox_lanes_machine.proofs.Connected.{sends_connected}
use Rattle.iox_lanes_machine.specs.Links.{LinkState}
use Rattle.iox_lanes_machine.proofs.Ends.{some_is}
use Rattle.iox_lanes_machine.proofs.InTable.{IsSeat, access_after, access_elsewhere}
use Rattle.iox_lanes_machine.proofs.PublisherUses as publishers
use Rattle.iox_lanes_machine.proofs.Returns.{reclaims_at, releases_at, loan_here, send_here, release_here, publisher_off, subscriber_off}
use Rattle.iox_lanes_machine.proofs.ReturnSteps.{back_seat}
use Rattle.iox_lanes_machine.proofs.SlotMoves as moves
use Rattle.iox_lanes_machine.proofs.SlotMoves.{told}
use Rattle.iox_lanes_machine.proofs.Standing.{back_is}
use Rattle.iox_lanes_machine.proofs.Steps.{happens_moments}
use Rattle.iox_lanes_machine.proofs.SubscriberUses as subscribers
use Rattle.iox_lanes_machine.proofs.Within.{set_same}

-- a pop that takes back takes the first
pop_list : (table : TableWords) (moments connection : ℕ) (sends : PublisherCall) (receives : SubscriberCall) (c : Pop) (cells : ℕ)
    → cells ≡ table.sizes.completion_cells → reclaim_on connection sends ≡ c
    → IsSeat Completion table connection table.sizes.completion_cells → moments < 2 ^ 63
    → IsReturning table.sizes.completion_cells table moments connection sends receives
    → given_back table connection ≡ taking_refusing c
    ++ given_back (after_shared table (on_ring connection Completion cells (refusing.pop_next c))) connection
pop_list table moments connection sends receives c cells size is st bound k =
    subst (λ (n : ℕ). given_back table connection ≡ taking_refusing c
    ++ given_back (after_shared table (on_ring connection Completion n (refusing.pop_next c))) connection) (sym size) exact
  where
    exact : given_back table connection ≡ taking_refusing c
        ++ given_back (after_shared table (on_ring connection Completion table.sizes.completion_cells (refusing.pop_next c))) connection
    exact =
        let words : RingWords = back_ring table connection table.sizes.completion_cells in
        let given : Push = release_on connection receives in
        let shape : refusing.Shape table.sizes.completion_cells words k.list given c
        = subst (λ (x : Pop). refusing.Shape table.sizes.completion_cells words k.list given x) is k.shape in
        let g = refusing_steps.pop_goes table.sizes.completion_cells words k.list given c (omega (arith, k.few, bound)) shape in
        let after : after_access words (refusing.pop_next c)
        ≡ back_ring (after_shared table (on_ring connection Completion table.sizes.completion_cells (refusing.pop_next c)))
        connection table.sizes.completion_cells
        = access_after Completion table connection table.sizes.completion_cells (refusing.pop_next c) st in
        let now : g.list ≡ given_back (after_shared table
        (on_ring connection Completion table.sizes.completion_cells (refusing.pop_next c))) connection =
        sym (between_is table.sizes.completion_cells (after_access words (refusing.pop_next c)) g.list given
        (refusing.pop_take c (answer_of words (refusing.pop_next c))) g.shape)
        ∙ ap between after ∙ sym (back_is table (on_ring connection Completion table.sizes.completion_cells (refusing.pop_next c))
        connection) in
        between_is table.sizes.completion_cells words k.list given c shape ∙ takes_first table.sizes.completion_cells words.write k.list
        c g.acts ∙ ap (λ (q : List ℕ). taking_refusing c ++ q) (g.after ∙ now)

-- a release puts its sample after the others
push_list : (table : TableWords) (moments connection : ℕ) (sends : PublisherCall) (receives : SubscriberCall) (p : Push) (cells : ℕ)
    → cells ≡ table.sizes.completion_cells → release_on connection receives ≡ p
    → IsSeat Completion table connection table.sizes.completion_cells → moments < 2 ^ 63
    → IsReturning table.sizes.completion_cells table moments connection sends receives
    → given_back (after_shared table (on_ring connection Completion cells (refusing.push_next p))) connection
    ≡ given_back table connection ++ storing_refusing p
push_list table moments connection sends receives p cells size is st bound k =
    subst (λ (n : ℕ). given_back (after_shared table (on_ring connection Completion n (refusing.push_next p))) connection
    ≡ given_back table connection ++ storing_refusing p) (sym size) exact
  where
    exact : given_back (after_shared table (on_ring connection Completion table.sizes.completion_cells (refusing.push_next p)))
        connection ≡ given_back table connection ++ storing_refusing p
    exact =
        let words : RingWords = back_ring table connection table.sizes.completion_cells in
        let taking : Pop = reclaim_on connection sends in
        let shape : refusing.Shape table.sizes.completion_cells words k.list p taking
        = subst (λ (x : Push). refusing.Shape table.sizes.completion_cells words k.list x taking) is k.shape in
        let g = refusing_steps.push_goes table.sizes.completion_cells words k.list p taking (omega (arith, k.few, bound)) shape in
        let after : after_access words (refusing.push_next p)
        ≡ back_ring (after_shared table (on_ring connection Completion table.sizes.completion_cells (refusing.push_next p)))
        connection table.sizes.completion_cells
        = access_after Completion table connection table.sizes.completion_cells (refusing.push_next p) st in
        let now : g.list ≡ given_back (after_shared table
        (on_ring connection Completion table.sizes.completion_cells (refusing.push_next p))) connection =
        sym (between_is table.sizes.completion_cells (after_access words (refusing.push_next p)) g.list
        (refusing.push_take p (answer_of words (refusing.push_next p))) taking g.shape)
        ∙ ap between after ∙ sym (back_is table (on_ring connection Completion table.sizes.completion_cells (refusing.push_next p))
        connection) in
        sym now ∙ sym g.after ∙ puts_last table.sizes.completion_cells words.read k.list p g.acts ∙ ap
        (λ (q : List ℕ). q ++ storing_refusing p) (sym (between_is table.sizes.completion_cells words k.list p taking shape))

one_gone : (b b' : Bool) (n : ℕ) → 0 < n → one_if b' + n ≡ one_if b + 0 → (b ≡ true) × (b' ≡ false)
one_gone true true n some e = absurd (omega (arith, some, e))
one_gone true false n some e = (refl, refl)
one_gone false true n some e = absurd (omega (arith, e))
one_gone false false n some e = absurd (omega (arith, some, e))

one_here : (x : ℕ) → 0 < count x (x ∷ [])
one_here x = elim (eqb_tells x x) [
  | inl same ↦ omega (arith, ap one_if same.0)
  | inr other ↦ absurd (other.1 refl)
]

eqb_here : (x : ℕ) → (x == x) ≡ true
eqb_here x = elim (eqb_tells x x) [
  | inl same ↦ same.0
  | inr other ↦ absurd (other.1 refl)
]

-- what the step of a publisher that takes back does at its connection
taking_moves : (m : World) (own place : ℕ) (lane : PublisherLaneState) (route : Route) (link : LinkState) (n : World) (p : Pop)
    → slice_get m.publishers own ≡ Some lane → slice_get n.publishers own ≡ Some (publisher_after (publisher_given m.table lane) lane)
    → link.publisher ≡ own
    → slice_get lane.port.routes place ≡ Some route → UsesCounted (length lane.port.routes) lane.port.book
    → ((value next : ℕ) → p ≡ pop.SawCell next value
    → (publisher_change lane.port.call (told m lane.port.call) ≡ change.TakenBack place value))
    → ChangeFits (length lane.port.routes) lane.port.book (publisher_change lane.port.call (told m lane.port.call))
    → given_back m.table route.connection ≡ taking_refusing p ++ given_back n.table route.connection
    → QueueMoves m (Publisher own) n route.connection link
taking_moves m own place lane route link n pop.Idle e now is here counted does fit list = inl (sym list)
taking_moves m own place lane route link n pop.Begun e now is here counted does fit list = inl (sym list)
taking_moves m own place lane route link n (pop.SawRead seen) e now is here counted does fit list = inl (sym list)
taking_moves m own place lane route link n (pop.Nonempty seen next) e now is here counted does fit list = inl (sym list)
taking_moves m own place lane route link n (pop.SawCell next value) e now is here counted does fit list =
    let done = does value next refl in
    let fit' : ChangeFits (length lane.port.routes) lane.port.book (change.TakenBack place value)
    = subst (ChangeFits (length lane.port.routes) lane.port.book) done fit in
    let gone = one_gone (refers_to lane.port.book place value)
    (refers_to (changed (change.TakenBack place value) lane.port.book) place value) (count value (value ∷ [])) (one_here value)
    (refers_there (length lane.port.routes) place lane.port.book (change.TakenBack place value) refl fit' counted value) in
    inr (inr (
      value,
      ap Publisher (sym is),
      list,
      record {
        before = lane;
        after = publisher_after (publisher_given m.table lane) lane;
        found = ap (slice_get m.publishers) is ∙ e;
        now = ap (slice_get n.publishers) is ∙ now;
        place = place;
        route = route;
        at = here;
        same = refl;
        had = gone.0;
        lacks = subst (λ (b : BookState). refers_to b place value ≡ false)
            (ap (λ (c : PublisherChange). changed c lane.port.book) (sym done)) gone.1;
      },
    ))
taking_moves m own place lane route link n (pop.Popped got) e now is here counted does fit list = inl (sym list)
taking_moves m own place lane route link n pop.LookBegun e now is here counted does fit list = inl (sym list)
taking_moves m own place lane route link n (pop.LookRead seen) e now is here counted does fit list = inl (sym list)
taking_moves m own place lane route link n (pop.Looked some) e now is here counted does fit list = inl (sym list)

-- a publisher's step
publisher_queue : (m : World) (own : ℕ) (lane : PublisherLaneState) (n : World) (connection : ℕ) (link : LinkState)
    → slice_get m.publishers own ≡ Some lane → m.moments < 2 ^ 63 → IsKept m → slice_get m.links connection ≡ Some link
    → slice_get n.publishers own ≡ Some (publisher_after (publisher_given m.table lane) lane)
    → n.table ≡ after_shared m.table (publisher_next lane.port.call) → QueueMoves m (Publisher own) n connection link
publisher_queue m own lane n connection link e bound k found now table_is = by_call lane.port.call refl
  where
    few : m.moments ≤ 2 ^ 63
    few = omega (arith, bound)

    in_table : IsPublisher m.table.sizes lane
    in_table = all_at (IsPublisher m.table.sizes) m.publishers own lane e (k.within).publishers

    setting : moves.Setting m own lane.port.routes (words_of lane.port) lane.port.call
    setting = publishers.setting_of m own lane e bound k.within (k.rings few) k.returns (k.returns.rings few)
        (sends_connected m (k.sends few))

    fit : ChangeFits (length lane.port.routes) lane.port.book (publisher_change lane.port.call (told m lane.port.call))
    fit = let uses = (k.uses few).publishers own lane e in publishers.change_fits m own lane.port.routes (words_of lane.port)
        lane.port.book lane.port.call setting (k.loans.stages own lane e) uses.lacking uses.balanced

    counted : UsesCounted (length lane.port.routes) lane.port.book
    counted = ((k.uses few).publishers own lane e).counted

    elsewhere : (reclaims_at lane.port.call ≡ Some connection → ⊥) → QueueMoves m (Publisher own) n connection link
    elsewhere off = inl (ap (λ (t : TableWords). given_back t connection) table_is ∙ back_is m.table (publisher_next lane.port.call)
        connection
        ∙ ap between (access_elsewhere Completion m.table connection m.table.sizes.completion_cells (publisher_next lane.port.call)
        (back_seat m connection link found k.returns.some k.within)
        (publisher_off m.table connection lane.port.call off setting.access)))

    takes : (c : PublisherCall) (at : ℕ) (route : Route) (p : Pop) → lane.port.call ≡ c → reclaim_on route.connection c ≡ p
        → slice_get lane.port.routes at ≡ Some route
        → publisher_next c ≡ on_ring route.connection Completion route.completion_cells (refusing.pop_next p)
        → ((value next : ℕ) → p ≡ pop.SawCell next value → publisher_change c (told m c) ≡ change.TakenBack at value)
        → (other : LinkState) → slice_get m.links route.connection ≡ Some other → QueueMoves m (Publisher own) n route.connection other
    takes c at route p stage is here next does other there =
        let mine : IsLinkOf m.links sender own route = all_at (IsLinkOf m.links sender own) lane.port.routes at route here setting.links in
        let same : mine.link ≡ other = some_is mine.link other (sym mine.found ∙ there) in
        let who : other.publisher ≡ own = ap sender (sym same) ∙ mine.own in
        let sends : publisher_stage (slice_get m.publishers other.publisher) ≡ c
        = ap publisher_stage (ap (slice_get m.publishers) who ∙ e) ∙ stage in
        let size : route.completion_cells ≡ m.table.sizes.completion_cells
        = all_at (λ (r : Route). r.completion_cells ≡ m.table.sizes.completion_cells) lane.port.routes at route here setting.round in
        let list = pop_list m.table m.moments route.connection (publisher_stage (slice_get m.publishers other.publisher))
        (subscriber_stage (slice_get m.subscribers other.subscriber)) p route.completion_cells size
        (ap (reclaim_on route.connection) sends ∙ is) (back_seat m route.connection other there k.returns.some k.within) bound
        (k.returns.rings few route.connection other there) in
        let after : n.table ≡ after_shared m.table (on_ring route.connection Completion route.completion_cells (refusing.pop_next p))
        = table_is ∙ ap (after_shared m.table) (ap publisher_next stage ∙ next) in
        taking_moves m own at lane route other n p e now who here counted
        (λ value following h. ap (λ (x : PublisherCall). publisher_change x (told m x)) stage ∙ does value following h) fit
        (list ∙ ap (λ (t : TableWords). taking_refusing p ++ given_back t route.connection) (sym after))

    there_or_not : (c : PublisherCall) (at : ℕ) (route : Route) (p : Pop) → lane.port.call ≡ c → reclaim_on route.connection c ≡ p
        → reclaims_at c ≡ Some route.connection → slice_get lane.port.routes at ≡ Some route
        → publisher_next c ≡ on_ring route.connection Completion route.completion_cells (refusing.pop_next p)
        → ((value next : ℕ) → p ≡ pop.SawCell next value → publisher_change c (told m c) ≡ change.TakenBack at value)
        → QueueMoves m (Publisher own) n connection link
    there_or_not c at route p stage is stands here next does = elim (eqb_tells route.connection connection) [
      | inl same ↦ subst (λ (x : ℕ). slice_get m.links x ≡ Some link → QueueMoves m (Publisher own) n x link) same.1
          (λ there. takes c at route p stage is here next does link there) found
      | inr other ↦ elsewhere (λ h. other.1 (some_is route.connection connection (sym stands ∙ ap reclaims_at (sym stage) ∙ h)))
    ]

    call_is : (c : PublisherCall) → lane.port.call ≡ c → IsPublishing m.table.sizes lane.port.routes (words_of lane.port) c
    call_is c stage = subst (IsPublishing m.table.sizes lane.port.routes (words_of lane.port)) stage in_table.call

    by_call : (c : PublisherCall) → lane.port.call ≡ c → QueueMoves m (Publisher own) n connection link
    by_call publishing.Idle stage = elsewhere (λ h. absurd (cc (ap reclaims_at (sym stage) ∙ h)))
    by_call (publishing.LoanReclaims at route p) stage
        = there_or_not (publishing.LoanReclaims at route p) at route p stage (loan_here at route p) refl
        (call_is (publishing.LoanReclaims at route p) stage) refl
        (λ value next h. ap (λ (q : Pop). publisher_change (publishing.LoanReclaims at route q)
        (told m (publishing.LoanReclaims at route q))) h)
    by_call publishing.Lending stage = elsewhere (λ h. absurd (cc (ap reclaims_at (sym stage) ∙ h)))
    by_call (publishing.Writing slot word value) stage = elsewhere (λ h. absurd (cc (ap reclaims_at (sym stage) ∙ h)))
    by_call (publishing.Written slot) stage = elsewhere (λ h. absurd (cc (ap reclaims_at (sym stage) ∙ h)))
    by_call (publishing.Heading slot word value) stage = elsewhere (λ h. absurd (cc (ap reclaims_at (sym stage) ∙ h)))
    by_call (publishing.Remembering slot) stage = elsewhere (λ h. absurd (cc (ap reclaims_at (sym stage) ∙ h)))
    by_call (publishing.SendReclaims slot at route p) stage
        = there_or_not (publishing.SendReclaims slot at route p) at route p stage (send_here slot at route p) refl
        (call_is (publishing.SendReclaims slot at route p) stage) refl
        (λ value next h. ap (λ (q : Pop). publisher_change (publishing.SendReclaims slot at route q)
        (told m (publishing.SendReclaims slot at route q))) h)
    by_call (publishing.Pushing slot at route push delivery) stage = elsewhere (λ h. absurd (cc (ap reclaims_at (sym stage) ∙ h)))
    by_call (publishing.Sent slot delivery) stage = elsewhere (λ h. absurd (cc (ap reclaims_at (sym stage) ∙ h)))
    by_call (publishing.Dropping slot) stage = elsewhere (λ h. absurd (cc (ap reclaims_at (sym stage) ∙ h)))

-- what the step of a release does at its connection
giving_moves : (m : World) (own at : ℕ) (lane after : SubscriberLaneState) (route : Route) (link : LinkState) (n : World) (p : Push)
    → slice_get m.subscribers own ≡ Some lane → slice_get n.subscribers own ≡ Some after → link.subscriber ≡ own
    → slice_get lane.port.routes at ≡ Some route
    → ((value : ℕ) → one_if (borrows route.connection value (Some after)) + count value (storing_refusing p)
    ≡ one_if (borrows route.connection value (Some lane)) + 0)
    → given_back n.table route.connection ≡ given_back m.table route.connection ++ storing_refusing p
    → QueueMoves m (Subscriber own) n route.connection link
giving_moves m own at lane after route link n push.Idle e now is here gone list
    = inl (list ∙ append-nil (given_back m.table route.connection))
giving_moves m own at lane after route link n (push.Begun limit value) e now is here gone list
    = inl (list ∙ append-nil (given_back m.table route.connection))
giving_moves m own at lane after route link n (push.SawWrite limit value write next) e now is here gone list
    = inl (list ∙ append-nil (given_back m.table route.connection))
giving_moves m own at lane after route link n (push.SawRoom value write next) e now is here gone list
    = inl (list ∙ append-nil (given_back m.table route.connection))
giving_moves m own at lane after route link n (push.Filled value next) e now is here gone list =
    let both = one_gone (borrows route.connection value (Some lane)) (borrows route.connection value (Some after))
    (count value (value ∷ [])) (one_here value) (gone value) in
    inr (inl (
      value,
      ap Subscriber (sym is),
      ap (borrows route.connection value) (ap (slice_get m.subscribers) is ∙ e) ∙ both.0,
      ap (borrows route.connection value) (ap (slice_get n.subscribers) is ∙ now) ∙ both.1,
      list,
    ))
giving_moves m own at lane after route link n (push.Pushed value answered) e now is here gone list
    = inl (list ∙ append-nil (given_back m.table route.connection))

-- a subscriber's step
subscriber_queue : (m : World) (own : ℕ) (lane : SubscriberLaneState) (n : World) (connection : ℕ) (link : LinkState)
    → slice_get m.subscribers own ≡ Some lane → m.moments < 2 ^ 63 → IsKept m → slice_get m.links connection ≡ Some link
    → slice_get n.subscribers own ≡ Some (subscriber_after (subscriber_given m.table lane) lane)
    → n.table ≡ after_shared m.table (subscriber_next lane.port.call) → QueueMoves m (Subscriber own) n connection link
subscriber_queue m own lane n connection link e bound k found now table_is = by_call lane.port.call refl
  where
    few : m.moments ≤ 2 ^ 63
    few = omega (arith, bound)

    after : SubscriberLaneState
    after = subscriber_after (subscriber_given m.table lane) lane

    setting : subscribers.Setting m own lane lane.port.call
    setting = subscribers.setting_of m own lane e bound k.within (k.rings few) k.returns (k.returns.rings few)
        (sends_connected m (k.sends few)) k.loans
        (k.uses few)

    elsewhere : (releases_at lane.port.call ≡ Some connection → ⊥) → QueueMoves m (Subscriber own) n connection link
    elsewhere off = inl (ap (λ (t : TableWords). given_back t connection) table_is ∙ back_is m.table (subscriber_next lane.port.call)
        connection
        ∙ ap between (access_elsewhere Completion m.table connection m.table.sizes.completion_cells (subscriber_next lane.port.call)
        (back_seat m connection link found k.returns.some k.within)
        (subscriber_off m.table connection lane.port.call off setting.access)))

    gives : (at : ℕ) (route : Route) (p : Push) → lane.port.call ≡ subscribing.Releasing at route p → (other : LinkState)
        → slice_get m.links route.connection ≡ Some other → QueueMoves m (Subscriber own) n route.connection other
    gives at route p stage other there =
        let here : slice_get lane.port.routes at ≡ Some route
        = subst (IsSubscribing m.table.sizes lane.port.routes) stage setting.call_is in
        let mine : IsLinkOf m.links receiver own route
        = all_at (IsLinkOf m.links receiver own) lane.port.routes at route here setting.links in
        let same : mine.link ≡ other = some_is mine.link other (sym mine.found ∙ there) in
        let who : other.subscriber ≡ own = ap receiver (sym same) ∙ mine.own in
        let receives : subscriber_stage (slice_get m.subscribers other.subscriber) ≡ subscribing.Releasing at route p
        = ap subscriber_stage (ap (slice_get m.subscribers) who ∙ e) ∙ stage in
        let size : route.completion_cells ≡ m.table.sizes.completion_cells
        = all_at (λ (r : Route). r.completion_cells ≡ m.table.sizes.completion_cells) lane.port.routes at route here setting.round in
        let list = push_list m.table m.moments route.connection (publisher_stage (slice_get m.publishers other.publisher))
        (subscriber_stage (slice_get m.subscribers other.subscriber)) p route.completion_cells size
        (ap (release_on route.connection) receives ∙ release_here at route p)
        (back_seat m route.connection other there k.returns.some k.within) bound (k.returns.rings few route.connection other there) in
        let table_now : n.table ≡ after_shared m.table
        (on_ring route.connection Completion route.completion_cells (refusing.push_next p))
        = table_is ∙ ap (after_shared m.table) (ap subscriber_next stage) in
        let changes : Changes lane after (given_back_by at p)
        = subst (λ (c : SubscriberCall). Changes lane after (subscriber_change c (subscribers.told m c))) stage
        (subscribers.changes_of m lane) in
        let follows = release_follows at p in
        let fit = gives_fit lane route.connection at p (subst (UsesBorrowed lane.port.samples) stage (setting.own).borrowed) in
        giving_moves m own at lane after route other n p e now who here
        (λ value. let moved = own_there lane after route.connection at route (given_back_by at p) changes follows.at here
        (eqb_here route.connection) fit value in
        omega (arith, moved, ap (count value) follows.takes, ap (count value) follows.gives))
        (ap (λ (t : TableWords). given_back t route.connection) table_now ∙ list)

    by_call : (c : SubscriberCall) → lane.port.call ≡ c → QueueMoves m (Subscriber own) n connection link
    by_call subscribing.Idle stage = elsewhere (λ h. absurd (cc (ap releases_at (sym stage) ∙ h)))
    by_call (subscribing.Receiving at route p waits) stage = elsewhere (λ h. absurd (cc (ap releases_at (sym stage) ∙ h)))
    by_call (subscribing.Received given) stage = elsewhere (λ h. absurd (cc (ap releases_at (sym stage) ∙ h)))
    by_call (subscribing.Reading slot word extent) stage = elsewhere (λ h. absurd (cc (ap releases_at (sym stage) ∙ h)))
    by_call (subscribing.WasRead slot) stage = elsewhere (λ h. absurd (cc (ap releases_at (sym stage) ∙ h)))
    by_call (subscribing.Releasing at route p) stage = elim (eqb_tells route.connection connection) [
      | inl same ↦ subst (λ (x : ℕ). slice_get m.links x ≡ Some link → QueueMoves m (Subscriber own) n x link) same.1
          (λ there. gives at route p stage link there) found
      | inr other ↦ elsewhere (λ h. other.1 (some_is route.connection connection (ap releases_at (sym stage) ∙ h)))
    ]
    by_call (subscribing.Released done) stage = elsewhere (λ h. absurd (cc (ap releases_at (sym stage) ∙ h)))

-- each step
begin_queue : (m : World) (own : ℕ) (c : Call) (connection : ℕ) (link : LinkState) (at : Option PublisherLaneState)
    → QueueMoves m (Publisher own) (publisher_begins m own c at) connection link
begin_queue m own c connection link None = inl refl
begin_queue m own c connection link (Some lane) = inl refl

subscriber_begin_queue : (m : World) (own : ℕ) (c : Call) (connection : ℕ) (link : LinkState) (at : Option SubscriberLaneState)
    → QueueMoves m (Subscriber own) (subscriber_begins m own c at) connection link
subscriber_begin_queue m own c connection link None = inl refl
subscriber_begin_queue m own c connection link (Some lane) = inl refl

goes_queue : (m : World) (own connection : ℕ) (link : LinkState) (at : Option PublisherLaneState) → slice_get m.publishers own ≡ at
    → publisher_fits_at at GoOn ≡ true → m.moments < 2 ^ 63 → IsKept m → slice_get m.links connection ≡ Some link
    → QueueMoves m (Publisher own) (publisher_goes_on (placed m (Publisher own)) own at) connection link
goes_queue m own connection link None e fit bound k found = absurd (cc)
goes_queue m own connection link (Some lane) e fit bound k found
    = publisher_queue m own lane _ connection link e bound k found
    (set_same m.publishers own (publisher_after (publisher_given m.table lane) lane) lane e) refl

subscriber_goes_queue : (m : World) (own connection : ℕ) (link : LinkState) (at : Option SubscriberLaneState)
    → slice_get m.subscribers own ≡ at → subscriber_fits_at at GoOn ≡ true → m.moments < 2 ^ 63 → IsKept m
    → slice_get m.links connection ≡ Some link
    → QueueMoves m (Subscriber own) (subscriber_goes_on (placed m (Subscriber own)) own at) connection link
subscriber_goes_queue m own connection link None e fit bound k found = absurd (cc)
subscriber_goes_queue m own connection link (Some lane) e fit bound k found
    = subscriber_queue m own lane _ connection link e bound k found
    (set_same m.subscribers own (subscriber_after (subscriber_given m.table lane) lane) lane e) refl

happens_queue : (m : World) (party : Party) (step : Move) (connection : ℕ) (link : LinkState) → fits m party step ≡ true
    → m.moments < 2 ^ 63 → IsKept m → slice_get m.links connection ≡ Some link → QueueMoves m party (happens m party step) connection link
happens_queue m (Publisher own) (Begin c) connection link fit bound k found
    = begin_queue m own c connection link (slice_get m.publishers own)
happens_queue m (Subscriber own) (Begin c) connection link fit bound k found
    = subscriber_begin_queue m own c connection link (slice_get m.subscribers own)
happens_queue m (Publisher own) GoOn connection link fit bound k found
    = goes_queue m own connection link (slice_get m.publishers own) refl fit bound k found
happens_queue m (Subscriber own) GoOn connection link fit bound k found
    = subscriber_goes_queue m own connection link (slice_get m.subscribers own) refl fit bound k found

made_queue : (m : World) (party : Party) (step : Move) (n : World) → fits m party step ≡ true → n ≡ happens m party step → IsKept m
    → GivenBackInTurn m party n
made_queue m party step n fit is k = λ few connection link found.
    subst (λ (w : World). QueueMoves m party w connection link) (sym is)
    (happens_queue m party step connection link fit
    (omega (arith, happens_moments m party step fit, ap (λ (w : World). w.moments) is, few)) k found)

same_queue : (m : World) (party : Party) (n : World) → n ≡ m → GivenBackInTurn m party n
same_queue m party n is = λ few connection link found. inl (ap (λ (w : World). given_back w.table connection) is)

pub steps_in_turn : (m : World) (party : Party) (step : Move) (r : Stepped) (n : World) → StepsTo m party step r n → IsKept m
    → GivenBackInTurn m party n
steps_in_turn m party step stepped.Went n h k = made_queue m party step n h.0 h.2 k
steps_in_turn m party step stepped.Finished n h k = made_queue m party step n h.0 h.2 k
steps_in_turn m party step stepped.Skipped n h k = same_queue m party n h.1
steps_in_turn m party step stepped.NoMemory n h k = same_queue m party n h.2
