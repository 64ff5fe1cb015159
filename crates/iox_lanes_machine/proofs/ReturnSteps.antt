-- Every step keeps what the rings of samples given back hold.
use Rattle.std.proofs.Common.{ℕ, ◌≡◌, ◌+◌, ◌<◌, ◌≤◌, ◌^◌, ◌==◌, if◌then◌else◌, Bool, true, false, nat_lt, List, set, slice_get, Option}
use Rattle.std.proofs.Common.{Some, None, refl, sym, ◌∙◌, ap, subst, inl, inr, arith}
use Rattle.iox_lanes_machine.specs.QueuesSteps.Access.{RingWords, successor}
use Rattle.iox_lanes_machine.specs.QueuesSteps.declared.order.Placed.{Placed}
use Rattle.iox_lanes_machine.specs.QueuesSteps.Refusing as refusing
use Rattle.iox_lanes_machine.specs.QueuesSteps.Refusing.{Shape}
use Rattle.iox_lanes_machine.specs.QueuesSteps.declared.rings.refusing.push.Push.{Push}
use Rattle.iox_lanes_machine.specs.QueuesSteps.declared.rings.refusing.push.Push.TheVariants as push
use Rattle.iox_lanes_machine.specs.QueuesSteps.declared.rings.refusing.pop.Pop.{Pop}
use Rattle.iox_lanes_machine.proofs.QueuesSteps.RefusingSteps as refusing_steps
use Rattle.iox_lanes_machine.specs.LanesBase.Table.{TableWords, shared_answer, after_shared}
use Rattle.iox_lanes_machine.specs.LanesBase.Words.{on_ring}
use Rattle.iox_lanes_machine.specs.LanesBase.declared.words.sizes.TableSizes.{TableSizes}
use Rattle.iox_lanes_machine.specs.LanesBase.declared.words.word.ConnectionRing.TheVariants.{Completion}
use Rattle.iox_lanes_machine.specs.LanesBase.Answers.{refusing_pop_answer, refusing_push_answer}
use Rattle.iox_lanes_machine.specs.LanesBase.Publishing.{publisher_is_idle, publisher_next, publisher_take, write_from, head_from}
use Rattle.iox_lanes_machine.specs.LanesBase.Subscribing.{subscriber_is_idle, subscriber_next, subscriber_take, subscriber_change}
use Rattle.iox_lanes_machine.specs.LanesBase.Subscribing.{is_full_at}
use Rattle.iox_lanes_machine.specs.LanesBase.declared.calls.publisher.PublisherCall.{PublisherCall}
use Rattle.iox_lanes_machine.specs.LanesBase.declared.calls.publisher.PublisherCall.TheVariants as publishing
use Rattle.iox_lanes_machine.specs.LanesBase.declared.calls.route.Route.{Route}
use Rattle.iox_lanes_machine.specs.LanesBase.declared.calls.subscriber.SubscriberCall.{SubscriberCall}
use Rattle.iox_lanes_machine.specs.LanesBase.declared.calls.subscriber.SubscriberCall.TheVariants as subscribing
use Rattle.iox_lanes_machine.specs.LanesParties.Publishers.{words_of}
use Rattle.iox_lanes_machine.specs.LanesParties.Parties.{PublisherLaneState, SubscriberLaneState, publisher_may, publisher_fits}
use Rattle.iox_lanes_machine.specs.LanesParties.Parties.{publisher_begun, publisher_after, head_of, subscriber_may, subscriber_fits}
use Rattle.iox_lanes_machine.specs.LanesParties.Parties.{subscriber_begun, subscriber_after, release_begun, place_of, route_at}
use Rattle.iox_lanes_machine.specs.LanesParties.Within.{IsPublishing, IsPublisher, IsSubscribing, IsSubscriber}
use Rattle.iox_lanes_machine.specs.LanesParties.declared.call.Call.{Call}
use Rattle.iox_lanes_machine.specs.LanesParties.declared.call.Call.TheVariants as call
use Rattle.iox_lanes_machine.specs.LanesParties.declared.call.Move.{Move}
use Rattle.iox_lanes_machine.specs.LanesParties.declared.call.Move.TheVariants.{Begin, GoOn}
use Rattle.iox_lanes_machine.specs.LanesParties.declared.call.Party.{Party}
use Rattle.iox_lanes_machine.specs.LanesParties.declared.call.Party.TheVariants.{Publisher, Subscriber}
use Rattle.iox_lanes_machine.proofs.LanesParties.Rings.{and_left, all_at}
use Rattle.iox_lanes_machine.proofs.LanesParties.PublishersWithin.{publishers_stay_within}
use Rattle.iox_lanes_machine.proofs.LanesParties.SubscribersWithin.{subscribers_stay_within}
use Rattle.iox_lanes_machine.specs.Kept.{IsLink, IsLinkOf, sender, receiver, IsWithin}
use Rattle.iox_lanes_machine.specs.Returns.{back_ring, reclaim_on, release_on, IsReturning, AreReturning, GoesRound, ReturnsKept}
use Rattle.iox_lanes_machine.specs.World.{World, fits, happens, publisher_stage, subscriber_stage, publisher_fits_at, subscriber_fits_at}
use Rattle.iox_lanes_machine.specs.World.{publisher_begins, publisher_goes_on, publisher_given, subscriber_begins, subscriber_goes_on}
use Rattle.iox_lanes_machine.specs.World.{subscriber_given}
use Rattle.iox_lanes_machine.specs.Links.{LinkState}
use Rattle.iox_lanes_machine.proofs.Ends.{some_is}
use Rattle.iox_lanes_machine.proofs.InTable.{IsSeat, access_elsewhere}
use Rattle.iox_lanes_machine.proofs.Returns.{reclaims_at, releases_at, IsFresh, fresh_shape, idle_shape, loan_here, send_here}
use Rattle.iox_lanes_machine.proofs.Returns.{release_here, loan_fresh, take_fresh, next_reclaim, next_sweep, receive_none, read_none}
use Rattle.iox_lanes_machine.proofs.Returns.{take_none, next_release, publisher_off, subscriber_off, pop_goes, push_goes}
use Rattle.iox_lanes_machine.proofs.Steps.{stands, sender_now, receiver_now}
use Rattle.iox_lanes_machine.proofs.Within.{set_same, at_each, sizes_stay, publisher_routes, subscriber_routes, changed_routes}

next_le : (n : ℕ) → n < 2 ^ 63 → n ≤ successor n
next_le n h = omega arith

pub back_seat : (m : World) (connection : ℕ) (link : LinkState) → slice_get m.links connection ≡ Some link
    → 0 < m.table.sizes.completion_cells → IsWithin m → IsSeat Completion m.table connection m.table.sizes.completion_cells
back_seat m connection link found some w =
    let is : IsLink m.table.sizes connection link = w.links connection link found in
    record { there = is.connection_is; some = some; room = omega arith; words = w.words }

-- a ring that no step touched, with the ends that stand there now
quiet_returning : (cells : ℕ) (table table' : TableWords) (moments moments' connection : ℕ) (sends sends' : PublisherCall)
    (receives receives' : SubscriberCall) → back_ring table' connection cells ≡ back_ring table connection cells → moments ≤ moments'
    → ((q : List ℕ) → Shape cells (back_ring table connection cells) q (release_on connection receives) (reclaim_on connection sends)
    → Shape cells (back_ring table connection cells) q (release_on connection receives') (reclaim_on connection sends'))
    → IsReturning cells table moments connection sends receives → IsReturning cells table' moments' connection sends' receives'
quiet_returning cells table table' moments moments' connection sends sends' receives receives' same le f k = record {
  list = k.list;
  shape = subst (λ (ws : RingWords). Shape cells ws k.list (release_on connection receives') (reclaim_on connection sends')) (sym same)
      (f k.list k.shape);
  few = omega (arith, ap (λ (ws : RingWords). ws.write) same, k.few, le);
}

-- the publisher of a connection, after one of them stepped elsewhere
publisher_again : (lanes : List PublisherLaneState) (place : ℕ) (lane after : PublisherLaneState) (cells connection who : ℕ)
    (words : RingWords) (q : List ℕ) (p : Push) → slice_get lanes place ≡ Some lane
    → IsFresh (reclaim_on connection after.port.call)
    → Shape cells words q p (reclaim_on connection (publisher_stage (slice_get lanes who)))
    → Shape cells words q p (reclaim_on connection (publisher_stage (slice_get (set lanes place after) who)))
publisher_again lanes place lane after cells connection who words q p found fresh s = elim (sender_now lanes place who lane after found) [
  | inl is ↦ subst (λ (c : PublisherCall). Shape cells words q p (reclaim_on connection c)) (sym is.2)
      (fresh_shape cells words q p (reclaim_on connection (publisher_stage (slice_get lanes who)))
      (reclaim_on connection after.port.call) fresh s)
  | inr same ↦ subst (λ (c : PublisherCall). Shape cells words q p (reclaim_on connection c)) (sym same) s
]

-- and its subscriber
subscriber_again : (lanes : List SubscriberLaneState) (place : ℕ) (lane after : SubscriberLaneState) (cells connection who : ℕ)
    (words : RingWords) (q : List ℕ) (c : Pop) → slice_get lanes place ≡ Some lane
    → ((p : Push) → Shape cells words q p c → Shape cells words q (release_on connection after.port.call) c)
    → Shape cells words q (release_on connection (subscriber_stage (slice_get lanes who))) c
    → Shape cells words q (release_on connection (subscriber_stage (slice_get (set lanes place after) who))) c
subscriber_again lanes place lane after cells connection who words q c found fresh s
    = elim (receiver_now lanes place who lane after found) [
      | inl is ↦ subst (λ (x : SubscriberCall). Shape cells words q (release_on connection x) c) (sym is.2)
          (fresh (release_on connection (subscriber_stage (slice_get lanes who))) s)
      | inr same ↦ subst (λ (x : SubscriberCall). Shape cells words q (release_on connection x) c) (sym same) s
    ]

none_shape : (cells connection : ℕ) (words : RingWords) (q : List ℕ) (c : Pop) (receives : SubscriberCall)
    → release_on connection receives ≡ push.Idle → (p : Push) → Shape cells words q p c
    → Shape cells words q (release_on connection receives) c
none_shape cells connection words q c receives e p s
    = subst (λ (x : Push). Shape cells words q x c) (sym e) (idle_shape cells words q p c s)

-- the link of a connection where a publisher takes back is its own
pub reclaims_own : (m : World) (place : ℕ) (lane : PublisherLaneState) (connection : ℕ) (link : LinkState)
    → slice_get m.publishers place ≡ Some lane → IsWithin m → slice_get m.links connection ≡ Some link
    → reclaims_at lane.port.call ≡ Some connection → link.publisher ≡ place
reclaims_own m place lane connection link e w found here =
    by_call lane.port.call here (all_at (IsPublisher m.table.sizes) m.publishers place lane e w.publishers).call
  where
    own : (at : ℕ) (route : Route) → Some route.connection ≡ Some connection → slice_get lane.port.routes at ≡ Some route
        → link.publisher ≡ place
    own at route h is =
        let mine : IsLinkOf m.links sender place route
        = all_at (IsLinkOf m.links sender place) lane.port.routes at route is (w.senders place lane e) in
        let same : mine.link ≡ link = some_is mine.link link
        (sym mine.found ∙ ap (slice_get m.links) (some_is route.connection connection h) ∙ found) in
        ap sender (sym same) ∙ mine.own

    by_call : (c : PublisherCall) → reclaims_at c ≡ Some connection → IsPublishing m.table.sizes lane.port.routes (words_of lane.port) c
        → link.publisher ≡ place
    by_call publishing.Idle h is = absurd (cc)
    by_call (publishing.LoanReclaims at route p) h is = own at route h is
    by_call publishing.Lending h is = absurd (cc)
    by_call (publishing.Writing slot word value) h is = absurd (cc)
    by_call (publishing.Written slot) h is = absurd (cc)
    by_call (publishing.Heading slot word value) h is = absurd (cc)
    by_call (publishing.Remembering slot) h is = absurd (cc)
    by_call (publishing.SendReclaims slot at route p) h is = own at route h is
    by_call (publishing.Pushing slot at route p delivery) h is = absurd (cc)
    by_call (publishing.Sent slot delivery) h is = absurd (cc)
    by_call (publishing.Dropping slot) h is = absurd (cc)

pub releases_own : (m : World) (place : ℕ) (lane : SubscriberLaneState) (connection : ℕ) (link : LinkState)
    → slice_get m.subscribers place ≡ Some lane → IsWithin m → slice_get m.links connection ≡ Some link
    → releases_at lane.port.call ≡ Some connection → link.subscriber ≡ place
releases_own m place lane connection link e w found here =
    by_call lane.port.call here (all_at (IsSubscriber m.table.sizes) m.subscribers place lane e w.subscribers).call
  where
    by_call : (c : SubscriberCall) → releases_at c ≡ Some connection → IsSubscribing m.table.sizes lane.port.routes c
        → link.subscriber ≡ place
    by_call subscribing.Idle h is = absurd (cc)
    by_call (subscribing.Receiving at route p waits) h is = absurd (cc)
    by_call (subscribing.Received given) h is = absurd (cc)
    by_call (subscribing.Reading slot word extent) h is = absurd (cc)
    by_call (subscribing.WasRead slot) h is = absurd (cc)
    by_call (subscribing.Releasing at route p) h is =
        let mine : IsLinkOf m.links receiver place route
        = all_at (IsLinkOf m.links receiver place) lane.port.routes at route is (w.receivers place lane e) in
        let same : mine.link ≡ link = some_is mine.link link
        (sym mine.found ∙ ap (slice_get m.links) (some_is route.connection connection h) ∙ found) in
        ap receiver (sym same) ∙ mine.own
    by_call (subscribing.Released done) h is = absurd (cc)

-- a step of the pop or the push that stands at a connection
loan_active : (cells : ℕ) (table : TableWords) (moments : ℕ) (routes : List Route) (place : ℕ) (route : Route) (p : Pop)
    (receives : SubscriberCall) (n : ℕ) → n ≡ cells → IsSeat Completion table route.connection cells → moments < 2 ^ 63
    → IsReturning cells table moments route.connection (publishing.LoanReclaims place route p) receives
    → (words : List ℕ) → IsReturning cells (after_shared table (on_ring route.connection Completion n (refusing.pop_next p)))
    (successor moments) route.connection
    (publisher_take routes words (publishing.LoanReclaims place route p)
    (shared_answer table (on_ring route.connection Completion n (refusing.pop_next p)))) receives
loan_active cells table moments routes place route p receives n is st bound k words =
    subst (λ (i : ℕ). IsReturning cells (after_shared table (on_ring route.connection Completion i (refusing.pop_next p)))
    (successor moments) route.connection
    (publisher_take routes words (publishing.LoanReclaims place route p)
    (shared_answer table (on_ring route.connection Completion i (refusing.pop_next p)))) receives) (sym is)
    (let s : Shape cells (back_ring table route.connection cells) k.list (release_on route.connection receives) p
    = subst (λ (x : Pop). Shape cells (back_ring table route.connection cells) k.list (release_on route.connection receives) x)
    (loan_here place route p) k.shape in
    let g = pop_goes cells table moments route.connection k.list (release_on route.connection receives) p st bound k.few s in
    record {
      list = g.list;
      shape
          = next_reclaim cells _ g.list (release_on route.connection receives) routes place route _
          (refusing_pop_answer (refusing.pop_take p
          (shared_answer table (on_ring route.connection Completion cells (refusing.pop_next p))))) g.shape;
      few = g.few;
    })

send_active : (cells : ℕ) (table : TableWords) (moments : ℕ) (routes : List Route) (slot place : ℕ) (route : Route) (p : Pop)
    (receives : SubscriberCall) (n : ℕ) → n ≡ cells → IsSeat Completion table route.connection cells → moments < 2 ^ 63
    → IsReturning cells table moments route.connection (publishing.SendReclaims slot place route p) receives
    → (words : List ℕ) → IsReturning cells (after_shared table (on_ring route.connection Completion n (refusing.pop_next p)))
    (successor moments) route.connection
    (publisher_take routes words (publishing.SendReclaims slot place route p)
    (shared_answer table (on_ring route.connection Completion n (refusing.pop_next p)))) receives
send_active cells table moments routes slot place route p receives n is st bound k words =
    subst (λ (i : ℕ). IsReturning cells (after_shared table (on_ring route.connection Completion i (refusing.pop_next p)))
    (successor moments) route.connection
    (publisher_take routes words (publishing.SendReclaims slot place route p)
    (shared_answer table (on_ring route.connection Completion i (refusing.pop_next p)))) receives) (sym is)
    (let s : Shape cells (back_ring table route.connection cells) k.list (release_on route.connection receives) p
    = subst (λ (x : Pop). Shape cells (back_ring table route.connection cells) k.list (release_on route.connection receives) x)
    (send_here slot place route p) k.shape in
    let g = pop_goes cells table moments route.connection k.list (release_on route.connection receives) p st bound k.few s in
    record {
      list = g.list;
      shape
          = next_sweep cells _ g.list (release_on route.connection receives) routes slot place route _
          (refusing_pop_answer (refusing.pop_take p
          (shared_answer table (on_ring route.connection Completion cells (refusing.pop_next p))))) g.shape;
      few = g.few;
    })

release_active : (cells : ℕ) (table : TableWords) (moments : ℕ) (routes : List Route) (borrowed : List ℕ) (most place : ℕ)
    (route : Route) (p : Push) (sends : PublisherCall) (n : ℕ) → n ≡ cells → IsSeat Completion table route.connection cells
    → moments < 2 ^ 63
    → IsReturning cells table moments route.connection sends (subscribing.Releasing place route p)
    → IsReturning cells (after_shared table (on_ring route.connection Completion n (refusing.push_next p))) (successor moments)
    route.connection sends (subscriber_take routes borrowed most (subscribing.Releasing place route p)
    (shared_answer table (on_ring route.connection Completion n (refusing.push_next p))))
release_active cells table moments routes borrowed most place route p sends n is st bound k =
    subst (λ (i : ℕ). IsReturning cells (after_shared table (on_ring route.connection Completion i (refusing.push_next p)))
    (successor moments) route.connection sends
    (subscriber_take routes borrowed most (subscribing.Releasing place route p)
    (shared_answer table (on_ring route.connection Completion i (refusing.push_next p))))) (sym is)
    (let s : Shape cells (back_ring table route.connection cells) k.list p (reclaim_on route.connection sends)
    = subst (λ (x : Push). Shape cells (back_ring table route.connection cells) k.list x (reclaim_on route.connection sends))
    (release_here place route p) k.shape in
    let g = push_goes cells table moments route.connection k.list p (reclaim_on route.connection sends) st bound k.few s in
    record {
      list = g.list;
      shape
          = next_release cells _ g.list (reclaim_on route.connection sends) place route _
          (refusing_push_answer
          (refusing.push_take p (shared_answer table (on_ring route.connection Completion cells (refusing.push_next p))))) g.shape;
      few = g.few;
    })

-- a publisher at its own connection
publisher_active : (cells : ℕ) (table : TableWords) (moments connection : ℕ) (sizes : TableSizes) (routes : List Route) (words : List ℕ)
    (c : PublisherCall) (receives : SubscriberCall) → GoesRound cells routes → IsPublishing sizes routes words c
    → reclaims_at c ≡ Some connection
    → IsSeat Completion table connection cells → moments < 2 ^ 63 → IsReturning cells table moments connection c receives
    → IsReturning cells (after_shared table (publisher_next c)) (successor moments) connection
    (publisher_take routes words c (shared_answer table (publisher_next c))) receives
publisher_active cells table moments connection sizes routes words publishing.Idle receives round is here st bound k = absurd (cc)
publisher_active cells table moments connection sizes routes words (publishing.LoanReclaims at route p) receives round is here st bound k =
    let same : route.connection ≡ connection = some_is route.connection connection here in
    subst (λ (c : ℕ). IsReturning cells (after_shared table (publisher_next (publishing.LoanReclaims at route p))) (successor moments) c
    (publisher_take routes words (publishing.LoanReclaims at route p)
    (shared_answer table (publisher_next (publishing.LoanReclaims at route p)))) receives) same
    (loan_active cells table moments routes at route p receives route.completion_cells
    (all_at (λ (r : Route). r.completion_cells ≡ cells) routes at route is round)
    (subst (λ (c : ℕ). IsSeat Completion table c cells) (sym same) st) bound
    (subst (λ (c : ℕ). IsReturning cells table moments c (publishing.LoanReclaims at route p) receives) (sym same) k) words)
publisher_active cells table moments connection sizes routes words publishing.Lending receives round is here st bound k = absurd (cc)
publisher_active cells table moments connection sizes routes words (publishing.Writing slot word value) receives round is here st bound
    k = absurd (cc)
publisher_active cells table moments connection sizes routes words (publishing.Written slot) receives round is here st bound k = absurd (cc)
publisher_active cells table moments connection sizes routes words (publishing.Heading slot word value) receives round is here st bound
    k = absurd (cc)
publisher_active cells table moments connection sizes routes words (publishing.Remembering slot) receives round is here st bound k
    = absurd (cc)
publisher_active cells table moments connection sizes routes words (publishing.SendReclaims slot at route p) receives round is here st
    bound k =
    let same : route.connection ≡ connection = some_is route.connection connection here in
    subst (λ (c : ℕ). IsReturning cells (after_shared table (publisher_next (publishing.SendReclaims slot at route p)))
    (successor moments) c (publisher_take routes words (publishing.SendReclaims slot at route p)
    (shared_answer table (publisher_next (publishing.SendReclaims slot at route p)))) receives) same
    (send_active cells table moments routes slot at route p receives route.completion_cells
    (all_at (λ (r : Route). r.completion_cells ≡ cells) routes at route is round)
    (subst (λ (c : ℕ). IsSeat Completion table c cells) (sym same) st) bound
    (subst (λ (c : ℕ). IsReturning cells table moments c (publishing.SendReclaims slot at route p) receives) (sym same) k) words)
publisher_active cells table moments connection sizes routes words (publishing.Pushing slot at route p delivery) receives round is here
    st bound k = absurd (cc)
publisher_active cells table moments connection sizes routes words (publishing.Sent slot delivery) receives round is here st bound k
    = absurd (cc)
publisher_active cells table moments connection sizes routes words (publishing.Dropping slot) receives round is here st bound k
    = absurd (cc)

-- a subscriber at its own
subscriber_active : (cells : ℕ) (table : TableWords) (moments connection : ℕ) (sizes : TableSizes) (routes : List Route)
    (borrowed : List ℕ) (most : ℕ) (c : SubscriberCall) (sends : PublisherCall) → GoesRound cells routes → IsSubscribing sizes routes c
    → releases_at c ≡ Some connection
    → IsSeat Completion table connection cells → moments < 2 ^ 63 → IsReturning cells table moments connection sends c
    → IsReturning cells (after_shared table (subscriber_next c)) (successor moments) connection sends
    (subscriber_take routes borrowed most c (shared_answer table (subscriber_next c)))
subscriber_active cells table moments connection sizes routes borrowed most subscribing.Idle sends round is here st bound k = absurd (cc)
subscriber_active cells table moments connection sizes routes borrowed most (subscribing.Receiving at route p waits) sends round is here
    st bound k = absurd (cc)
subscriber_active cells table moments connection sizes routes borrowed most (subscribing.Received given) sends round is here st bound k
    = absurd (cc)
subscriber_active cells table moments connection sizes routes borrowed most (subscribing.Reading slot word extent) sends round is here
    st bound k = absurd (cc)
subscriber_active cells table moments connection sizes routes borrowed most (subscribing.WasRead slot) sends round is here st bound k
    = absurd (cc)
subscriber_active cells table moments connection sizes routes borrowed most (subscribing.Releasing at route p) sends round is here st
    bound k =
    let same : route.connection ≡ connection = some_is route.connection connection here in
    subst (λ (c : ℕ). IsReturning cells (after_shared table (subscriber_next (subscribing.Releasing at route p))) (successor moments) c
    sends (subscriber_take routes borrowed most (subscribing.Releasing at route p)
    (shared_answer table (subscriber_next (subscribing.Releasing at route p))))) same
    (release_active cells table moments routes borrowed most at route p sends route.completion_cells
    (all_at (λ (r : Route). r.completion_cells ≡ cells) routes at route is round)
    (subst (λ (c : ℕ). IsSeat Completion table c cells) (sym same) st) bound
    (subst (λ (c : ℕ). IsReturning cells table moments c sends (subscribing.Releasing at route p)) (sym same) k))
subscriber_active cells table moments connection sizes routes borrowed most (subscribing.Released done) sends round is here st bound k
    = absurd (cc)

-- a begin of a publisher
reclaim_begun : (connection moment : ℕ) (c : Call) (lane : PublisherLaneState) → publisher_fits lane (Begin c) ≡ true
    → IsFresh (reclaim_on connection (publisher_begun moment c lane).port.call)
reclaim_begun connection moment c lane fit
    = after c (idle lane.port.call (and_left (publisher_is_idle lane.port.call) (publisher_may lane c) fit))
  where
    idle : (stage : PublisherCall) → publisher_is_idle stage ≡ true → IsFresh (reclaim_on connection stage)
    idle publishing.Idle h = inl refl
    idle (publishing.LoanReclaims place route p) h = absurd (cc)
    idle publishing.Lending h = inl refl
    idle (publishing.Writing slot word value) h = inl refl
    idle (publishing.Written slot) h = inl refl
    idle (publishing.Heading slot word value) h = inl refl
    idle (publishing.Remembering slot) h = inl refl
    idle (publishing.SendReclaims slot place route p) h = absurd (cc)
    idle (publishing.Pushing slot place route p delivery) h = inl refl
    idle (publishing.Sent slot delivery) h = inl refl
    idle (publishing.Dropping slot) h = inl refl

    write : (slot word : ℕ) (at : Option ℕ) → IsFresh (reclaim_on connection (write_from slot word at))
    write slot word None = inl refl
    write slot word (Some value) = inl refl

    head : (slot word : ℕ) (at : Option ℕ) → IsFresh (reclaim_on connection (head_from slot word at))
    head slot word None = inl refl
    head slot word (Some value) = inl refl

    after : (d : Call) → IsFresh (reclaim_on connection lane.port.call)
        → IsFresh (reclaim_on connection (publisher_begun moment d lane).port.call)
    after call.LoanUninit h = loan_fresh connection 0 (slice_get lane.port.routes 0)
    after (call.Write loan payload user_header) h = write loan 0 (slice_get payload.items 0)
    after (call.Send loan) h = head loan 0 (slice_get (head_of loan lane) 0)
    after (call.DropLoan loan) h = inl refl
    after call.Receive h = h
    after (call.Read sample) h = h
    after (call.Release sample) h = h

-- a begin of a subscriber
release_starts : (cells connection moment sample : ℕ) (words : RingWords) (q : List ℕ) (c : Pop) (place : Option ℕ)
    (route : Option Route) (lane : SubscriberLaneState) → GoesRound cells lane.port.routes → route_at place lane ≡ route
    → ((p : Push) → Shape cells words q p c → Shape cells words q (release_on connection lane.port.call) c)
    → (p : Push) → Shape cells words q p c
    → Shape cells words q (release_on connection (release_begun moment sample place route lane).port.call) c
release_starts cells connection moment sample words q c None route lane round e h = h
release_starts cells connection moment sample words q c (Some place) None lane round e h = h
release_starts cells connection moment sample words q c (Some place) (Some route) lane round e h
    = λ p s. by_test (route.connection == connection) p s
  where
    wide : route.completion_cells ≡ cells
    wide = all_at (λ (r : Route). r.completion_cells ≡ cells) lane.port.routes place route e round

    by_test : (test : Bool) (p : Push) → Shape cells words q p c
        → Shape cells words q (if test then push.Begun route.completion_cells sample else push.Idle) c
    by_test true p s = refusing_steps.restage cells words q p (push.Begun route.completion_cells sample) c c s wide s.pop_knows
    by_test false p s = idle_shape cells words q p c s

release_begins : (cells connection moment : ℕ) (words : RingWords) (q : List ℕ) (c : Pop) (asked : Call) (lane : SubscriberLaneState)
    → GoesRound cells lane.port.routes → subscriber_fits lane (Begin asked) ≡ true
    → (p : Push) → Shape cells words q p c → Shape cells words q (release_on connection (subscriber_begun moment asked lane).port.call) c
release_begins cells connection moment words q c asked lane round fit
    = after asked (none_shape cells connection words q c lane.port.call
    (idle lane.port.call (and_left (subscriber_is_idle lane.port.call) (subscriber_may lane asked) fit)))
  where
    idle : (stage : SubscriberCall) → subscriber_is_idle stage ≡ true → release_on connection stage ≡ push.Idle
    idle subscribing.Idle h = refl
    idle (subscribing.Receiving place route p waits) h = refl
    idle (subscribing.Received given) h = refl
    idle (subscribing.Reading slot word extent) h = refl
    idle (subscribing.WasRead slot) h = refl
    idle (subscribing.Releasing place route p) h = absurd (cc)
    idle (subscribing.Released done) h = refl

    after : (d : Call) → ((p : Push) → Shape cells words q p c → Shape cells words q (release_on connection lane.port.call) c)
        → (p : Push) → Shape cells words q p c → Shape cells words q (release_on connection (subscriber_begun moment d lane).port.call) c
    after call.LoanUninit h = h
    after (call.Write loan payload user_header) h = h
    after (call.Send loan) h = h
    after (call.DropLoan loan) h = h
    after call.Receive h = none_shape cells connection words q c (subscriber_begun moment call.Receive lane).port.call
        (receive_none connection 0 (is_full_at lane.port.borrowed lane.port.most_borrowed 0) false (slice_get lane.port.routes 0))
    after (call.Read sample) h = none_shape cells connection words q c (subscriber_begun moment (call.Read sample) lane).port.call
        (read_none connection sample 0 lane.port.extent
        (nat_lt 0 (3 + lane.port.extent.user_header_words + lane.port.extent.payload_words)))
    after (call.Release sample) h = release_starts cells connection moment sample words q c (place_of sample lane)
        (route_at (place_of sample lane) lane) lane round refl h

begun_publisher : (m : World) (place : ℕ) (c : Call) (at : Option PublisherLaneState) → slice_get m.publishers place ≡ at
    → publisher_fits_at at (Begin c) ≡ true → m.moments < 2 ^ 63 → AreReturning m → AreReturning (publisher_begins m place c at)
begun_publisher m place c None e fit bound k = absurd (cc)
begun_publisher m place c (Some lane) e fit bound k = λ connection link found.
    quiet_returning m.table.sizes.completion_cells m.table m.table m.moments (successor m.moments) connection _ _ _ _ refl
    (next_le m.moments bound)
    (λ q s. publisher_again m.publishers place lane (publisher_begun m.moments c lane) m.table.sizes.completion_cells connection
    link.publisher (back_ring m.table connection m.table.sizes.completion_cells) q _ e
    (reclaim_begun connection m.moments c lane fit) s)
    (k connection link found)

begun_subscriber : (m : World) (place : ℕ) (c : Call) (at : Option SubscriberLaneState) → slice_get m.subscribers place ≡ at
    → subscriber_fits_at at (Begin c) ≡ true → m.moments < 2 ^ 63 → ReturnsKept m → AreReturning m
    → AreReturning (subscriber_begins m place c at)
begun_subscriber m place c None e fit bound r k = absurd (cc)
begun_subscriber m place c (Some lane) e fit bound r k = λ connection link found.
    quiet_returning m.table.sizes.completion_cells m.table m.table m.moments (successor m.moments) connection _ _ _ _ refl
    (next_le m.moments bound)
    (λ q s. subscriber_again m.subscribers place lane (subscriber_begun m.moments c lane) m.table.sizes.completion_cells connection
    link.subscriber (back_ring m.table connection m.table.sizes.completion_cells) q _ e
    (release_begins m.table.sizes.completion_cells connection m.moments (back_ring m.table connection m.table.sizes.completion_cells) q
    _ c lane (r.subscribers place lane e) fit) s)
    (k connection link found)

gone_publisher : (m : World) (place : ℕ) (orders : List (List Placed)) (at : Option PublisherLaneState)
    → slice_get m.publishers place ≡ at → publisher_fits_at at GoOn ≡ true → m.moments < 2 ^ 63 → IsWithin m → ReturnsKept m
    → AreReturning m
    → AreReturning (publisher_goes_on (record m { orders = orders }) place at)
gone_publisher m place orders None e fit bound w r k = absurd (cc)
gone_publisher m place orders (Some lane) e fit bound w r k = λ connection link found.
    subst (λ (sizes : TableSizes). IsReturning sizes.completion_cells (after_shared m.table (publisher_next lane.port.call))
    (successor m.moments) connection
    (publisher_stage (slice_get (set m.publishers place (publisher_after (publisher_given m.table lane) lane)) link.publisher))
    (subscriber_stage (slice_get m.subscribers link.subscriber))) (sym ((sizes_stay m.table (publisher_next lane.port.call)).0))
    (elim (stands (reclaims_at lane.port.call) connection) [
      | inl here ↦ active connection link found here
      | inr off ↦ quiet connection link found off
    ])
  where
    cells : ℕ
    cells = m.table.sizes.completion_cells

    is : IsPublisher m.table.sizes lane
    is = all_at (IsPublisher m.table.sizes) m.publishers place lane e w.publishers

    active : (connection : ℕ) (link : LinkState) → slice_get m.links connection ≡ Some link → reclaims_at lane.port.call ≡ Some connection
        → IsReturning cells (after_shared m.table (publisher_next lane.port.call)) (successor m.moments) connection
        (publisher_stage (slice_get (set m.publishers place (publisher_after (publisher_given m.table lane) lane)) link.publisher))
        (subscriber_stage (slice_get m.subscribers link.subscriber))
    active connection link found here =
        let mine : link.publisher ≡ place = reclaims_own m place lane connection link e w found here in
        let before : publisher_stage (slice_get m.publishers link.publisher) ≡ lane.port.call
        = ap publisher_stage (ap (slice_get m.publishers) mine ∙ e) in
        let now : publisher_stage (slice_get (set m.publishers place (publisher_after (publisher_given m.table lane) lane))
        link.publisher) ≡ (publisher_after (publisher_given m.table lane) lane).port.call =
        ap publisher_stage (ap (slice_get (set m.publishers place (publisher_after (publisher_given m.table lane) lane))) mine ∙
        set_same m.publishers place (publisher_after (publisher_given m.table lane) lane) lane e) in
        subst (λ (c : PublisherCall). IsReturning cells (after_shared m.table (publisher_next lane.port.call)) (successor m.moments)
        connection c (subscriber_stage (slice_get m.subscribers link.subscriber))) (sym now)
        (publisher_active cells m.table m.moments connection m.table.sizes lane.port.routes (words_of lane.port) lane.port.call
        (subscriber_stage (slice_get m.subscribers link.subscriber)) (r.publishers place lane e) is.call here
        (back_seat m connection link found r.some w) bound
        (subst (λ (c : PublisherCall). IsReturning cells m.table m.moments connection c
        (subscriber_stage (slice_get m.subscribers link.subscriber))) before (k connection link found)))

    quiet : (connection : ℕ) (link : LinkState) → slice_get m.links connection ≡ Some link
        → (reclaims_at lane.port.call ≡ Some connection → ⊥)
        → IsReturning cells (after_shared m.table (publisher_next lane.port.call)) (successor m.moments) connection
        (publisher_stage (slice_get (set m.publishers place (publisher_after (publisher_given m.table lane) lane)) link.publisher))
        (subscriber_stage (slice_get m.subscribers link.subscriber))
    quiet connection link found off =
        quiet_returning cells m.table (after_shared m.table (publisher_next lane.port.call)) m.moments (successor m.moments) connection
        _ _ _ _
        (access_elsewhere Completion m.table connection cells (publisher_next lane.port.call)
        (back_seat m connection link found r.some w)
        (publisher_off m.table connection lane.port.call off ((publishers_stay_within m.table.sizes lane is).2)))
        (next_le m.moments bound)
        (λ q s. publisher_again m.publishers place lane (publisher_after (publisher_given m.table lane) lane) cells connection
        link.publisher (back_ring m.table connection cells) q _ e
        (take_fresh connection lane.port.routes (words_of lane.port) lane.port.call (publisher_given m.table lane) off) s)
        (k connection link found)

gone_subscriber : (m : World) (place : ℕ) (orders : List (List Placed)) (at : Option SubscriberLaneState)
    → slice_get m.subscribers place ≡ at → subscriber_fits_at at GoOn ≡ true → m.moments < 2 ^ 63 → IsWithin m → ReturnsKept m
    → AreReturning m
    → AreReturning (subscriber_goes_on (record m { orders = orders }) place at)
gone_subscriber m place orders None e fit bound w r k = absurd (cc)
gone_subscriber m place orders (Some lane) e fit bound w r k = λ connection link found.
    subst (λ (sizes : TableSizes). IsReturning sizes.completion_cells (after_shared m.table (subscriber_next lane.port.call))
    (successor m.moments) connection (publisher_stage (slice_get m.publishers link.publisher))
    (subscriber_stage (slice_get (set m.subscribers place (subscriber_after (subscriber_given m.table lane) lane))
    link.subscriber))) (sym ((sizes_stay m.table (subscriber_next lane.port.call)).0))
    (elim (stands (releases_at lane.port.call) connection) [
      | inl here ↦ active connection link found here
      | inr off ↦ quiet connection link found off
    ])
  where
    cells : ℕ
    cells = m.table.sizes.completion_cells

    is : IsSubscriber m.table.sizes lane
    is = all_at (IsSubscriber m.table.sizes) m.subscribers place lane e w.subscribers

    taken : (subscriber_after (subscriber_given m.table lane) lane).port.call
        ≡ subscriber_take lane.port.routes lane.port.borrowed lane.port.most_borrowed lane.port.call (subscriber_given m.table lane)
    taken = (changed_routes (subscriber_change lane.port.call (subscriber_given m.table lane)) _).1

    active : (connection : ℕ) (link : LinkState) → slice_get m.links connection ≡ Some link → releases_at lane.port.call ≡ Some connection
        → IsReturning cells (after_shared m.table (subscriber_next lane.port.call)) (successor m.moments) connection
        (publisher_stage (slice_get m.publishers link.publisher))
        (subscriber_stage (slice_get (set m.subscribers place (subscriber_after (subscriber_given m.table lane) lane)) link.subscriber))
    active connection link found here =
        let mine : link.subscriber ≡ place = releases_own m place lane connection link e w found here in
        let before : subscriber_stage (slice_get m.subscribers link.subscriber) ≡ lane.port.call
        = ap subscriber_stage (ap (slice_get m.subscribers) mine ∙ e) in
        let now : subscriber_stage (slice_get (set m.subscribers place (subscriber_after (subscriber_given m.table lane) lane))
        link.subscriber) ≡ subscriber_take lane.port.routes lane.port.borrowed lane.port.most_borrowed lane.port.call
        (subscriber_given m.table lane) =
        ap subscriber_stage (ap (slice_get (set m.subscribers place (subscriber_after (subscriber_given m.table lane) lane))) mine ∙
        set_same m.subscribers place (subscriber_after (subscriber_given m.table lane) lane) lane e) ∙ taken in
        subst (λ (c : SubscriberCall). IsReturning cells (after_shared m.table (subscriber_next lane.port.call)) (successor m.moments)
        connection (publisher_stage (slice_get m.publishers link.publisher)) c) (sym now)
        (subscriber_active cells m.table m.moments connection m.table.sizes lane.port.routes lane.port.borrowed lane.port.most_borrowed
        lane.port.call (publisher_stage (slice_get m.publishers link.publisher)) (r.subscribers place lane e) is.call here
        (back_seat m connection link found r.some w) bound
        (subst (λ (c : SubscriberCall). IsReturning cells m.table m.moments connection
        (publisher_stage (slice_get m.publishers link.publisher)) c) before (k connection link found)))

    quiet : (connection : ℕ) (link : LinkState) → slice_get m.links connection ≡ Some link
        → (releases_at lane.port.call ≡ Some connection → ⊥)
        → IsReturning cells (after_shared m.table (subscriber_next lane.port.call)) (successor m.moments) connection
        (publisher_stage (slice_get m.publishers link.publisher))
        (subscriber_stage (slice_get (set m.subscribers place (subscriber_after (subscriber_given m.table lane) lane)) link.subscriber))
    quiet connection link found off =
        quiet_returning cells m.table (after_shared m.table (subscriber_next lane.port.call)) m.moments (successor m.moments) connection
        _ _ _ _
        (access_elsewhere Completion m.table connection cells (subscriber_next lane.port.call)
        (back_seat m connection link found r.some w)
        (subscriber_off m.table connection lane.port.call off ((subscribers_stay_within m.table.sizes lane is).2)))
        (next_le m.moments bound)
        (λ q s. subscriber_again m.subscribers place lane (subscriber_after (subscriber_given m.table lane) lane) cells connection
        link.subscriber (back_ring m.table connection cells) q _ e
        (none_shape cells connection (back_ring m.table connection cells) q _
        (subscriber_after (subscriber_given m.table lane) lane).port.call
        (ap (release_on connection) taken ∙ take_none connection lane.port.routes lane.port.borrowed lane.port.most_borrowed
        lane.port.call (subscriber_given m.table lane) off)) s)
        (k connection link found)

happens_rings : (m : World) (party : Party) (step : Move) → fits m party step ≡ true → m.moments < 2 ^ 63 → IsWithin m → ReturnsKept m
    → AreReturning m → AreReturning (happens m party step)
happens_rings m (Publisher place) (Begin c) fit bound w r k = begun_publisher m place c (slice_get m.publishers place) refl fit bound k
happens_rings m (Subscriber place) (Begin c) fit bound w r k = begun_subscriber m place c (slice_get m.subscribers place) refl fit bound r k
happens_rings m (Publisher place) GoOn fit bound w r k = gone_publisher m place _ (slice_get m.publishers place) refl fit bound w r k
happens_rings m (Subscriber place) GoOn fit bound w r k = gone_subscriber m place _ (slice_get m.subscribers place) refl fit bound w r k

-- the ports keep their connections, and the table its sizes
pub record SameEnds (m n : World) : Type 0 where
  pub sizes : n.table.sizes ≡ m.table.sizes
  publishers : (place : ℕ) (lane : PublisherLaneState) → slice_get n.publishers place ≡ Some lane
      → GoesRound m.table.sizes.completion_cells lane.port.routes
  subscribers : (place : ℕ) (lane : SubscriberLaneState) → slice_get n.subscribers place ≡ Some lane
      → GoesRound m.table.sizes.completion_cells lane.port.routes

publisher_ends : (m n : World) (place : ℕ) (lane after : PublisherLaneState) → slice_get m.publishers place ≡ Some lane
    → n.publishers ≡ set m.publishers place after → n.subscribers ≡ m.subscribers → n.table.sizes ≡ m.table.sizes
    → after.port.routes ≡ lane.port.routes → ReturnsKept m → SameEnds m n
publisher_ends m n place lane after found p s t same r = record {
  sizes = t;
  publishers = λ i z got. at_each (λ (x : PublisherLaneState). x.port.routes) (λ j rs. GoesRound m.table.sizes.completion_cells rs)
      m.publishers place lane after found same r.publishers i z (sym (ap (λ (xs : List PublisherLaneState). slice_get xs i) p) ∙ got);
  subscribers = λ i z got. r.subscribers i z (sym (ap (λ (xs : List SubscriberLaneState). slice_get xs i) s) ∙ got);
}

subscriber_ends : (m n : World) (place : ℕ) (lane after : SubscriberLaneState) → slice_get m.subscribers place ≡ Some lane
    → n.subscribers ≡ set m.subscribers place after → n.publishers ≡ m.publishers → n.table.sizes ≡ m.table.sizes
    → after.port.routes ≡ lane.port.routes → ReturnsKept m → SameEnds m n
subscriber_ends m n place lane after found s p t same r = record {
  sizes = t;
  publishers = λ i z got. r.publishers i z (sym (ap (λ (xs : List PublisherLaneState). slice_get xs i) p) ∙ got);
  subscribers = λ i z got. at_each (λ (x : SubscriberLaneState). x.port.routes) (λ j rs. GoesRound m.table.sizes.completion_cells rs)
      m.subscribers place lane after found same r.subscribers i z (sym (ap (λ (xs : List SubscriberLaneState). slice_get xs i) s) ∙ got);
}

begun_publisher_ends : (m : World) (place : ℕ) (c : Call) (at : Option PublisherLaneState) → slice_get m.publishers place ≡ at
    → publisher_fits_at at (Begin c) ≡ true → ReturnsKept m → SameEnds m (publisher_begins m place c at)
begun_publisher_ends m place c None e fit r = absurd (cc)
begun_publisher_ends m place c (Some lane) e fit r
    = publisher_ends m (publisher_begins m place c (Some lane)) place lane (publisher_begun m.moments c lane) e refl refl refl
    (publisher_routes m.moments c lane) r

begun_subscriber_ends : (m : World) (place : ℕ) (c : Call) (at : Option SubscriberLaneState) → slice_get m.subscribers place ≡ at
    → subscriber_fits_at at (Begin c) ≡ true → ReturnsKept m → SameEnds m (subscriber_begins m place c at)
begun_subscriber_ends m place c None e fit r = absurd (cc)
begun_subscriber_ends m place c (Some lane) e fit r
    = subscriber_ends m (subscriber_begins m place c (Some lane)) place lane (subscriber_begun m.moments c lane) e refl refl refl
    (subscriber_routes m.moments c lane) r

gone_publisher_ends : (m : World) (place : ℕ) (orders : List (List Placed)) (at : Option PublisherLaneState)
    → slice_get m.publishers place ≡ at → publisher_fits_at at GoOn ≡ true → ReturnsKept m
    → SameEnds m (publisher_goes_on (record m { orders = orders }) place at)
gone_publisher_ends m place orders None e fit r = absurd (cc)
gone_publisher_ends m place orders (Some lane) e fit r =
    publisher_ends m (publisher_goes_on (record m { orders = orders }) place (Some lane)) place lane
    (publisher_after (publisher_given m.table lane) lane) e refl refl ((sizes_stay m.table (publisher_next lane.port.call)).0) refl r

gone_subscriber_ends : (m : World) (place : ℕ) (orders : List (List Placed)) (at : Option SubscriberLaneState)
    → slice_get m.subscribers place ≡ at → subscriber_fits_at at GoOn ≡ true → ReturnsKept m
    → SameEnds m (subscriber_goes_on (record m { orders = orders }) place at)
gone_subscriber_ends m place orders None e fit r = absurd (cc)
gone_subscriber_ends m place orders (Some lane) e fit r =
    subscriber_ends m (subscriber_goes_on (record m { orders = orders }) place (Some lane)) place lane
    (subscriber_after (subscriber_given m.table lane) lane) e refl refl ((sizes_stay m.table (subscriber_next lane.port.call)).0)
    ((changed_routes (subscriber_change lane.port.call (subscriber_given m.table lane)) _).0) r

pub happens_ends : (m : World) (party : Party) (step : Move) → fits m party step ≡ true → ReturnsKept m → SameEnds m (happens m party step)
happens_ends m (Publisher place) (Begin c) fit r = begun_publisher_ends m place c (slice_get m.publishers place) refl fit r
happens_ends m (Subscriber place) (Begin c) fit r = begun_subscriber_ends m place c (slice_get m.subscribers place) refl fit r
happens_ends m (Publisher place) GoOn fit r = gone_publisher_ends m place _ (slice_get m.publishers place) refl fit r
happens_ends m (Subscriber place) GoOn fit r = gone_subscriber_ends m place _ (slice_get m.subscribers place) refl fit r

pub happens_returns : (m : World) (party : Party) (step : Move) → fits m party step ≡ true
    → ((happens m party step).moments ≤ 2 ^ 63 → m.moments < 2 ^ 63) → IsWithin m → ReturnsKept m → ReturnsKept (happens m party step)
happens_returns m party step fit counted w r =
    let g = happens_ends m party step fit r in
    record {
      some = subst (λ (sizes : TableSizes). 0 < sizes.completion_cells) (sym g.sizes) r.some;
      publishers = λ place lane got. subst (λ (sizes : TableSizes). GoesRound sizes.completion_cells lane.port.routes) (sym g.sizes)
          (g.publishers place lane got);
      subscribers = λ place lane got. subst (λ (sizes : TableSizes). GoesRound sizes.completion_cells lane.port.routes) (sym g.sizes)
          (g.subscribers place lane got);
      rings = λ few. let bound : m.moments < 2 ^ 63
          = counted few in happens_rings m party step fit bound w r (r.rings (omega (arith, bound)));
    }
