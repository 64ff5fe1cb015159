-- Every step of lanes keeps that sends put just what stands at their connections.
use Rattle.std.proofs.Common.{ℕ, ◌≡◌, ◌+◌, ◌<◌, ◌≤◌, ◌^◌, ◌==◌, Bool, true, false, List, [], ◌++◌, length, get_or, slice_get, Option}
use Rattle.std.proofs.Common.{Some, None, refl, sym, ◌∙◌, ap, subst, inl, inr, arith, append-nil}
use Rattle.std.specs.List.{All}
use Rattle.std.proofs.lemmas.Bool.Decides.{eqb_tells}
use Rattle.std.proofs.lemmas.Option.{slice_get_within, slice_get-get_or}
use Rattle.iox_lanes_machine.specs.QueuesSteps.Access.{RingWords, successor, answer_of, after_access}
use Rattle.iox_lanes_machine.specs.QueuesSteps.Order.{put_values, PutNow}
use Rattle.iox_lanes_machine.specs.QueuesSteps.declared.access.Word.TheVariants.{Read}
use Rattle.iox_lanes_machine.specs.QueuesSteps.declared.order.PopAnswer.{PopAnswer}
use Rattle.iox_lanes_machine.specs.QueuesSteps.declared.order.PopAnswer.TheVariants.{Got, Saw}
use Rattle.iox_lanes_machine.specs.QueuesSteps.declared.order.Placed.{Placed}
use Rattle.iox_lanes_machine.specs.QueuesSteps.declared.order.PushAnswer.{PushAnswer}
use Rattle.iox_lanes_machine.specs.QueuesSteps.Refusing as refusing
use Rattle.iox_lanes_machine.specs.QueuesSteps.declared.rings.refusing.pop.Pop as refusing_pop_type
use Rattle.iox_lanes_machine.specs.QueuesSteps.Ends.{Shape, cells_of, push_next, push_take, placed_by_push, put_in_hand, pop_next}
use Rattle.iox_lanes_machine.specs.QueuesSteps.Ends.{placed_by_pop}
use Rattle.iox_lanes_machine.specs.QueuesSteps.declared.rings.ends.RingKind.{RingKind}
use Rattle.iox_lanes_machine.specs.QueuesSteps.declared.rings.ends.Push.{Push}
use Rattle.iox_lanes_machine.specs.QueuesSteps.declared.rings.ends.Pop.{Pop}
use Rattle.iox_lanes_machine.proofs.QueuesSteps.EitherRing.{push_goes, pop_goes}
use Rattle.iox_lanes_machine.specs.LanesBase.Table.{TableWords, held_by, shared_answer, after_shared, IsOfTable}
use Rattle.iox_lanes_machine.specs.LanesBase.Words.{on_ring}
use Rattle.iox_lanes_machine.specs.LanesBase.declared.words.word.ConnectionRing.TheVariants.{Submission}
use Rattle.iox_lanes_machine.specs.LanesBase.Answers.{push_answer, refusing_pop_answer}
use Rattle.iox_lanes_machine.specs.LanesBase.Publishing.{publisher_is_idle, publisher_next, publisher_take, loan_from, loan_reclaimed}
use Rattle.iox_lanes_machine.specs.LanesBase.Publishing.{write_from, head_from, sweep_from, send_reclaimed, pushed}
use Rattle.iox_lanes_machine.specs.LanesBase.Subscribing.{subscriber_next}
use Rattle.iox_lanes_machine.specs.LanesBase.declared.calls.publisher.Delivery.{Delivery}
use Rattle.iox_lanes_machine.specs.LanesBase.declared.calls.publisher.PublisherCall.{PublisherCall}
use Rattle.iox_lanes_machine.specs.LanesBase.declared.calls.publisher.PublisherCall.TheVariants as publishing
use Rattle.iox_lanes_machine.specs.LanesBase.declared.calls.route.Route.{Route}
use Rattle.iox_lanes_machine.specs.LanesBase.declared.calls.subscriber.SubscriberCall.{SubscriberCall}
use Rattle.iox_lanes_machine.specs.LanesBase.declared.calls.subscriber.SubscriberCall.TheVariants as subscribing
use Rattle.iox_lanes_machine.specs.LanesParties.SendAnswers.{send_answer}
use Rattle.iox_lanes_machine.specs.LanesParties.Publishers.{words_of}
use Rattle.iox_lanes_machine.specs.LanesParties.declared.publisher.slot_book.LoanAnswer.{LoanAnswer}
use Rattle.iox_lanes_machine.specs.LanesParties.Parties.{PublisherLaneState, SubscriberLaneState, publisher_may, publisher_begun}
use Rattle.iox_lanes_machine.specs.LanesParties.Parties.{publisher_after, publisher_answer, head_of, subscriber_answer, lent}
use Rattle.iox_lanes_machine.specs.LanesParties.Within.{IsPublisher, IsSubscribing, IsSubscriber}
use Rattle.iox_lanes_machine.specs.LanesParties.declared.call.Answer.TheVariants as answer
use Rattle.iox_lanes_machine.specs.LanesParties.declared.call.Call.{Call}
use Rattle.iox_lanes_machine.specs.LanesParties.declared.call.Call.TheVariants as call
use Rattle.iox_lanes_machine.specs.LanesParties.declared.call.CallName.{CallName}
use Rattle.iox_lanes_machine.specs.LanesParties.declared.call.FinishedCall.{FinishedCall}
use Rattle.iox_lanes_machine.specs.LanesParties.declared.call.Move.{Move}
use Rattle.iox_lanes_machine.specs.LanesParties.declared.call.Move.TheVariants.{Begin, GoOn}
use Rattle.iox_lanes_machine.specs.LanesParties.declared.call.Party.{Party}
use Rattle.iox_lanes_machine.specs.LanesParties.declared.call.Party.TheVariants.{Publisher, Subscriber}
use Rattle.iox_lanes_machine.proofs.LanesParties.Rings.{and_left, all_at}
use Rattle.iox_lanes_machine.proofs.LanesParties.PublishersWithin.{publishers_stay_within}
use Rattle.iox_lanes_machine.proofs.LanesParties.SubscribersWithin.{subscribers_stay_within}
use Rattle.iox_lanes_machine.specs.Calls.{IsStageOf, CallsFollow}
use Rattle.iox_lanes_machine.specs.Kept.{IsLinkOf, sender, receiver, IsWithin, IsKeptAt, AreKept}
use Rattle.iox_lanes_machine.specs.Rings.{sent_word, ring_in, push_on, pop_on, waiting}
use Rattle.iox_lanes_machine.specs.Sends.{puts_at, IsSent, sends_of, read_at, PutSoFar, done_at, in_hand_at, HasConnections, SendsPut}
use Rattle.iox_lanes_machine.specs.Sends.{AllSendsPut}
use Rattle.iox_lanes_machine.specs.World.{World, publisher_stage, subscriber_stage, sender_stage, push_at, pushes_to, pops_from}
use Rattle.iox_lanes_machine.specs.World.{push_acts, pop_acts, added, ended, fits, happens, publisher_fits_at, subscriber_fits_at}
use Rattle.iox_lanes_machine.specs.World.{publisher_begins, publisher_goes_on, publisher_given, publisher_ending, subscriber_begins}
use Rattle.iox_lanes_machine.specs.World.{subscriber_goes_on}
use Rattle.iox_lanes_machine.specs.Links.{LinkState}
use Rattle.iox_lanes_machine.proofs.Calls.{set_is}
use Rattle.iox_lanes_machine.proofs.Ends.{some_is, push_off, push_here, pop_here}
use Rattle.iox_lanes_machine.proofs.InTable.{IsSeat, access_answer, access_after, access_elsewhere}
use Rattle.iox_lanes_machine.proofs.Kept.{seat}
use Rattle.iox_lanes_machine.proofs.Puts.{puts_off, puts_on, Grow, grow_none, grow_added, value_stays, ended_none}
use Rattle.iox_lanes_machine.proofs.Sends.{RouteGrows, grows, push_moves, push_answered, is_quiet, quiet_change, quiet_pushes}
use Rattle.iox_lanes_machine.proofs.Sends.{sends_nothing, same_sends, send_ends}
use Rattle.iox_lanes_machine.proofs.Steps.{stands, publisher_elsewhere, subscriber_elsewhere, pushes_own, pops_own}
use Rattle.iox_lanes_machine.proofs.Within.{set_other, publisher_routes}

next_le : (n : ℕ) → n < 2 ^ 63 → n ≤ successor n
next_le n h = omega arith

-- the order of a connection that there is
order_there : (m : World) (connection : ℕ) (link : LinkState) → slice_get m.links connection ≡ Some link → IsWithin m
    → slice_get m.orders connection ≡ Some (get_or m.orders connection [])
order_there m connection link found w
    = slice_get-get_or m.orders connection [] (omega (arith, slice_get_within m.links connection link found, w.orders))

-- nothing happens at a connection
still : (moments : ℕ) (orders orders' : List (List Placed)) (table table' : TableWords) (call : PublisherCall) (route : Route)
    → puts_at orders' route ≡ puts_at orders route → read_at table' route ≡ read_at table route
    → RouteGrows moments orders orders' table table' call call route
still moments orders orders' table table' call route e f = record {
  new = [];
  puts = e ∙ sym (append-nil (puts_at orders route));
  hand = ap (λ (read : ℕ). put_in_hand read (push_on route.connection route.kind call)) f ∙ sym
      (append-nil (put_in_hand (read_at table route) (push_on route.connection route.kind call)));
}

-- a step of a publisher that pushes elsewhere
off_push : (m : World) (c : PublisherCall) → IsOfTable m.table.sizes (publisher_next c) → IsWithin m
    → (call : PublisherCall) (route : Route) (link : LinkState) → slice_get m.links route.connection ≡ Some link
    → (pushes_to c ≡ Some route.connection → ⊥)
    → RouteGrows m.moments m.orders (added m.orders (pushes_to c) m.moments (push_acts m.table c)) m.table
    (after_shared m.table (publisher_next c)) call call route
off_push m c touch w call route link found off =
    still m.moments m.orders (added m.orders (pushes_to c) m.moments (push_acts m.table c)) m.table
    (after_shared m.table (publisher_next c)) call route
    (puts_off m.orders (pushes_to c) m.moments (push_acts m.table c) route off)
    (ap (λ (ws : RingWords). ws.read) (access_elsewhere Submission m.table route.connection (cells_of link.kind link.limit)
    (publisher_next c) (seat m route.connection link found w) (publisher_elsewhere m.table route.connection c off touch)))

-- what a push has in hand after its next access
push_core : (table : TableWords) (moments slot place : ℕ) (route : Route) (p : Push) (delivery : Delivery) (link : LinkState)
    (order : List Placed) (receives : SubscriberCall) (cells limit : ℕ) → cells ≡ cells_of link.kind link.limit → limit ≡ link.limit
    → IsSeat Submission table route.connection (cells_of link.kind link.limit) → moments < 2 ^ 63 → push_answer p ≡ None
    → IsKeptAt table moments route.connection link order (publishing.Pushing slot place route p delivery) receives
    → put_in_hand (held_by (after_shared table (on_ring route.connection Submission cells (push_next p)))
    (sent_word route.connection Read)) (push_take p (shared_answer table (on_ring route.connection Submission cells (push_next p))))
    ≡ put_in_hand (held_by table (sent_word route.connection Read)) p
    ++ put_values (placed_by_push limit (held_by table (sent_word route.connection Read)) p)
push_core table moments slot place route p delivery link order receives cells limit size is st bound unanswered k =
    subst (λ (n : ℕ). put_in_hand (held_by (after_shared table (on_ring route.connection Submission cells (push_next p)))
    (sent_word route.connection Read)) (push_take p (shared_answer table (on_ring route.connection Submission cells (push_next p))))
    ≡ put_in_hand (held_by table (sent_word route.connection Read)) p
    ++ put_values (placed_by_push n (held_by table (sent_word route.connection Read)) p)) (sym is)
    (subst (λ (n : ℕ). put_in_hand (held_by (after_shared table (on_ring route.connection Submission n (push_next p)))
    (sent_word route.connection Read)) (push_take p (shared_answer table (on_ring route.connection Submission n (push_next p))))
    ≡ put_in_hand (held_by table (sent_word route.connection Read)) p
    ++ put_values (placed_by_push link.limit (held_by table (sent_word route.connection Read)) p)) (sym size) exact)
  where
    exact : put_in_hand (held_by (after_shared table
        (on_ring route.connection Submission (cells_of link.kind link.limit) (push_next p))) (sent_word route.connection Read))
        (push_take p (shared_answer table (on_ring route.connection Submission (cells_of link.kind link.limit) (push_next p))))
        ≡ put_in_hand (held_by table (sent_word route.connection Read)) p
        ++ put_values (placed_by_push link.limit (held_by table (sent_word route.connection Read)) p)
    exact =
        let words : RingWords = ring_in table route.connection (cells_of link.kind link.limit) in
        let pop : Pop = pop_on route.connection link.kind receives in
        let s : Shape link.kind link.limit words (waiting link order) p pop
        = subst (λ (x : Push). Shape link.kind link.limit words (waiting link order) x pop)
        (push_here slot place route link.kind p delivery) k.shape in
        let few : words.write + 1 < 2 ^ 64 = omega (arith, k.few, bound) in
        let g = push_goes link.kind link.limit words (waiting link order) p pop few s in
        let given : answer_of words (push_next p)
        ≡ shared_answer table (on_ring route.connection Submission (cells_of link.kind link.limit) (push_next p))
        = access_answer Submission table route.connection (cells_of link.kind link.limit) (push_next p) st in
        let after : after_access words (push_next p)
        ≡ ring_in (after_shared table (on_ring route.connection Submission (cells_of link.kind link.limit) (push_next p)))
        route.connection (cells_of link.kind link.limit)
        = access_after Submission table route.connection (cells_of link.kind link.limit) (push_next p) st in
        sym (ap (λ (ws : RingWords). put_in_hand ws.read
        (push_take p (shared_answer table (on_ring route.connection Submission (cells_of link.kind link.limit) (push_next p))))) after)
        ∙ sym (ap (λ (a : ℕ). put_in_hand (after_access words (push_next p)).read (push_take p a)) given)
        ∙ sym (ap (λ (vs : List PutNow). vs
        ++ put_in_hand (after_access words (push_next p)).read (push_take p (answer_of words (push_next p)))) (ended_none p unanswered))
        ∙ g.in_hand

-- what a push has in hand after an access of the pop at its connection
pop_core : (table : TableWords) (moments place : ℕ) (route : Route) (p : Pop) (waits : Bool) (link : LinkState) (order : List Placed)
    (sends : PublisherCall) (cells : ℕ) (push : Push) → cells ≡ cells_of link.kind link.limit
    → push ≡ push_on route.connection link.kind sends
    → IsSeat Submission table route.connection (cells_of link.kind link.limit) → moments < 2 ^ 63
    → IsKeptAt table moments route.connection link order sends (subscribing.Receiving place route p waits)
    → put_in_hand (held_by (after_shared table (on_ring route.connection Submission cells (pop_next p)))
    (sent_word route.connection Read)) push
    ≡ put_in_hand (held_by table (sent_word route.connection Read)) push
    ++ put_values (placed_by_pop (ring_in table route.connection cells) push p)
pop_core table moments place route p waits link order sends cells push size is st bound k =
    subst (λ (x : Push). put_in_hand (held_by (after_shared table (on_ring route.connection Submission cells (pop_next p)))
    (sent_word route.connection Read)) x
    ≡ put_in_hand (held_by table (sent_word route.connection Read)) x
    ++ put_values (placed_by_pop (ring_in table route.connection cells) x p)) (sym is)
    (subst (λ (n : ℕ). put_in_hand (held_by (after_shared table (on_ring route.connection Submission n (pop_next p)))
    (sent_word route.connection Read)) (push_on route.connection link.kind sends)
    ≡ put_in_hand (held_by table (sent_word route.connection Read)) (push_on route.connection link.kind sends)
    ++ put_values (placed_by_pop (ring_in table route.connection n) (push_on route.connection link.kind sends) p)) (sym size) exact)
  where
    exact : put_in_hand (held_by (after_shared table (on_ring route.connection Submission (cells_of link.kind link.limit) (pop_next p)))
        (sent_word route.connection Read)) (push_on route.connection link.kind sends)
        ≡ put_in_hand (held_by table (sent_word route.connection Read)) (push_on route.connection link.kind sends)
        ++ put_values (placed_by_pop (ring_in table route.connection (cells_of link.kind link.limit))
        (push_on route.connection link.kind sends) p)
    exact =
        let words : RingWords = ring_in table route.connection (cells_of link.kind link.limit) in
        let push' : Push = push_on route.connection link.kind sends in
        let s : Shape link.kind link.limit words (waiting link order) push' p
        = subst (λ (x : Pop). Shape link.kind link.limit words (waiting link order) push' x)
        (pop_here place route link.kind p waits) k.shape in
        let few : words.write + 1 < 2 ^ 64 = omega (arith, k.few, bound) in
        let g = pop_goes link.kind link.limit words (waiting link order) push' p few s in
        let after : after_access words (pop_next p)
        ≡ ring_in (after_shared table (on_ring route.connection Submission (cells_of link.kind link.limit) (pop_next p)))
        route.connection (cells_of link.kind link.limit)
        = access_after Submission table route.connection (cells_of link.kind link.limit) (pop_next p) st in
        sym (ap (λ (ws : RingWords). put_in_hand ws.read push') after) ∙ g.in_hand

-- a step of a subscriber, at a connection of a publisher
pop_route : (m : World) (place : ℕ) (reader : SubscriberLaneState) (who : ℕ) (lane : PublisherLaneState) (i : ℕ) (route : Route)
    → slice_get m.subscribers place ≡ Some reader → slice_get m.publishers who ≡ Some lane → slice_get lane.port.routes i ≡ Some route
    → IsWithin m → AreKept m → m.moments < 2 ^ 63
    → RouteGrows m.moments m.orders (added m.orders (pops_from reader.port.call) m.moments (pop_acts m reader.port.call)) m.table
    (after_shared m.table (subscriber_next reader.port.call)) lane.port.call lane.port.call route
pop_route m place reader who lane i route es ep at w kept bound =
    let is : IsSubscriber m.table.sizes reader = all_at (IsSubscriber m.table.sizes) m.subscribers place reader es w.subscribers in
    let own : IsLinkOf m.links sender who route
    = all_at (IsLinkOf m.links sender who) lane.port.routes i route at (w.senders who lane ep) in
    elim (stands (pops_from reader.port.call) route.connection) [
      | inl here ↦
          let order : List Placed = get_or m.orders route.connection [] in
          let there : slice_get m.orders route.connection ≡ Some order = order_there m route.connection own.link own.found w in
          let sends : publisher_stage (slice_get m.publishers (own.link).publisher) ≡ lane.port.call
          = ap publisher_stage (ap (slice_get m.publishers) own.own ∙ ep) in
          let mine : (own.link).subscriber ≡ place = pops_own m place reader route.connection own.link es w own.found here in
          let receives : subscriber_stage (slice_get m.subscribers (own.link).subscriber) ≡ reader.port.call
          = ap subscriber_stage (ap (slice_get m.subscribers) mine ∙ es) in
          active reader.port.call own order there here is.call
          (subst (λ (c : SubscriberCall). IsKeptAt m.table m.moments route.connection own.link order lane.port.call c) receives
          (subst (λ (c : PublisherCall). IsKeptAt m.table m.moments route.connection own.link order c
          (subscriber_stage (slice_get m.subscribers (own.link).subscriber))) sends
          (kept route.connection own.link order own.found there)))
      | inr off ↦ still m.moments m.orders (added m.orders (pops_from reader.port.call) m.moments (pop_acts m reader.port.call)) m.table
          (after_shared m.table (subscriber_next reader.port.call)) lane.port.call route
          (puts_off m.orders (pops_from reader.port.call) m.moments (pop_acts m reader.port.call) route off)
          (ap (λ (ws : RingWords). ws.read) (access_elsewhere Submission m.table route.connection
          (cells_of (own.link).kind (own.link).limit) (subscriber_next reader.port.call) (seat m route.connection own.link own.found w)
          (subscriber_elsewhere m.table route.connection reader.port.call off ((subscribers_stay_within m.table.sizes reader is).2))))
    ]
  where
    active : (c : SubscriberCall) (own : IsLinkOf m.links sender who route) (order : List Placed)
        → slice_get m.orders route.connection ≡ Some order → pops_from c ≡ Some route.connection
        → IsSubscribing m.table.sizes reader.port.routes c
        → IsKeptAt m.table m.moments route.connection own.link order lane.port.call c
        → RouteGrows m.moments m.orders (added m.orders (pops_from c) m.moments (pop_acts m c)) m.table
        (after_shared m.table (subscriber_next c)) lane.port.call lane.port.call route
    active subscribing.Idle own order there here is k = absurd (cc)
    active (subscribing.Receiving at' from p waits) own order there here is k =
        let same : from.connection ≡ route.connection = some_is from.connection route.connection here in
        let theirs : IsLinkOf m.links receiver place from
        = all_at (IsLinkOf m.links receiver place) reader.port.routes at' from is (w.receivers place reader es) in
        let found : slice_get m.links from.connection ≡ Some own.link = ap (slice_get m.links) same ∙ own.found in
        let link_is : theirs.link ≡ own.link = some_is theirs.link own.link (sym theirs.found ∙ found) in
        let sends : publisher_stage (slice_get m.publishers (own.link).publisher) ≡ lane.port.call
        = ap publisher_stage (ap (slice_get m.publishers) own.own ∙ ep) in
        let push_is : push_at m from.connection from.kind ≡ push_on from.connection (own.link).kind lane.port.call =
        ap (λ (at : Option LinkState). push_on from.connection from.kind (sender_stage m at)) found
        ∙ ap (λ (k' : RingKind). push_on from.connection k' (publisher_stage (slice_get m.publishers (own.link).publisher)))
        (theirs.kind ∙ ap (λ (l : LinkState). l.kind) link_is)
        ∙ ap (push_on from.connection (own.link).kind) sends in
        let push_on_is : push_at m from.connection from.kind ≡ push_on route.connection route.kind lane.port.call =
        push_is ∙ ap (λ (n : ℕ). push_on n (own.link).kind lane.port.call) same ∙ ap
        (λ (k' : RingKind). push_on route.connection k' lane.port.call) (sym own.kind) in
        let core = pop_core m.table m.moments at' from p waits own.link order lane.port.call from.submission_cells
        (push_at m from.connection from.kind)
        (theirs.cells ∙ ap (λ (l : LinkState). cells_of l.kind l.limit) link_is) push_is
        (seat m from.connection own.link found w) bound
        (subst (λ (n : ℕ). IsKeptAt m.table m.moments n own.link order lane.port.call (subscribing.Receiving at' from p waits))
        (sym same) k) in
        record {
          new = put_values (pop_acts m (subscribing.Receiving at' from p waits));
          puts = puts_on m.orders (Some from.connection) m.moments (pop_acts m (subscribing.Receiving at' from p waits)) route order
              here there;
          hand = subst (λ (n : ℕ). put_in_hand
              (held_by (after_shared m.table (subscriber_next (subscribing.Receiving at' from p waits))) (sent_word n Read))
              (push_on route.connection route.kind lane.port.call)
              ≡ put_in_hand (held_by m.table (sent_word n Read)) (push_on route.connection route.kind lane.port.call)
              ++ put_values (pop_acts m (subscribing.Receiving at' from p waits))) same
              (subst (λ (x : Push). put_in_hand (held_by
              (after_shared m.table (subscriber_next (subscribing.Receiving at' from p waits))) (sent_word from.connection Read)) x
              ≡ put_in_hand (held_by m.table (sent_word from.connection Read)) x
              ++ put_values (pop_acts m (subscribing.Receiving at' from p waits))) push_on_is core);
        }
    active (subscribing.Received given) own order there here is k = absurd (cc)
    active (subscribing.Reading slot word extent) own order there here is k = absurd (cc)
    active (subscribing.WasRead slot) own order there here is k = absurd (cc)
    active (subscribing.Releasing at' from p) own order there here is k = absurd (cc)
    active (subscribing.Released done) own order there here is k = absurd (cc)

-- stages at which a publisher pushes nothing
loan_quiet : (place : ℕ) (at : Option Route) → is_quiet (loan_from place at) ≡ true
loan_quiet place None = refl
loan_quiet place (Some route) = refl

reclaimed_quiet : (routes : List Route) (place : ℕ) (route : Route) (p : refusing_pop_type.Pop) (a : Option PopAnswer)
    → is_quiet (loan_reclaimed routes place route p a) ≡ true
reclaimed_quiet routes place route p None = refl
reclaimed_quiet routes place route p (Some (Got (Some slot))) = refl
reclaimed_quiet routes place route p (Some (Got None)) = loan_quiet (successor place) (slice_get routes (successor place))
reclaimed_quiet routes place route p (Some (Saw some)) = loan_quiet (successor place) (slice_get routes (successor place))

write_quiet : (slot word : ℕ) (at : Option ℕ) → is_quiet (write_from slot word at) ≡ true
write_quiet slot word None = refl
write_quiet slot word (Some value) = refl

head_quiet : (slot word : ℕ) (at : Option ℕ) → is_quiet (head_from slot word at) ≡ true
head_quiet slot word None = refl
head_quiet slot word (Some value) = refl

idle_quiet : (c : PublisherCall) → publisher_is_idle c ≡ true → is_quiet c ≡ true
idle_quiet publishing.Idle h = refl
idle_quiet (publishing.LoanReclaims place route p) h = absurd (cc)
idle_quiet publishing.Lending h = absurd (cc)
idle_quiet (publishing.Writing slot word value) h = absurd (cc)
idle_quiet (publishing.Written slot) h = absurd (cc)
idle_quiet (publishing.Heading slot word value) h = absurd (cc)
idle_quiet (publishing.Remembering slot) h = absurd (cc)
idle_quiet (publishing.SendReclaims slot place route p) h = absurd (cc)
idle_quiet (publishing.Pushing slot place route p delivery) h = absurd (cc)
idle_quiet (publishing.Sent slot delivery) h = absurd (cc)
idle_quiet (publishing.Dropping slot) h = absurd (cc)

begun_quiet : (moment : ℕ) (c : Call) (lane : PublisherLaneState) → publisher_is_idle lane.port.call ≡ true
    → is_quiet (publisher_begun moment c lane).port.call ≡ true
begun_quiet moment call.LoanUninit lane h = loan_quiet 0 (slice_get lane.port.routes 0)
begun_quiet moment (call.Write loan payload user_header) lane h = write_quiet loan 0 (slice_get payload.items 0)
begun_quiet moment (call.Send loan) lane h = head_quiet loan 0 (slice_get (head_of loan lane) 0)
begun_quiet moment (call.DropLoan loan) lane h = refl
begun_quiet moment call.Receive lane h = idle_quiet lane.port.call h
begun_quiet moment (call.Read sample) lane h = idle_quiet lane.port.call h
begun_quiet moment (call.Release sample) lane h = idle_quiet lane.port.call h

busy_unquiet : (c : PublisherCall) → is_quiet c ≡ false → publisher_is_idle c ≡ false
busy_unquiet publishing.Idle h = absurd (cc)
busy_unquiet (publishing.LoanReclaims place route p) h = refl
busy_unquiet publishing.Lending h = refl
busy_unquiet (publishing.Writing slot word value) h = refl
busy_unquiet (publishing.Written slot) h = refl
busy_unquiet (publishing.Heading slot word value) h = refl
busy_unquiet (publishing.Remembering slot) h = refl
busy_unquiet (publishing.SendReclaims slot place route p) h = refl
busy_unquiet (publishing.Pushing slot place route p delivery) h = refl
busy_unquiet (publishing.Sent slot delivery) h = refl
busy_unquiet (publishing.Dropping slot) h = refl

lent_nothing : (loan : Option LoanAnswer) → sends_nothing (Some (lent loan)) ≡ true
lent_nothing None = refl
lent_nothing (Some given) = refl

-- what a publisher that goes on leaves behind
abbrev gone : World → ℕ → Bool → PublisherCall → CallName → ℕ → Option LoanAnswer → World
gone m place fails c call first loan = record m {
  table = after_shared m.table (publisher_next c);
  orders = added m.orders (pushes_to c) m.moments (push_acts m.table c);
  finished = m.finished ++ ended (Publisher place) call first m.moments (publisher_answer fails c loan);
  moments = successor m.moments;
}

-- the steps of a publisher itself
module _ (m : World) (place : ℕ) (fails : Bool) (routes : List Route) (words : List ℕ) (call : CallName) (first : ℕ)
    (loan : Option LoanAnswer) (bound : m.moments < 2 ^ 63) (w : IsWithin m) (links : All (IsLinkOf m.links sender place) routes) where
  -- one that pushes nothing
  quiet_goes : (c : PublisherCall) → IsOfTable m.table.sizes (publisher_next c) → is_quiet c ≡ true
      → ((connection : ℕ) → pushes_to c ≡ Some connection → ⊥) → sends_nothing (publisher_answer fails c loan) ≡ true
      → SendsPut m place fails routes first c
      → SendsPut (gone m place fails c call first loan) place fails routes first c
  quiet_goes c touch q off none h =
      grows m (gone m place fails c call first loan) place fails routes first c refl
      (same_sends place m.finished (Publisher place) call first m.moments (publisher_answer fails c loan) (inr none))
      (grow_added m.orders (pushes_to c) m.moments (push_acts m.table c)) (next_le m.moments bound) (λ busy. absurd (cc (q, busy)))
      (λ i route at. let own : IsLinkOf m.links sender place route
      = all_at (IsLinkOf m.links sender place) routes i route at links in off_push m c touch w c route own.link own.found
      (off route.connection)) h

  sweeps : (n : World) (slot at : ℕ) (c : PublisherCall) (route : Option Route) → first ≤ n.moments → is_quiet c ≡ true
      → SendsPut n place fails routes first c → SendsPut n place fails routes first (sweep_from routes slot at route)
  sweeps n slot at c None begun q h = quiet_pushes n place fails routes first slot c begun q h
  sweeps n slot at c (Some route) begun q h
      = quiet_change n place fails routes first first c (sweep_from routes slot at (Some route)) q refl h

  swept : (n : World) (slot at : ℕ) (c : PublisherCall) (route : Route) (p : refusing_pop_type.Pop) (a : Option PopAnswer)
      → first ≤ n.moments → is_quiet c ≡ true → SendsPut n place fails routes first c
      → SendsPut n place fails routes first (send_reclaimed routes slot at route p a)
  swept n slot at c route p None begun q h
      = quiet_change n place fails routes first first c (send_reclaimed routes slot at route p None) q refl h
  swept n slot at c route p (Some (Got (Some back))) begun q h
      = quiet_change n place fails routes first first c (send_reclaimed routes slot at route p (Some (Got (Some back)))) q refl h
  swept n slot at c route p (Some (Got None)) begun q h = sweeps n slot (successor at) c (slice_get routes (successor at)) begun q h
  swept n slot at c route p (Some (Saw some)) begun q h = sweeps n slot (successor at) c (slice_get routes (successor at)) begun q h

  -- one that pushes
  push_steps : (slot at : ℕ) (route : Route) (p : Push) (delivery : Delivery)
      → IsOfTable m.table.sizes (publisher_next (publishing.Pushing slot at route p delivery)) → first ≤ m.moments → push_answer p ≡ None
      → ((link : LinkState) (order : List Placed) → slice_get m.links route.connection ≡ Some link
      → slice_get m.orders route.connection ≡ Some order → link.publisher ≡ place
      → IsKeptAt m.table m.moments route.connection link order (publishing.Pushing slot at route p delivery)
      (subscriber_stage (slice_get m.subscribers link.subscriber)))
      → SendsPut m place fails routes first (publishing.Pushing slot at route p delivery)
      → SendsPut (gone m place fails (publishing.Pushing slot at route p delivery) call first loan) place fails routes first
      (publisher_take routes words (publishing.Pushing slot at route p delivery)
      (shared_answer m.table (publisher_next (publishing.Pushing slot at route p delivery))))
  push_steps slot at route p delivery touch begun unanswered kept h =
      let own : IsLinkOf m.links sender place route = all_at (IsLinkOf m.links sender place) routes at route (h.so_far).at links in
      let order : List Placed = get_or m.orders route.connection [] in
      let there : slice_get m.orders route.connection ≡ Some order = order_there m route.connection own.link own.found w in
      let p' : Push = push_take p (shared_answer m.table (publisher_next (publishing.Pushing slot at route p delivery))) in
      let core = push_core m.table m.moments slot at route p delivery own.link order
      (subscriber_stage (slice_get m.subscribers (own.link).subscriber)) route.submission_cells route.limit own.cells own.limit
      (seat m route.connection own.link own.found w) bound unanswered (kept own.link order own.found there own.own) in
      let n : World = gone m place fails (publishing.Pushing slot at route p delivery) call first loan in
      let moved : SendsPut n place fails routes first (publishing.Pushing slot at route p' delivery) =
      push_moves m n place fails routes first slot at route p p' delivery refl
      (same_sends place m.finished (Publisher place) call first m.moments None (inr refl))
      (grow_added m.orders (Some route.connection) m.moments (push_acts m.table (publishing.Pushing slot at route p delivery)))
      (next_le m.moments bound) begun
      (value_stays p (shared_answer m.table (publisher_next (publishing.Pushing slot at route p delivery))) unanswered)
      (λ i other found. elim (eqb_tells i at) [
        | inl same ↦
            let is : other ≡ route = some_is other route (sym found ∙ ap (slice_get routes) same.1 ∙ (h.so_far).at) in
            subst (λ (r : Route). RouteGrows m.moments m.orders n.orders m.table n.table (publishing.Pushing slot at route p delivery)
            (publishing.Pushing slot at route p' delivery) r) (sym is)
            (record {
              new = put_values (push_acts m.table (publishing.Pushing slot at route p delivery));
              puts = puts_on m.orders (Some route.connection) m.moments
                  (push_acts m.table (publishing.Pushing slot at route p delivery)) route order refl there;
              hand = ap (put_in_hand (read_at n.table route)) (push_here slot at route route.kind p' delivery) ∙ core
                  ∙ sym (ap (λ (x : Push). put_in_hand (read_at m.table route) x
                  ++ put_values (push_acts m.table (publishing.Pushing slot at route p delivery)))
                  (push_here slot at route route.kind p delivery));
            })
        | inr differs ↦
            let off : Some route.connection ≡ Some other.connection
            → ⊥ = λ e. differs.1 (sym ((h.connections).once at i route other (h.so_far).at found
            (some_is route.connection other.connection e))) in
            let theirs : IsLinkOf m.links sender place other = all_at (IsLinkOf m.links sender place) routes i other found links in
            other_push slot at route p p' delivery other
            (off_push m (publishing.Pushing slot at route p delivery) touch w (publishing.Pushing slot at route p delivery) other
            theirs.link theirs.found off) off
      ]) h in
      by_answer n slot at route p' delivery (push_answer p') refl (omega (arith, (h.so_far).few, bound)) (omega (arith, bound)) moved
    where
      other_push : (slot at : ℕ) (route : Route) (p p' : Push) (delivery : Delivery) (other : Route)
          → RouteGrows m.moments m.orders (added m.orders (Some route.connection) m.moments
          (push_acts m.table (publishing.Pushing slot at route p delivery))) m.table
          (after_shared m.table (publisher_next (publishing.Pushing slot at route p delivery)))
          (publishing.Pushing slot at route p delivery) (publishing.Pushing slot at route p delivery) other
          → (Some route.connection ≡ Some other.connection → ⊥)
          → RouteGrows m.moments m.orders (added m.orders (Some route.connection) m.moments
          (push_acts m.table (publishing.Pushing slot at route p delivery))) m.table
          (after_shared m.table (publisher_next (publishing.Pushing slot at route p delivery)))
          (publishing.Pushing slot at route p delivery) (publishing.Pushing slot at route p' delivery) other
      other_push slot at route p p' delivery other g off = record {
        new = g.new;
        puts = g.puts;
        hand = ap (put_in_hand (read_at (after_shared m.table (publisher_next (publishing.Pushing slot at route p delivery))) other))
            (push_off other.connection other.kind (publishing.Pushing slot at route p' delivery) off ∙ sym
            (push_off other.connection other.kind (publishing.Pushing slot at route p delivery) off)) ∙ g.hand;
      }

      by_answer : (n : World) (slot at : ℕ) (route : Route) (p' : Push) (delivery : Delivery) (a : Option PushAnswer)
          → push_answer p' ≡ a → at + 1 ≤ n.moments → n.moments ≤ 2 ^ 63
          → SendsPut n place fails routes first (publishing.Pushing slot at route p' delivery)
          → SendsPut n place fails routes first (pushed routes slot at route p' delivery a)
      by_answer n slot at route p' delivery None e few small g = g
      by_answer n slot at route p' delivery (Some given) e few small g
          = push_answered n place fails routes first slot at route p' delivery given e few small g

  -- any of them
  own_steps : (c : PublisherCall) → IsOfTable m.table.sizes (publisher_next c) → (publisher_is_idle c ≡ false → first ≤ m.moments)
      → IsStageOf call c
      → ((connection : ℕ) (link : LinkState) (order : List Placed) → slice_get m.links connection ≡ Some link
      → slice_get m.orders connection ≡ Some order → link.publisher ≡ place
      → IsKeptAt m.table m.moments connection link order c (subscriber_stage (slice_get m.subscribers link.subscriber)))
      → SendsPut m place fails routes first c
      → SendsPut (gone m place fails c call first loan) place fails routes first
      (publisher_take routes words c (shared_answer m.table (publisher_next c)))
  own_steps publishing.Idle touch begun stage kept h = quiet_goes publishing.Idle touch refl (λ n e. absurd (cc e)) refl h
  own_steps (publishing.LoanReclaims at route p) touch begun stage kept h =
      let c : PublisherCall = publishing.LoanReclaims at route p in
      let a : ℕ = shared_answer m.table (publisher_next c) in
      quiet_change (gone m place fails c call first loan) place fails routes first first c (publisher_take routes words c a) refl
      (reclaimed_quiet routes at route (refusing.pop_take p a) (refusing_pop_answer (refusing.pop_take p a)))
      (quiet_goes c touch refl (λ n e. absurd (cc e)) refl h)
  own_steps publishing.Lending touch begun stage kept h =
      quiet_change (gone m place fails publishing.Lending call first loan) place fails routes first first publishing.Lending
      publishing.Idle refl refl (quiet_goes publishing.Lending touch refl (λ n e. absurd (cc e)) (lent_nothing loan) h)
  own_steps (publishing.Writing slot word value) touch begun stage kept h =
      let c : PublisherCall = publishing.Writing slot word value in
      quiet_change (gone m place fails c call first loan) place fails routes first first c
      (write_from slot (successor word) (slice_get words (successor word))) refl
      (write_quiet slot (successor word) (slice_get words (successor word)))
      (quiet_goes c touch refl (λ n e. absurd (cc e)) refl h)
  own_steps (publishing.Written slot) touch begun stage kept h =
      quiet_change (gone m place fails (publishing.Written slot) call first loan) place fails routes first first
      (publishing.Written slot) publishing.Idle refl refl
      (quiet_goes (publishing.Written slot) touch refl (λ n e. absurd (cc e)) refl h)
  own_steps (publishing.Heading slot word value) touch begun stage kept h =
      let c : PublisherCall = publishing.Heading slot word value in
      quiet_change (gone m place fails c call first loan) place fails routes first first c
      (head_from slot (successor word) (slice_get words (successor word))) refl
      (head_quiet slot (successor word) (slice_get words (successor word)))
      (quiet_goes c touch refl (λ n e. absurd (cc e)) refl h)
  own_steps (publishing.Remembering slot) touch begun stage kept h =
      let c : PublisherCall = publishing.Remembering slot in
      sweeps (gone m place fails c call first loan) slot 0 c (slice_get routes 0) (omega (arith, begun refl, next_le m.moments bound))
      refl (quiet_goes c touch refl (λ n e. absurd (cc e)) refl h)
  own_steps (publishing.SendReclaims slot at route p) touch begun stage kept h =
      let c : PublisherCall = publishing.SendReclaims slot at route p in
      let a : ℕ = shared_answer m.table (publisher_next c) in
      swept (gone m place fails c call first loan) slot at c route (refusing.pop_take p a) (refusing_pop_answer (refusing.pop_take p a))
      (omega (arith, begun refl, next_le m.moments bound)) refl (quiet_goes c touch refl (λ n e. absurd (cc e)) refl h)
  own_steps (publishing.Pushing slot at route p delivery) touch begun stage kept h =
      push_steps slot at route p delivery touch (begun refl) stage.1
      (λ link order found there own. kept route.connection link order found there own) h
  own_steps (publishing.Sent slot delivery) touch begun stage kept h =
      let m' : World = record m
      { finished = m.finished ++ ended (Publisher place) call first m.moments (Some (answer.Sent (send_answer fails delivery))) } in
      let done : SendsPut m' place fails routes first publishing.Idle = send_ends m place fails routes first slot delivery call stage h in
      grows m' (gone m place fails (publishing.Sent slot delivery) call first loan) place fails routes first publishing.Idle refl refl
      (grow_none m.orders) (next_le m.moments bound) (λ busy. absurd (cc busy))
      (λ i route at. still m.moments m.orders m.orders m.table m.table publishing.Idle route refl refl) done
  own_steps (publishing.Dropping slot) touch begun stage kept h =
      quiet_change (gone m place fails (publishing.Dropping slot) call first loan) place fails routes first first
      (publishing.Dropping slot) publishing.Idle refl refl
      (quiet_goes (publishing.Dropping slot) touch refl (λ n e. absurd (cc e)) refl h)

-- worlds that differ in nothing that sends say
same_world : (m n : World) (who : ℕ) (fails : Bool) (routes : List Route) (first : ℕ) (c : PublisherCall) → n.links ≡ m.links
    → n.finished ≡ m.finished → n.orders ≡ m.orders → n.table ≡ m.table → n.moments ≡ m.moments → SendsPut m who fails routes first c
    → SendsPut n who fails routes first c
same_world m n who fails routes first c links finished orders table moments h = record {
  connections = subst (λ (x : List LinkState). HasConnections x who routes) (sym links) h.connections;
  sent = subst (λ (x : List FinishedCall). (number : ℕ) (send : FinishedCall) → slice_get (sends_of who x) number ≡ Some send
      → IsSent n.orders fails routes number send) (sym finished)
      (subst (λ (x : List (List Placed)). (number : ℕ) (send : FinishedCall) → slice_get (sends_of who m.finished) number ≡ Some send
      → IsSent x fails routes number send) (sym orders) h.sent);
  so_far = subst (λ (x : List FinishedCall). PutSoFar n.table n.orders routes (length (sends_of who x)) first n.moments c) (sym finished)
      (subst (λ (x : List (List Placed)). PutSoFar n.table x routes (length (sends_of who m.finished)) first n.moments c) (sym orders)
      (subst (λ (x : TableWords). PutSoFar x m.orders routes (length (sends_of who m.finished)) first n.moments c) (sym table)
      (subst (λ (x : ℕ). PutSoFar m.table m.orders routes (length (sends_of who m.finished)) first x c) (sym moments) h.so_far)));
  no_more = subst (λ (x : List FinishedCall). (i : ℕ) (route : Route) → slice_get routes i ≡ Some route
      → length (puts_at n.orders route) ≡ length (sends_of who x) + done_at i c + in_hand_at n.table route c) (sym finished)
      (subst (λ (x : List (List Placed)). (i : ℕ) (route : Route) → slice_get routes i ≡ Some route
      → length (puts_at x route) ≡ length (sends_of who m.finished) + done_at i c + in_hand_at n.table route c) (sym orders)
      (subst (λ (x : TableWords). (i : ℕ) (route : Route) → slice_get routes i ≡ Some route
      → length (puts_at m.orders route) ≡ length (sends_of who m.finished) + done_at i c + in_hand_at x route c) (sym table)
      h.no_more));
}

-- a call that is in progress has begun
is_begun : (m : World) (who : ℕ) (lane : PublisherLaneState) → slice_get m.publishers who ≡ Some lane → CallsFollow m
    → publisher_is_idle lane.port.call ≡ false → lane.first ≤ m.moments
is_begun m who lane e calls busy = omega (arith, ((calls.publishers who lane e).1 busy).begun)

has_begun : (m : World) (who : ℕ) (lane : PublisherLaneState) → slice_get m.publishers who ≡ Some lane → CallsFollow m
    → is_quiet lane.port.call ≡ false → lane.first ≤ m.moments
has_begun m who lane e calls busy = is_begun m who lane e calls (busy_unquiet lane.port.call busy)

-- a publisher that stands where it stood, while nothing was placed
waits : (m n : World) (who : ℕ) (lane : PublisherLaneState) → slice_get m.publishers who ≡ Some lane → CallsFollow m → n.links ≡ m.links
    → n.finished ≡ m.finished → n.orders ≡ m.orders → n.table ≡ m.table → m.moments ≤ n.moments
    → SendsPut m who lane.fails lane.port.routes lane.first lane.port.call
    → SendsPut n who lane.fails lane.port.routes lane.first lane.port.call
waits m n who lane e calls links finished orders table later h =
    grows m n who lane.fails lane.port.routes lane.first lane.port.call links (ap (sends_of who) finished)
    (subst (Grow m.orders) (sym orders) (grow_none m.orders)) later (has_begun m who lane e calls)
    (λ i route at. still m.moments m.orders n.orders m.table n.table lane.port.call route
    (ap (λ (os : List (List Placed)). puts_at os route) orders) (ap (λ (t : TableWords). read_at t route) table)) h

-- a publisher that begins a call fails at a full mailbox if it did
pub begun_fails : (moment : ℕ) (c : Call) (lane : PublisherLaneState) → (publisher_begun moment c lane).fails ≡ lane.fails
begun_fails moment call.LoanUninit lane = refl
begun_fails moment (call.Write loan payload user_header) lane = refl
begun_fails moment (call.Send loan) lane = refl
begun_fails moment (call.DropLoan loan) lane = refl
begun_fails moment call.Receive lane = refl
begun_fails moment (call.Read sample) lane = refl
begun_fails moment (call.Release sample) lane = refl

begun_publisher : (m : World) (place : ℕ) (c : Call) (at : Option PublisherLaneState) → slice_get m.publishers place ≡ at
    → publisher_fits_at at (Begin c) ≡ true → m.moments < 2 ^ 63 → CallsFollow m → AllSendsPut m
    → AllSendsPut (publisher_begins m place c at)
begun_publisher m place c None e fit bound calls k = absurd (cc)
begun_publisher m place c (Some lane) e fit bound calls k = λ who other got. elim (eqb_tells who place) [
  | inl same ↦
      let n : World = publisher_begins m place c (Some lane) in
      let is : other ≡ publisher_begun m.moments c lane
      = set_is m.publishers place who lane (publisher_begun m.moments c lane) other e same.1 got in
      let idle : publisher_is_idle lane.port.call ≡ true = and_left (publisher_is_idle lane.port.call) (publisher_may lane c) fit in
      let waited : SendsPut n place lane.fails lane.port.routes lane.first lane.port.call
      = waits m n place lane e calls refl refl refl refl (next_le m.moments bound) (k place lane e) in
      let begun : SendsPut n place lane.fails lane.port.routes (publisher_begun m.moments c lane).first
      (publisher_begun m.moments c lane).port.call =
      quiet_change n place lane.fails lane.port.routes lane.first (publisher_begun m.moments c lane).first lane.port.call
      (publisher_begun m.moments c lane).port.call (idle_quiet lane.port.call idle) (begun_quiet m.moments c lane idle) waited in
      subst (λ (i : ℕ). SendsPut n i other.fails other.port.routes other.first other.port.call) (sym same.1)
      (subst (λ (x : PublisherLaneState). SendsPut n place x.fails x.port.routes x.first x.port.call) (sym is)
      (subst (λ (f : Bool). SendsPut n place f (publisher_begun m.moments c lane).port.routes (publisher_begun m.moments c lane).first
      (publisher_begun m.moments c lane).port.call) (sym (begun_fails m.moments c lane))
      (subst (λ (rs : List Route). SendsPut n place lane.fails rs (publisher_begun m.moments c lane).first
      (publisher_begun m.moments c lane).port.call) (sym (publisher_routes m.moments c lane)) begun)))
  | inr differs ↦
      let there : slice_get m.publishers who ≡ Some other
      = sym (set_other m.publishers place who (publisher_begun m.moments c lane) differs.1) ∙ got in
      waits m (publisher_begins m place c (Some lane)) who other there calls refl refl refl refl (next_le m.moments bound)
      (k who other there)
]

begun_subscriber : (m : World) (place : ℕ) (c : Call) (at : Option SubscriberLaneState) → subscriber_fits_at at (Begin c) ≡ true
    → m.moments < 2 ^ 63 → CallsFollow m → AllSendsPut m → AllSendsPut (subscriber_begins m place c at)
begun_subscriber m place c None fit bound calls k = absurd (cc)
begun_subscriber m place c (Some lane) fit bound calls k
    = λ who other there. waits m (subscriber_begins m place c (Some lane)) who other there calls refl refl refl refl
    (next_le m.moments bound) (k who other there)

not_same : (a b : ℕ) → (b ≡ a → ⊥) → (a == b) ≡ false
not_same a b h = elim (eqb_tells a b) [
  | inl same ↦ absurd (h (sym same.1))
  | inr differ ↦ differ.0
]

gone_publisher : (m : World) (place : ℕ) (at : Option PublisherLaneState) → slice_get m.publishers place ≡ at
    → publisher_fits_at at GoOn ≡ true → m.moments < 2 ^ 63 → IsWithin m → AreKept m → CallsFollow m → AllSendsPut m
    → AllSendsPut (publisher_goes_on (record m
    { orders = added m.orders (pushes_to (publisher_stage at)) m.moments (push_acts m.table (publisher_stage at)) }) place at)
gone_publisher m place None e fit bound w kept calls k = absurd (cc)
gone_publisher m place (Some lane) e fit bound w kept calls k = λ who other got. elim (eqb_tells who place) [
  | inl same ↦ subst (λ (i : ℕ). SendsPut after i other.fails other.port.routes other.first other.port.call) (sym same.1)
      (subst (λ (x : PublisherLaneState). SendsPut after place x.fails x.port.routes x.first x.port.call)
      (sym (set_is m.publishers place who lane (publisher_after (publisher_given m.table lane) lane) other e same.1 got)) own)
  | inr differs ↦ others who other (sym
      (set_other m.publishers place who (publisher_after (publisher_given m.table lane) lane) differs.1) ∙ got) differs.1
]
  where
    after : World
    after = publisher_goes_on (record m
        { orders = added m.orders (pushes_to lane.port.call) m.moments (push_acts m.table lane.port.call) }) place (Some lane)

    is : IsPublisher m.table.sizes lane
    is = all_at (IsPublisher m.table.sizes) m.publishers place lane e w.publishers

    loan : Option LoanAnswer
    loan = (publisher_after (publisher_given m.table lane) lane).port.book.answer

    own : SendsPut after place lane.fails lane.port.routes lane.first (publisher_after (publisher_given m.table lane) lane).port.call
    own =
        same_world (gone m place lane.fails lane.port.call lane.call lane.first loan) after place lane.fails lane.port.routes lane.first
        (publisher_after (publisher_given m.table lane) lane).port.call refl refl refl refl refl
        (own_steps m place lane.fails lane.port.routes (words_of lane.port) lane.call lane.first loan bound w (w.senders place lane e)
        lane.port.call ((publishers_stay_within m.table.sizes lane is).2) (is_begun m place lane e calls)
        (calls.publishers place lane e).0
        (λ connection link order found there mine. subst
        (λ (c : PublisherCall). IsKeptAt m.table m.moments connection link order c
        (subscriber_stage (slice_get m.subscribers link.subscriber))) (ap publisher_stage (ap (slice_get m.publishers) mine ∙ e))
        (kept connection link order found there))
        (k place lane e))

    others : (who : ℕ) (other : PublisherLaneState) → slice_get m.publishers who ≡ Some other → (who ≡ place → ⊥)
        → SendsPut after who other.fails other.port.routes other.first other.port.call
    others who other there differs =
        grows m after who other.fails other.port.routes other.first other.port.call refl
        (same_sends who m.finished (Publisher place) lane.call lane.first m.moments (publisher_ending m.table lane)
        (inl (not_same place who differs)))
        (grow_added m.orders (pushes_to lane.port.call) m.moments (push_acts m.table lane.port.call)) (next_le m.moments bound)
        (has_begun m who other there calls)
        (λ i route at.
        let theirs : IsLinkOf m.links sender who route
        = all_at (IsLinkOf m.links sender who) other.port.routes i route at (w.senders who other there) in
        off_push m lane.port.call ((publishers_stay_within m.table.sizes lane is).2) w other.port.call route theirs.link theirs.found
        (λ here. differs (sym theirs.own ∙ pushes_own m place lane route.connection theirs.link e w theirs.found here)))
        (k who other there)

gone_subscriber : (m : World) (place : ℕ) (at : Option SubscriberLaneState) → slice_get m.subscribers place ≡ at
    → subscriber_fits_at at GoOn ≡ true → m.moments < 2 ^ 63 → IsWithin m → AreKept m → CallsFollow m → AllSendsPut m
    → AllSendsPut (subscriber_goes_on (record m
    { orders = added m.orders (pops_from (subscriber_stage at)) m.moments (pop_acts m (subscriber_stage at)) }) place at)
gone_subscriber m place None e fit bound w kept calls k = absurd (cc)
gone_subscriber m place (Some reader) e fit bound w kept calls k = λ who other there.
    grows m (subscriber_goes_on (record m
    { orders = added m.orders (pops_from reader.port.call) m.moments (pop_acts m reader.port.call) }) place (Some reader)) who
    other.fails other.port.routes other.first other.port.call refl
    (same_sends who m.finished (Subscriber place) reader.call reader.first m.moments
    (subscriber_answer reader.port.call (length m.read)) (inl refl))
    (grow_added m.orders (pops_from reader.port.call) m.moments (pop_acts m reader.port.call)) (next_le m.moments bound)
    (has_begun m who other there calls)
    (λ i route at. pop_route m place reader who other i route e there at w kept bound)
    (k who other there)

pub happens_sends : (m : World) (party : Party) (step : Move) → fits m party step ≡ true → m.moments < 2 ^ 63 → IsWithin m → AreKept m
    → CallsFollow m → AllSendsPut m → AllSendsPut (happens m party step)
happens_sends m (Publisher place) (Begin c) fit bound w kept calls k
    = begun_publisher m place c (slice_get m.publishers place) refl fit bound calls k
happens_sends m (Subscriber place) (Begin c) fit bound w kept calls k
    = begun_subscriber m place c (slice_get m.subscribers place) fit bound calls k
happens_sends m (Publisher place) GoOn fit bound w kept calls k
    = gone_publisher m place (slice_get m.publishers place) refl fit bound w kept calls k
happens_sends m (Subscriber place) GoOn fit bound w kept calls k
    = gone_subscriber m place (slice_get m.subscribers place) refl fit bound w kept calls k
