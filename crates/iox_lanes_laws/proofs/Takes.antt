-- A receive takes once at each connection, in their order, up to the first that gives.
use Rattle.std.proofs.Common.{ℕ, suc, ◌≡◌, ◌+◌, ◌-◌, ◌<◌, ◌≤◌, ◌^◌, ◌==◌, ◌&&◌, ◌||◌, Bool, true, false, if◌then◌else◌, List, [], ◌∷◌}
use Rattle.std.proofs.Common.{◌++◌, length, get_or, slice_get, Option, Some, None, refl, sym, ◌∙◌, ap, subst, inl, inr, arith, append-nil}
use Rattle.std.proofs.Common.{append_assoc}
use Rattle.std.proofs.lemmas.Bool.Decides.{eqb_tells}
use Rattle.iox_queues_steps.specs.Access.{successor, RingWords, answer_of}
use Rattle.iox_queues_steps.specs.Order.{take_values}
use Rattle.iox_queues_steps.specs.Ends.{Shape, cells_of, pop_ended, pop_first, pop_looks, pop_next, pop_take, placed_by_pop}
use Rattle.iox_queues_steps.specs.Overflowing as overflowing
use Rattle.iox_queues_steps.specs.Refusing as refusing
use Rattle.iox_queues_steps.specs.declared.access.Access.TheVariants as own
use Rattle.iox_queues_steps.specs.declared.order.PopAnswer.{PopAnswer}
use Rattle.iox_queues_steps.specs.declared.order.PopAnswer.TheVariants.{Got, Saw}
use Rattle.iox_queues_steps.specs.declared.rings.ends.RingKind.{RingKind}
use Rattle.iox_queues_steps.specs.declared.rings.ends.Push.{Push}
use Rattle.iox_queues_steps.specs.declared.rings.ends.Pop.{Pop}
use Rattle.iox_queues_steps.specs.declared.rings.ends.Pop.TheVariants as pop
use Rattle.iox_queues_steps.specs.declared.rings.overflowing.pop.Pop.TheVariants as overflowing_pop
use Rattle.iox_queues_steps.specs.declared.rings.refusing.pop.Pop.TheVariants as refusing_pop
use Rattle.iox_lanes_base.specs.Answers.{pop_answer}
use Rattle.iox_lanes_base.specs.Table.{shared_answer}
use Rattle.iox_lanes_base.specs.Words.{on_ring}
use Rattle.iox_lanes_base.specs.Subscribing.{subscriber_next, subscriber_take, subscriber_change, subscriber_is_idle, borrowed_by}
use Rattle.iox_lanes_base.specs.Subscribing.{is_full_at, receive_from, received}
use Rattle.iox_lanes_base.specs.declared.words.word.ConnectionRing.TheVariants.{Submission}
use Rattle.iox_lanes_base.specs.declared.calls.publisher.PublisherCall.{PublisherCall}
use Rattle.iox_lanes_base.specs.declared.calls.route.Route.{Route}
use Rattle.iox_lanes_base.specs.declared.calls.subscriber.SubscriberCall.{SubscriberCall}
use Rattle.iox_lanes_base.specs.declared.calls.subscriber.SubscriberCall.TheVariants as subscribing
use Rattle.iox_lanes_machine.proofs.QueuesSteps.EitherRing.{pop_goes}
use Rattle.iox_lanes_machine.specs.LanesParties.Keeping as keeping
use Rattle.iox_lanes_machine.specs.LanesParties.Keeping.{SubscriberState}
use Rattle.iox_lanes_machine.specs.LanesParties.Parties.{SubscriberLaneState, subscriber_may, subscriber_fits, subscriber_begun}
use Rattle.iox_lanes_machine.specs.LanesParties.Parties.{subscriber_after}
use Rattle.iox_lanes_machine.specs.LanesParties.Within.{IsSubscriber, IsSubscribing}
use Rattle.iox_lanes_machine.specs.LanesParties.declared.call.Call.TheVariants as call
use Rattle.iox_lanes_machine.specs.LanesParties.declared.call.Entry.{Entry}
use Rattle.iox_lanes_machine.specs.LanesParties.declared.call.Move.{Move}
use Rattle.iox_lanes_machine.specs.LanesParties.declared.call.Move.TheVariants.{Begin, GoOn}
use Rattle.iox_lanes_machine.specs.LanesParties.declared.call.Party.{Party}
use Rattle.iox_lanes_machine.specs.LanesParties.declared.call.Party.TheVariants.{Publisher, Subscriber}
use Rattle.iox_lanes_machine.proofs.LanesParties.Rings.{all_at, and_left}
use Rattle.iox_lanes_machine.specs.Kept.{IsKept, IsKeptAt, IsLinkOf, receiver}
use Rattle.iox_lanes_machine.specs.Links.{LinkState}
use Rattle.iox_lanes_machine.specs.Paces.{after_entry, led}
use Rattle.iox_lanes_machine.specs.Receipts.{is_receiver}
use Rattle.iox_lanes_machine.specs.Rings.{push_on, ring_in, waiting}
use Rattle.iox_lanes_machine.specs.WholeReads.{CameTo}
use Rattle.iox_lanes_machine.specs.World.{World, fits, happens, pop_acts, pops_from, publisher_stage, push_at, sender_stage}
use Rattle.iox_lanes_machine.specs.World.{subscriber_begins, subscriber_fits_at, subscriber_given, subscriber_stage}
use Rattle.iox_lanes_machine.proofs.Ends.{pop_here, some_is}
use Rattle.iox_lanes_machine.proofs.InTable.{access_answer}
use Rattle.iox_lanes_machine.proofs.Kept.{seat}
use Rattle.iox_lanes_machine.proofs.Mailboxes.{order_there}
use Rattle.iox_lanes_machine.proofs.Paces.{came_kept, later, one_more}
use Rattle.iox_lanes_machine.proofs.Steps.{happens_moments}
use Rattle.iox_lanes_machine.proofs.Whole.{happens_keeps}
use Rattle.iox_lanes_machine.proofs.Within.{changed_routes, set_same}
use Rattle.iox_lanes_laws.specs.Accesses.{IsInSubscriberCall}
use Rattle.iox_lanes_laws.specs.Takes.{PlacedTake, placed_takes, takes_on, step_takes, own_takes, Took, Visits, ReceivesTakeInOrder}
use Rattle.iox_lanes_laws.proofs.Pops.{first_looks}
use Rattle.iox_lanes_laws.proofs.SubscriberCourses.{Goes, begun_first, begun_goes, goes_on, staged, turn}

-- the answer of a look tells, and that of a pop gives
abbrev IsOf : Bool → Option PopAnswer → Type 0
IsOf looks None = Unit {0}
IsOf looks (Some (Got got)) = looks ≡ false
IsOf looks (Some (Saw some)) = looks ≡ true

-- a pop stays a pop, and a look a look
abbrev Stays : Bool → Pop → Type 0
Stays looks p = (pop_looks p ≡ looks) × IsOf looks (pop_answer p)

emptied_stays : (b : Bool) (read : ℕ) → Stays false (pop.Overflowing (overflowing.pop_emptied b read))
emptied_stays true read = (refl, refl)
emptied_stays false read = (refl, tt)

swapped_stays : (b : Bool) (found value : ℕ) → Stays false (pop.Overflowing (overflowing.pop_swapped b found value))
swapped_stays true found value = (refl, refl)
swapped_stays false found value = (refl, tt)

back_stays : (b : Bool) (read : ℕ) → Stays false (pop.Refusing (refusing.pop_emptied b read))
back_stays true read = (refl, refl)
back_stays false read = (refl, tt)

stays : (p : Pop) (given : ℕ) → (pop_next p ≡ own.Local → ⊥) → Stays (pop_looks p) (pop_take p given)
stays (pop.Overflowing overflowing_pop.Idle) given was = absurd (was refl)
stays (pop.Overflowing overflowing_pop.Begun) given was = (refl, tt)
stays (pop.Overflowing (overflowing_pop.SawRead read)) given was = emptied_stays (given == read) read
stays (pop.Overflowing (overflowing_pop.Nonempty read next)) given was = (refl, tt)
stays (pop.Overflowing (overflowing_pop.SawCell read next value)) given was = swapped_stays (given == read) given value
stays (pop.Overflowing (overflowing_pop.Popped got)) given was = absurd (was refl)
stays (pop.Overflowing overflowing_pop.LookBegun) given was = (refl, tt)
stays (pop.Overflowing (overflowing_pop.LookRead read)) given was = (refl, refl)
stays (pop.Overflowing (overflowing_pop.Looked some)) given was = absurd (was refl)
stays (pop.Refusing refusing_pop.Idle) given was = absurd (was refl)
stays (pop.Refusing refusing_pop.Begun) given was = (refl, tt)
stays (pop.Refusing (refusing_pop.SawRead read)) given was = back_stays (given == read) read
stays (pop.Refusing (refusing_pop.Nonempty read next)) given was = (refl, tt)
stays (pop.Refusing (refusing_pop.SawCell next value)) given was = (refl, refl)
stays (pop.Refusing (refusing_pop.Popped got)) given was = absurd (was refl)
stays (pop.Refusing refusing_pop.LookBegun) given was = (refl, tt)
stays (pop.Refusing (refusing_pop.LookRead read)) given was = (refl, refl)
stays (pop.Refusing (refusing_pop.Looked some)) given was = absurd (was refl)

-- what a receive's stage says of where it is
abbrev place_at : SubscriberCall → ℕ
place_at subscribing.Idle = 0
place_at (subscribing.Receiving place route p waits) = place
place_at (subscribing.Received got) = 0
place_at (subscribing.Reading slot word extent) = 0
place_at (subscribing.WasRead slot) = 0
place_at (subscribing.Releasing place route p) = 0
place_at (subscribing.Released done) = 0

abbrev waits_at : SubscriberCall → Bool
waits_at subscribing.Idle = false
waits_at (subscribing.Receiving place route p waits) = waits
waits_at (subscribing.Received got) = false
waits_at (subscribing.Reading slot word extent) = false
waits_at (subscribing.WasRead slot) = false
waits_at (subscribing.Releasing place route p) = false
waits_at (subscribing.Released done) = false

abbrev looks_at : SubscriberCall → Bool
looks_at subscribing.Idle = false
looks_at (subscribing.Receiving place route p waits) = pop_looks p
looks_at (subscribing.Received got) = false
looks_at (subscribing.Reading slot word extent) = false
looks_at (subscribing.WasRead slot) = false
looks_at (subscribing.Releasing place route p) = false
looks_at (subscribing.Released done) = false

abbrev connection_of : SubscriberCall → ℕ
connection_of subscribing.Idle = 0
connection_of (subscribing.Receiving place route p waits) = route.connection
connection_of (subscribing.Received got) = 0
connection_of (subscribing.Reading slot word extent) = 0
connection_of (subscribing.WasRead slot) = 0
connection_of (subscribing.Releasing place route p) = 0
connection_of (subscribing.Released done) = 0

abbrev with_pop : Pop → SubscriberCall → SubscriberCall
with_pop p' subscribing.Idle = subscribing.Idle
with_pop p' (subscribing.Receiving place route p waits) = subscribing.Receiving place route p' waits
with_pop p' (subscribing.Received got) = subscribing.Received got
with_pop p' (subscribing.Reading slot word extent) = subscribing.Reading slot word extent
with_pop p' (subscribing.WasRead slot) = subscribing.WasRead slot
with_pop p' (subscribing.Releasing place route p) = subscribing.Releasing place route p
with_pop p' (subscribing.Released done) = subscribing.Released done

-- a visit that goes on
took_goes : (place : ℕ) (full waits : Bool) (a : PopAnswer) (more : List PlacedTake) (at : ℕ) (route : Route) (p p' : Pop) (w : Bool)
    (rest rest' : Bool → Type 0) → ((seen : Bool) → rest seen → rest' seen)
    → Took place full waits a more (subscribing.Receiving at route p w) rest
    → Took place full waits a more (subscribing.Receiving at route p' w) rest'
took_goes place full waits (Got (Some slot)) more at route p p' w rest rest' f h = absurd (cc h.2)
took_goes place full waits (Got None) more at route p p' w rest rest' f h = (h.0, f waits h.1)
took_goes place full waits (Saw some) more at route p p' w rest rest' f h = (h.0, f (waits || some) h.1)

visits_goes : (borrowed : List ℕ) (most place : ℕ) (waits : Bool) (routes : List Route) (takes : List PlacedTake) (at : ℕ)
    (route : Route) (p p' : Pop) (w : Bool) → pop_looks p' ≡ pop_looks p
    → Visits borrowed most place waits routes takes (subscribing.Receiving at route p w)
    → Visits borrowed most place waits routes takes (subscribing.Receiving at route p' w)
visits_goes borrowed most place waits [] [] at route p p' w same h = absurd (cc h)
visits_goes borrowed most place waits [] (t ∷ ts) at route p p' w same h = absurd h
visits_goes borrowed most place waits (r ∷ rs) [] at route p p' w same h
    = record { pop = p'; looks = same ∙ ap looks_at h.stage ∙ h.looks; stage = ap (with_pop p') h.stage }
visits_goes borrowed most place waits (r ∷ rs) (t ∷ ts) at route p p' w same h = (
  h.0,
  took_goes place (is_full_at borrowed most place) waits t.answer ts at route p p' w
      (λ seen. Visits borrowed most (place + 1) seen rs ts (subscribing.Receiving at route p w))
      (λ seen. Visits borrowed most (place + 1) seen rs ts (subscribing.Receiving at route p' w))
      (λ seen. visits_goes borrowed most (place + 1) seen rs ts at route p p' w same) h.1,
)

-- a receive that comes to a place
visits_begin : (borrowed : List ℕ) (most place : ℕ) (waits : Bool) (routes : List Route)
    → Visits borrowed most place waits routes [] (receive_from place (is_full_at borrowed most place) waits (slice_get routes 0))
visits_begin borrowed most place waits [] = refl
visits_begin borrowed most place waits (r ∷ rs)
    = record {
      pop = pop_first r.kind (is_full_at borrowed most place);
      looks = first_looks r.kind (is_full_at borrowed most place);
      stage
          = refl;
    }

-- one take or look more
took_more : (place : ℕ) (full waits : Bool) (a : PopAnswer) (more more' : List PlacedTake) (at : ℕ) (route : Route) (p : Pop) (w : Bool)
    (c' : SubscriberCall) (rest rest' : Bool → Type 0) → ((seen : Bool) → rest seen → rest' seen)
    → Took place full waits a more (subscribing.Receiving at route p w) rest → Took place full waits a more' c' rest'
took_more place full waits (Got (Some slot)) more more' at route p w c' rest rest' f h = absurd (cc h.2)
took_more place full waits (Got None) more more' at route p w c' rest rest' f h = (h.0, f waits h.1)
took_more place full waits (Saw some) more more' at route p w c' rest rest' f h = (h.0, f (waits || some) h.1)

took_now : (all : List Route) (borrowed : List ℕ) (most place : ℕ) (waits : Bool) (route : Route) (rs : List Route) (p p' : Pop)
    (a : PopAnswer) → IsOf (pop_looks p) (Some a) → pop_looks p ≡ is_full_at borrowed most place → successor place ≡ place + 1
    → slice_get all (place + 1) ≡ slice_get rs 0
    → Took place (is_full_at borrowed most place) waits a [] (received all borrowed most place route p' waits (Some a))
    (λ seen. Visits borrowed most (place + 1) seen rs [] (received all borrowed most place route p' waits (Some a)))
took_now all borrowed most place waits route rs p p' (Got (Some slot)) is looks next there = (sym looks ∙ is, refl, refl)
took_now all borrowed most place waits route rs p p' (Got None) is looks next there = (
  sym looks ∙ is,
  subst (λ (k : ℕ). Visits borrowed most (place + 1) waits rs [] (receive_from k (is_full_at borrowed most k) waits (slice_get all k)))
      (sym next)
      (subst (λ (o : Option Route). Visits borrowed most (place + 1) waits rs []
      (receive_from (place + 1) (is_full_at borrowed most (place + 1)) waits o)) (sym there)
      (visits_begin borrowed most (place + 1) waits rs)),
)
took_now all borrowed most place waits route rs p p' (Saw some) is looks next there = (
  sym looks ∙ is,
  subst (λ (k : ℕ). Visits borrowed most (place + 1) (waits || some) rs []
      (receive_from k (is_full_at borrowed most k) (waits || some) (slice_get all k))) (sym next)
      (subst (λ (o : Option Route). Visits borrowed most (place + 1) (waits || some) rs []
      (receive_from (place + 1) (is_full_at borrowed most (place + 1)) (waits || some) o)) (sym there)
      (visits_begin borrowed most (place + 1) (waits || some) rs)),
)

visits_more : (all : List Route) (borrowed : List ℕ) (most place : ℕ) (waits : Bool) (routes : List Route) (takes : List PlacedTake)
    (at : ℕ) (route : Route) (p p' : Pop) (w : Bool) (a : PopAnswer) → IsOf (pop_looks p) (Some a)
    → ((i j : ℕ) → j ≡ place + i → slice_get all j ≡ slice_get routes i) → place + length routes < 2 ^ 64 - 1
    → Visits borrowed most place waits routes takes (subscribing.Receiving at route p w)
    → Visits borrowed most place waits routes (takes ++ record { connection = route.connection; answer = a } ∷ [])
    (received all borrowed most at route p' w (Some a))
visits_more all borrowed most place waits [] [] at route p p' w a is same small h = absurd (cc h)
visits_more all borrowed most place waits [] (t ∷ ts) at route p p' w a is same small h = absurd h
visits_more all borrowed most place waits (r ∷ rs) [] at route p p' w a is same small h = (
  ap connection_of h.stage,
  subst (λ (b : Bool). Took place (is_full_at borrowed most place) waits a [] (received all borrowed most at route p' b (Some a))
      (λ seen. Visits borrowed most (place + 1) seen rs [] (received all borrowed most at route p' b (Some a)))) (sym (ap waits_at h.stage))
      (subst (λ (n : ℕ). Took place (is_full_at borrowed most place) waits a [] (received all borrowed most n route p' waits (Some a))
      (λ seen. Visits borrowed most (place + 1) seen rs [] (received all borrowed most n route p' waits (Some a))))
      (sym (ap place_at h.stage))
      (took_now all borrowed most place waits route rs p p' a is (ap looks_at h.stage ∙ h.looks) (omega (arith, small))
      (same 1 (place + 1) refl))),
)
visits_more all borrowed most place waits (r ∷ rs) (t ∷ ts) at route p p' w a is same small h = (
  h.0,
  took_more place (is_full_at borrowed most place) waits t.answer ts (ts ++ record { connection = route.connection; answer = a } ∷ [])
      at route p w (received all borrowed most at route p' w (Some a))
      (λ seen. Visits borrowed most (place + 1) seen rs ts (subscribing.Receiving at route p w))
      (λ seen. Visits borrowed most (place + 1) seen rs (ts ++ record { connection = route.connection; answer = a } ∷ [])
      (received all borrowed most at route p' w (Some a)))
      (λ seen. visits_more all borrowed most (place + 1) seen rs ts at route p p' w a is (λ i j e. same (suc i) j (omega (arith, e)))
      (omega (arith, small))) h.1,
)

-- the answer of a pop or look, as a list
abbrev answered : Option PopAnswer → List PopAnswer
answered None = []
answered (Some a) = a ∷ []

ended_is : (p : Pop) → pop_ended p ≡ answered (pop_answer p)
ended_is (pop.Overflowing overflowing_pop.Idle) = refl
ended_is (pop.Overflowing overflowing_pop.Begun) = refl
ended_is (pop.Overflowing (overflowing_pop.SawRead read)) = refl
ended_is (pop.Overflowing (overflowing_pop.Nonempty read next)) = refl
ended_is (pop.Overflowing (overflowing_pop.SawCell read next value)) = refl
ended_is (pop.Overflowing (overflowing_pop.Popped got)) = refl
ended_is (pop.Overflowing overflowing_pop.LookBegun) = refl
ended_is (pop.Overflowing (overflowing_pop.LookRead read)) = refl
ended_is (pop.Overflowing (overflowing_pop.Looked some)) = refl
ended_is (pop.Refusing refusing_pop.Idle) = refl
ended_is (pop.Refusing refusing_pop.Begun) = refl
ended_is (pop.Refusing (refusing_pop.SawRead read)) = refl
ended_is (pop.Refusing (refusing_pop.Nonempty read next)) = refl
ended_is (pop.Refusing (refusing_pop.SawCell next value)) = refl
ended_is (pop.Refusing (refusing_pop.Popped got)) = refl
ended_is (pop.Refusing refusing_pop.LookBegun) = refl
ended_is (pop.Refusing (refusing_pop.LookRead read)) = refl
ended_is (pop.Refusing (refusing_pop.Looked some)) = refl

-- the takes that come into the order at a step of a receive are its pop's answer
takes_told : (m : World) (place : ℕ) (lane : SubscriberLaneState) (at : ℕ) (route : Route) (p : Pop) (waits : Bool)
    → slice_get m.subscribers place ≡ Some lane → lane.port.call ≡ subscribing.Receiving at route p waits → m.moments < 2 ^ 63 → IsKept m
    → take_values (pop_acts m (subscribing.Receiving at route p waits))
    ≡ answered (pop_answer (pop_take p (shared_answer m.table (subscriber_next (subscribing.Receiving at route p waits)))))
takes_told m place lane at route p waits found e bound kept
    = core route.submission_cells (push_at m route.connection route.kind) mine.cells push_is
  where
    is : IsSubscriber m.table.sizes lane
    is = all_at (IsSubscriber m.table.sizes) m.subscribers place lane found kept.within.subscribers

    here : slice_get lane.port.routes at ≡ Some route
    here = subst (IsSubscribing m.table.sizes lane.port.routes) e is.call

    mine : IsLinkOf m.links receiver place route
    mine = all_at (IsLinkOf m.links receiver place) lane.port.routes at route here (kept.within.receivers place lane found)

    sends : PublisherCall
    sends = publisher_stage (slice_get m.publishers (mine.link).publisher)

    push_is : push_at m route.connection route.kind ≡ push_on route.connection (mine.link).kind sends
    push_is = ap (λ (x : Option LinkState). push_on route.connection route.kind (sender_stage m x)) mine.found ∙ ap
        (λ (kd : RingKind). push_on route.connection kd sends) mine.kind

    kept_at : IsKeptAt m.table m.moments route.connection mine.link (get_or m.orders route.connection []) sends
        (subscribing.Receiving at route p waits)
    kept_at = subst (λ (s : SubscriberCall). IsKeptAt m.table m.moments route.connection mine.link (get_or m.orders route.connection [])
        sends s)
        (ap subscriber_stage (ap (slice_get m.subscribers) mine.own ∙ found) ∙ e)
        ((kept.rings (omega (arith, bound))) route.connection mine.link (get_or m.orders route.connection []) mine.found
        (order_there m route.connection mine.link kept mine.found))

    exact : take_values (placed_by_pop (ring_in m.table route.connection (cells_of (mine.link).kind (mine.link).limit))
        (push_on route.connection (mine.link).kind sends) p)
        ≡ answered (pop_answer (pop_take p (shared_answer m.table
        (on_ring route.connection Submission (cells_of (mine.link).kind (mine.link).limit) (pop_next p)))))
    exact =
        let words : RingWords = ring_in m.table route.connection (cells_of (mine.link).kind (mine.link).limit) in
        let push' : Push = push_on route.connection (mine.link).kind sends in
        let s : Shape (mine.link).kind (mine.link).limit words (waiting mine.link (get_or m.orders route.connection [])) push' p =
        subst (λ (x : Pop). Shape (mine.link).kind (mine.link).limit words (waiting mine.link (get_or m.orders route.connection []))
        push' x) (pop_here at route (mine.link).kind p waits) kept_at.shape in
        let few : words.write + 1 < 2 ^ 64 = omega (arith, kept_at.few, bound) in
        let g = pop_goes (mine.link).kind (mine.link).limit words (waiting mine.link (get_or m.orders route.connection [])) push' p few s in
        let given : answer_of words (pop_next p)
        ≡ shared_answer m.table (on_ring route.connection Submission (cells_of (mine.link).kind (mine.link).limit) (pop_next p)) =
        access_answer Submission m.table route.connection (cells_of (mine.link).kind (mine.link).limit) (pop_next p)
        (seat m route.connection mine.link mine.found kept.within) in
        sym g.ended ∙ ap (λ (a : ℕ). pop_ended (pop_take p a)) given ∙ ended_is
        (pop_take p (shared_answer m.table
        (on_ring route.connection Submission (cells_of (mine.link).kind (mine.link).limit) (pop_next p))))

    core : (cells : ℕ) (push : Push) → cells ≡ cells_of (mine.link).kind (mine.link).limit
        → push ≡ push_on route.connection (mine.link).kind sends
        → take_values (placed_by_pop (ring_in m.table route.connection cells) push p)
        ≡ answered (pop_answer (pop_take p (shared_answer m.table (on_ring route.connection Submission cells (pop_next p)))))
    core cells push size same =
        subst (λ (x : Push). take_values (placed_by_pop (ring_in m.table route.connection cells) x p)
        ≡ answered (pop_answer (pop_take p (shared_answer m.table (on_ring route.connection Submission cells (pop_next p))))))
        (sym same)
        (subst (λ (n : ℕ). take_values (placed_by_pop (ring_in m.table route.connection n)
        (push_on route.connection (mine.link).kind sends) p)
        ≡ answered (pop_answer (pop_take p (shared_answer m.table (on_ring route.connection Submission n (pop_next p))))))
        (sym size) exact)

-- what a subscriber's own step brings into an order
own_step_takes : (m : World) (party : Party) (step : Move) (place : ℕ) (lane : SubscriberLaneState) → fits m party step ≡ true
    → slice_get m.subscribers place ≡ Some lane → subscriber_is_idle lane.port.call ≡ false → is_receiver party place ≡ true
    → step_takes m party step ≡ takes_on (pops_from lane.port.call) (take_values (pop_acts m lane.port.call))
own_step_takes m (Subscriber who) step place lane fit found busy own' = elim (eqb_tells who place) [
  | inl same ↦ subst (λ (i : ℕ). step_takes m (Subscriber i) step
      ≡ takes_on (pops_from lane.port.call) (take_values (pop_acts m lane.port.call))) (sym same.1)
      (at_place step (subst (λ (i : ℕ). fits m (Subscriber i) step ≡ true) same.1 fit))
  | inr other ↦ absurd (cc (own', other.0))
]
  where
    at_place : (s : Move) → fits m (Subscriber place) s ≡ true
        → step_takes m (Subscriber place) s ≡ takes_on (pops_from lane.port.call) (take_values (pop_acts m lane.port.call))
    at_place (Begin c) fit' = absurd (cc
        (sym busy ∙ and_left (subscriber_is_idle lane.port.call) (subscriber_may lane c)
        (ap (λ (at : Option SubscriberLaneState). subscriber_fits_at at (Begin c)) (sym found) ∙ fit')))
    at_place GoOn fit' = ap (λ (at : Option SubscriberLaneState). takes_on (pops_from (subscriber_stage at))
        (take_values (pop_acts m (subscriber_stage at)))) found
own_step_takes m (Publisher who) step place lane fit found busy own' = absurd (cc own')

-- a receive, of a port that borrows as it did at its begin until it got a message
abbrev Borrows : SubscriberState → SubscriberState → SubscriberCall → Type 0
Borrows start port subscribing.Idle = Unit {0}
Borrows start port (subscribing.Receiving place route p waits) = (port.routes ≡ start.routes) × (port.borrowed ≡ start.borrowed)
    × (port.most_borrowed ≡ start.most_borrowed)
Borrows start port (subscribing.Received got) = Unit {0}
Borrows start port (subscribing.Reading slot word extent) = ⊥
Borrows start port (subscribing.WasRead slot) = ⊥
Borrows start port (subscribing.Releasing place route p) = ⊥
Borrows start port (subscribing.Released done) = ⊥

from_borrows : (start port : SubscriberState) (place : ℕ) (full waits : Bool) (at : Option Route) → (port.routes ≡ start.routes)
    × (port.borrowed ≡ start.borrowed) × (port.most_borrowed ≡ start.most_borrowed) → Borrows start port (receive_from place full waits at)
from_borrows start port place full waits None h = tt
from_borrows start port place full waits (Some route) h = h

-- what a step of a receive leaves of it
abbrev IsTaking : SubscriberState → SubscriberState → SubscriberCall → List PlacedTake → Type 0
IsTaking start port c takes = Borrows start port c × Visits start.borrowed start.most_borrowed 0 false start.routes takes c

-- the port's own lists are those of the begin
of_start : (start port : SubscriberState) (at : ℕ) (route : Route) (p' : Pop) (waits : Bool) (takes : List PlacedTake) (a : PopAnswer)
    → (port.routes ≡ start.routes) × (port.borrowed ≡ start.borrowed) × (port.most_borrowed ≡ start.most_borrowed)
    → Visits start.borrowed start.most_borrowed 0 false start.routes
    (takes ++ record { connection = route.connection; answer = a } ∷ [])
    (received start.routes start.borrowed start.most_borrowed at route p' waits (Some a))
    → Visits start.borrowed start.most_borrowed 0 false start.routes
    (takes ++ record { connection = route.connection; answer = a } ∷ [])
    (received port.routes port.borrowed port.most_borrowed at route p' waits (Some a))
of_start start port at route p' waits takes a same v =
    subst (λ (rs : List Route). Visits start.borrowed start.most_borrowed 0 false start.routes
    (takes ++ record { connection = route.connection; answer = a } ∷ [])
    (received rs port.borrowed port.most_borrowed at route p' waits (Some a))) (sym same.0)
    (subst (λ (bs : List ℕ). Visits start.borrowed start.most_borrowed 0 false start.routes
    (takes ++ record { connection = route.connection; answer = a } ∷ [])
    (received start.routes bs port.most_borrowed at route p' waits (Some a))) (sym same.1)
    (subst (λ (n : ℕ). Visits start.borrowed start.most_borrowed 0 false start.routes
    (takes ++ record { connection = route.connection; answer = a } ∷ [])
    (received start.routes start.borrowed n at route p' waits (Some a))) (sym same.2) v))

visit_step : (start port : SubscriberState) (at : ℕ) (route : Route) (p p' : Pop) (waits : Bool) (takes : List PlacedTake)
    (o : Option PopAnswer) → (o ≡ None → pop_looks p' ≡ pop_looks p) → IsOf (pop_looks p) o → length start.routes < 2 ^ 64 - 1
    → (port.routes ≡ start.routes) × (port.borrowed ≡ start.borrowed) × (port.most_borrowed ≡ start.most_borrowed)
    → Visits start.borrowed start.most_borrowed 0 false start.routes takes (subscribing.Receiving at route p waits)
    → IsTaking start (keeping.changed (borrowed_by at o)
    (staged port (received port.routes port.borrowed port.most_borrowed at route p' waits o)))
    (received port.routes port.borrowed port.most_borrowed at route p' waits o) (takes ++ placed_takes route.connection (answered o))
visit_step start port at route p p' waits takes None looks is small same v = (
  same,
  subst (λ (ts : List PlacedTake). Visits start.borrowed start.most_borrowed 0 false start.routes ts
      (subscribing.Receiving at route p' waits)) (sym (append-nil takes))
      (visits_goes start.borrowed start.most_borrowed 0 false start.routes takes at route p p' waits (looks refl) v),
)
visit_step start port at route p p' waits takes (Some (Got (Some slot))) looks is small same v = (
  tt,
  visits_more start.routes start.borrowed start.most_borrowed 0 false start.routes takes at route p p' waits (Got (Some slot)) is
      (λ i j e. ap (λ (n : ℕ). slice_get start.routes n) (omega (arith, e))) (omega (arith, small)) v,
)
visit_step start port at route p p' waits takes (Some (Got None)) looks is small same v = (
  from_borrows start port (successor at) (is_full_at port.borrowed port.most_borrowed (successor at)) waits
      (slice_get port.routes (successor at)) same,
  of_start start port at route p' waits takes (Got None) same
      (visits_more start.routes start.borrowed start.most_borrowed 0 false start.routes takes at route p p' waits (Got None) is
      (λ i j e. ap (λ (n : ℕ). slice_get start.routes n) (omega (arith, e))) (omega (arith, small)) v),
)
visit_step start port at route p p' waits takes (Some (Saw some)) looks is small same v = (
  from_borrows start port (successor at) (is_full_at port.borrowed port.most_borrowed (successor at)) (waits || some)
      (slice_get port.routes (successor at)) same,
  of_start start port at route p' waits takes (Saw some) same
      (visits_more start.routes start.borrowed start.most_borrowed 0 false start.routes takes at route p p' waits (Saw some) is
      (λ i j e. ap (λ (n : ℕ). slice_get start.routes n) (omega (arith, e))) (omega (arith, small)) v),
)

-- a step of a receive that is not its last
own_step : (m : World) (place : ℕ) (lane : SubscriberLaneState) (start : SubscriberState) (takes : List PlacedTake) (c : SubscriberCall)
    → lane.port.call ≡ c → slice_get m.subscribers place ≡ Some lane → m.moments < 2 ^ 63 → IsKept m → length start.routes < 2 ^ 64 - 1
    → Goes c → IsTaking start lane.port c takes
    → subscriber_is_idle (subscriber_take lane.port.routes lane.port.borrowed lane.port.most_borrowed c
    (shared_answer m.table (subscriber_next c))) ≡ false
    → IsTaking start (keeping.changed (subscriber_change c (shared_answer m.table (subscriber_next c)))
    (staged lane.port (subscriber_take lane.port.routes lane.port.borrowed lane.port.most_borrowed c
    (shared_answer m.table (subscriber_next c)))))
    (subscriber_take lane.port.routes lane.port.borrowed lane.port.most_borrowed c (shared_answer m.table (subscriber_next c)))
    (takes ++ takes_on (pops_from c) (take_values (pop_acts m c)))
own_step m place lane start takes subscribing.Idle e found bound kept small goes h busy = absurd (cc busy)
own_step m place lane start takes (subscribing.Receiving at route p waits) e found bound kept small goes h busy =
    let given : ℕ = shared_answer m.table (subscriber_next (subscribing.Receiving at route p waits)) in
    let same = stays p given goes in
    subst (λ (given-answers : List PopAnswer). IsTaking start
    (keeping.changed (subscriber_change (subscribing.Receiving at route p waits) given)
    (staged lane.port (subscriber_take lane.port.routes lane.port.borrowed lane.port.most_borrowed
    (subscribing.Receiving at route p waits) given)))
    (subscriber_take lane.port.routes lane.port.borrowed lane.port.most_borrowed (subscribing.Receiving at route p waits) given)
    (takes ++ placed_takes route.connection given-answers)) (sym (takes_told m place lane at route p waits found e bound kept))
    (visit_step start lane.port at route p (pop_take p given) waits takes (pop_answer (pop_take p given)) (λ none. same.0) same.1 small
    h.0 h.1)
own_step m place lane start takes (subscribing.Received got) e found bound kept small goes h busy = absurd (cc busy)
own_step m place lane start takes (subscribing.Reading slot word extent) e found bound kept small goes h busy = absurd h.0
own_step m place lane start takes (subscribing.WasRead slot) e found bound kept small goes h busy = absurd h.0
own_step m place lane start takes (subscribing.Releasing at route p) e found bound kept small goes h busy = absurd h.0
own_step m place lane start takes (subscribing.Released done) e found bound kept small goes h busy = absurd h.0

-- what every step keeps of a receive since its begin
record Taking (place first : ℕ) (start : SubscriberState) (w : World) (takes : List PlacedTake) : Type 0 where
  kept : IsKept w
  past : first < w.moments
  on : (lane : SubscriberLaneState) → slice_get w.subscribers place ≡ Some lane → lane.first ≡ first
      → subscriber_is_idle lane.port.call ≡ false → Goes lane.port.call × IsTaking start lane.port lane.port.call takes

taking_on : (place first : ℕ) (start : SubscriberState) (w : World) (takes : List PlacedTake) (party : Party) (step : Move)
    → length start.routes < 2 ^ 64 - 1 → fits w party step ≡ true → w.moments < 2 ^ 63
    → Taking place first start w takes → Taking place first start (happens w party step)
    (takes ++ (if is_receiver party place then step_takes w party step else []))
taking_on place first start w takes party step small fit bound p =
    let next : (happens w party step).moments ≡ w.moments + 1 = happens_moments w party step fit ∙ one_more w.moments bound in
    record {
      kept = happens_keeps w party step fit p.kept;
      past = omega (arith, next, p.past);
      on = λ lane found since busy. elim (turn w party step place fit) [
        | inl same ↦
            let was = p.on lane (sym same.0 ∙ found) since busy in (
              was.0,
              subst (λ (b : Bool). IsTaking start lane.port lane.port.call (takes ++ (if b then step_takes w party step else [])))
                  (sym same.1)
                  (subst (IsTaking start lane.port lane.port.call) (sym (append-nil takes)) was.1),
            )
        | inr (inl began) ↦
            let is : subscriber_begun w.moments began.0 began.1 ≡ lane = some_is _ lane (sym began.4 ∙ found) in
            let now : w.moments ≡ first = sym (begun_first w.moments began.0 began.1 began.3) ∙ ap
            (λ (x : SubscriberLaneState). x.first) is ∙ since in
            absurd (omega (arith, now, p.past))
        | inr (inr went) ↦
            let given : ℕ = subscriber_given w.table went.0 in
            let is : subscriber_after given went.0 ≡ lane = some_is _ lane (sym went.3 ∙ found) in
            let was = p.on went.0 went.1 (ap (λ (x : SubscriberLaneState). x.first) is ∙ since) went.2 in
            let stage = (changed_routes (subscriber_change went.0.port.call given)
            (staged went.0.port (subscriber_take went.0.port.routes went.0.port.borrowed went.0.port.most_borrowed went.0.port.call
            given))).1 in
            let still : subscriber_is_idle (subscriber_take went.0.port.routes went.0.port.borrowed went.0.port.most_borrowed
            went.0.port.call given) ≡ false =
            ap subscriber_is_idle (sym stage) ∙ ap (λ (x : SubscriberLaneState). subscriber_is_idle x.port.call) is ∙ busy in
            let new : IsTaking start (subscriber_after given went.0).port (subscriber_after given went.0).port.call
            (takes ++ takes_on (pops_from went.0.port.call) (take_values (pop_acts w went.0.port.call))) =
            subst (λ (c : SubscriberCall). IsTaking start (subscriber_after given went.0).port c
            (takes ++ takes_on (pops_from went.0.port.call) (take_values (pop_acts w went.0.port.call)))) (sym stage)
            (own_step w place went.0 start takes went.0.port.call refl went.1 bound p.kept small was.0 was.1 still) in
            subst (λ (x : SubscriberLaneState). Goes x.port.call
            × IsTaking start x.port x.port.call (takes ++ (if is_receiver party place then step_takes w party step else []))) is (
              subst Goes (sym stage) (goes_on went.0.port.routes went.0.port.borrowed went.0.port.most_borrowed went.0.port.call given
                  was.0),
              subst (λ (b : Bool). IsTaking start (subscriber_after given went.0).port (subscriber_after given went.0).port.call
                  (takes ++ (if b then step_takes w party step else []))) (sym went.4)
                  (subst (λ (ts : List PlacedTake). IsTaking start (subscriber_after given went.0).port
                  (subscriber_after given went.0).port.call (takes ++ ts))
                  (sym (own_step_takes w party step place went.0 fit went.1 went.2 went.4)) new),
            )
      ];
    }

entry_taking : (place first : ℕ) (start : SubscriberState) (w : World) (takes : List PlacedTake) (entry : Entry) (end : ℕ)
    → length start.routes < 2 ^ 64 - 1 → end ≤ 2 ^ 63
    → (b : Bool) → fits w entry.party entry.step ≡ b → (after_entry b w entry).moments ≤ end → Taking place first start w takes
    → Taking place first start (after_entry b w entry)
    (takes ++ (if b && is_receiver entry.party place then step_takes w entry.party entry.step else []))
entry_taking place first start w takes entry end small few true e h p =
    taking_on place first start w takes entry.party entry.step small e (omega (arith, happens_moments w entry.party entry.step e, h, few)) p
entry_taking place first start w takes entry end small few false e h p = subst (Taking place first start w) (sym (append-nil takes)) p

all_taking : (place first : ℕ) (start : SubscriberState) (w : World) (takes : List PlacedTake) (entries : List Entry)
    → length start.routes < 2 ^ 64 - 1 → (led w entries).moments ≤ 2 ^ 63
    → Taking place first start w takes → Taking place first start (led w entries)
    (takes ++ own_takes (λ party. is_receiver party place) w entries)
all_taking place first start w takes [] small few p = subst (Taking place first start w) (sym (append-nil takes)) p
all_taking place first start w takes (entry ∷ entries) small few p =
    let b : Bool = fits w entry.party entry.step in
    let t : List PlacedTake = if b && is_receiver entry.party place then step_takes w entry.party entry.step else [] in
    let rest = all_taking place first start (after_entry b w entry) (takes ++ t) entries small few
    (entry_taking place first start w takes entry (led w (entry ∷ entries)).moments small few b refl
    (later (after_entry b w entry) entries few) p) in
    subst (Taking place first start (led w (entry ∷ entries)))
    (append_assoc takes t (own_takes (λ party. is_receiver party place) (after_entry b w entry) entries)) rest

-- what a receive that is in progress took
pub receive_takes : (m : World) → CameTo m → (place : ℕ) (lane : SubscriberLaneState) (entries : List Entry)
    → slice_get m.subscribers place ≡ Some lane → subscriber_fits lane (Begin call.Receive) ≡ true → length lane.port.routes < 2 ^ 64 - 1
    → (led (happens m (Subscriber place) (Begin call.Receive)) entries).moments ≤ 2 ^ 63
    → (inside : IsInSubscriberCall (led (happens m (Subscriber place) (Begin call.Receive)) entries) place m.moments)
    → Visits lane.port.borrowed lane.port.most_borrowed 0 false lane.port.routes
    (own_takes (λ party. is_receiver party place) (happens m (Subscriber place) (Begin call.Receive)) entries) inside.lane.port.call
receive_takes m came place lane entries found may connections few inside =
    let fit : fits m (Subscriber place) (Begin call.Receive) ≡ true
    = ap (λ (at : Option SubscriberLaneState). subscriber_fits_at at (Begin call.Receive)) found ∙ may in
    let next = happens_moments m (Subscriber place) (Begin call.Receive) fit in
    let after = later (happens m (Subscriber place) (Begin call.Receive)) entries few in
    let bound : m.moments < 2 ^ 63 = omega (arith, next, after, few) in
    let begun : SubscriberLaneState = subscriber_begun m.moments call.Receive lane in
    let there : slice_get (happens m (Subscriber place) (Begin call.Receive)).subscribers place ≡ Some begun =
    ap (λ (at : Option SubscriberLaneState). slice_get (subscriber_begins m place call.Receive at).subscribers place) found ∙
    set_same m.subscribers place begun lane found in
    let end = all_taking place m.moments lane.port (happens m (Subscriber place) (Begin call.Receive)) [] entries connections few
    (record {
      kept = happens_keeps m (Subscriber place) (Begin call.Receive) fit (came_kept m came).0;
      past = omega (arith, next, one_more m.moments bound);
      on = λ other there_now since busy.
          subst (λ (x : SubscriberLaneState). Goes x.port.call × IsTaking lane.port x.port x.port.call [])
          (some_is _ other (sym there ∙ there_now)) (
            begun_goes m.moments call.Receive lane may,
            (
              from_borrows lane.port lane.port 0 (is_full_at lane.port.borrowed lane.port.most_borrowed 0) false
                  (slice_get lane.port.routes 0) (refl, refl, refl),
              visits_begin lane.port.borrowed lane.port.most_borrowed 0 false lane.port.routes,
            ),
          );
    }) in
    ((end.on inside.lane inside.found inside.since inside.busy).1).1

pub receives_take_in_order : ReceivesTakeInOrder
receives_take_in_order m came place lane entries is =
    receive_takes m came place lane entries is.found is.may is.connections is.few is.inside
