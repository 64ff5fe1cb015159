-- Every step keeps that receives give the slots taken, in that order.
use Rattle.std.proofs.Common.{ℕ, ◌≡◌, ◌+◌, ◌<◌, ◌^◌, ◌==◌, ◌||◌, Bool, true, false, if◌then◌else◌, nat_lt, ◌-◌, List, [], ◌∷◌, ◌++◌}
use Rattle.std.proofs.Common.{length, set, slice_get, Option, Some, None, refl, sym, ◌∙◌, ap, subst, inl, inr, arith, append_assoc}
use Rattle.std.proofs.Common.{append-nil}
use Rattle.std.specs.List.{All}
use Rattle.std.proofs.lemmas.Bool.{eq-eqb}
use Rattle.std.proofs.lemmas.Bool.Decides.{eqb_tells}
use Rattle.iox_lanes_machine.specs.QueuesSteps.Access.{RingWords, successor, answer_of}
use Rattle.iox_lanes_machine.specs.QueuesSteps.Order.{at, acts_of, take_of, take_values}
use Rattle.iox_lanes_machine.specs.QueuesSteps.declared.order.PushAnswer.{PushAnswer}
use Rattle.iox_lanes_machine.specs.QueuesSteps.declared.order.PushAnswer.TheVariants.{Kept, LeftOut, Refused}
use Rattle.iox_lanes_machine.specs.QueuesSteps.declared.order.PopAnswer.{PopAnswer}
use Rattle.iox_lanes_machine.specs.QueuesSteps.declared.order.PopAnswer.TheVariants.{Got, Saw}
use Rattle.iox_lanes_machine.specs.QueuesSteps.declared.order.Act.{Act}
use Rattle.iox_lanes_machine.specs.QueuesSteps.declared.order.Act.TheVariants.{Put}
use Rattle.iox_lanes_machine.specs.QueuesSteps.declared.order.Placed.{Placed}
use Rattle.iox_lanes_machine.proofs.QueuesSteps.Orders.{acts_more}
use Rattle.iox_lanes_machine.specs.QueuesSteps.OverflowingRing as overflowing_ring
use Rattle.iox_lanes_machine.specs.QueuesSteps.declared.rings.overflowing.push.Push as overflowing_push_type
use Rattle.iox_lanes_machine.specs.QueuesSteps.declared.rings.overflowing.push.Push.TheVariants as overflowing_push
use Rattle.iox_lanes_machine.specs.QueuesSteps.declared.rings.overflowing.pop.Pop.TheVariants as overflowing_pop
use Rattle.iox_lanes_machine.specs.QueuesSteps.declared.rings.refusing.pop.Pop.TheVariants as refusing_pop
use Rattle.iox_lanes_machine.specs.QueuesSteps.declared.rings.refusing.push.Push as refusing_push_type
use Rattle.iox_lanes_machine.specs.QueuesSteps.Refusing as refusing
use Rattle.iox_lanes_machine.proofs.QueuesSteps.RefusingSteps as refusing_steps
use Rattle.iox_lanes_machine.specs.QueuesSteps.Ends.{Shape, cells_of, placed_by_push, pop_ended, pop_next, pop_take, placed_by_pop}
use Rattle.iox_lanes_machine.specs.QueuesSteps.declared.rings.ends.RingKind.{RingKind}
use Rattle.iox_lanes_machine.specs.QueuesSteps.declared.rings.ends.Push.{Push}
use Rattle.iox_lanes_machine.specs.QueuesSteps.declared.rings.ends.Push.TheVariants as push
use Rattle.iox_lanes_machine.specs.QueuesSteps.declared.rings.ends.Pop.{Pop}
use Rattle.iox_lanes_machine.specs.QueuesSteps.declared.rings.ends.Pop.TheVariants as pop
use Rattle.iox_lanes_machine.proofs.QueuesSteps.EitherRing.{pop_goes}
use Rattle.iox_lanes_machine.specs.LanesBase.Table.{TableWords, held_by, shared_answer}
use Rattle.iox_lanes_machine.specs.LanesBase.Words.{on_ring}
use Rattle.iox_lanes_machine.specs.LanesBase.declared.words.sizes.TableSizes.{TableSizes}
use Rattle.iox_lanes_machine.specs.QueuesSteps.declared.access.Word.TheVariants.{Read}
use Rattle.iox_lanes_machine.specs.LanesBase.declared.words.word.ConnectionRing.TheVariants.{Submission}
use Rattle.iox_lanes_machine.specs.LanesBase.Answers.{pop_answer, refusing_push_answer}
use Rattle.iox_lanes_machine.specs.LanesBase.Subscribing.{subscriber_next, subscriber_take, subscriber_change, subscriber_is_idle}
use Rattle.iox_lanes_machine.specs.LanesBase.Subscribing.{receive_from, nothing_received, received, is_full_at, released}
use Rattle.iox_lanes_machine.specs.LanesBase.declared.calls.publisher.PublisherCall.{PublisherCall}
use Rattle.iox_lanes_machine.specs.LanesBase.declared.calls.publisher.PublisherCall.TheVariants as publishing
use Rattle.iox_lanes_machine.specs.LanesBase.declared.calls.route.Route.{Route}
use Rattle.iox_lanes_machine.specs.LanesBase.declared.calls.subscriber.SlotExtent.{SlotExtent}
use Rattle.iox_lanes_machine.specs.LanesBase.declared.calls.subscriber.SubscriberCall.{SubscriberCall}
use Rattle.iox_lanes_machine.specs.LanesBase.declared.calls.subscriber.SubscriberCall.TheVariants as subscribing
use Rattle.iox_lanes_machine.specs.LanesParties.Parties.{PublisherLaneState, SubscriberLaneState, subscriber_may, subscriber_begun}
use Rattle.iox_lanes_machine.specs.LanesParties.Parties.{subscriber_after, subscriber_answer, release_begun, place_of, route_at}
use Rattle.iox_lanes_machine.specs.LanesParties.Within.{IsAt, IsSubscribing, IsSubscriber}
use Rattle.iox_lanes_machine.specs.LanesParties.declared.call.Answer.{Answer}
use Rattle.iox_lanes_machine.specs.LanesParties.declared.call.Answer.TheVariants as answer
use Rattle.iox_lanes_machine.specs.LanesParties.declared.call.Call.{Call}
use Rattle.iox_lanes_machine.specs.LanesParties.declared.call.Call.TheVariants as call
use Rattle.iox_lanes_machine.specs.LanesParties.declared.call.CallName.{CallName}
use Rattle.iox_lanes_machine.specs.LanesParties.declared.call.FinishedCall.{FinishedCall}
use Rattle.iox_lanes_machine.specs.LanesParties.declared.call.Move.{Move}
use Rattle.iox_lanes_machine.specs.LanesParties.declared.call.Move.TheVariants.{Begin, GoOn}
use Rattle.iox_lanes_machine.specs.LanesParties.declared.call.Party.{Party}
use Rattle.iox_lanes_machine.specs.LanesParties.declared.call.Party.TheVariants.{Publisher, Subscriber}
use Rattle.iox_lanes_machine.proofs.LanesParties.Rings.{and_left, all_at}
use Rattle.iox_lanes_machine.specs.Rings.{sent_word, ring_in, push_on, waiting}
use Rattle.iox_lanes_machine.specs.World.{World, publisher_stage, subscriber_stage, sender_stage, push_at, pushes_to, pops_from}
use Rattle.iox_lanes_machine.specs.World.{push_acts, pop_acts, added, ended, fits, happens, publisher_fits_at, subscriber_fits_at}
use Rattle.iox_lanes_machine.specs.World.{publisher_begins, publisher_goes_on, publisher_ending, subscriber_begins, subscriber_goes_on}
use Rattle.iox_lanes_machine.specs.World.{subscriber_given}
use Rattle.iox_lanes_machine.specs.Kept.{IsLinkOf, receiver, IsWithin, IsKeptAt, AreKept}
use Rattle.iox_lanes_machine.specs.Receipts.{slots_of, slots_taken, given_at, given_by, given_answer, is_receiver, given_calls}
use Rattle.iox_lanes_machine.specs.Receipts.{given_in_hand, routes_of, ReceivesGive, AllReceivesGive}
use Rattle.iox_lanes_machine.specs.Links.{LinkState}
use Rattle.iox_lanes_machine.proofs.InTable.{IsSeat, access_answer}
use Rattle.iox_lanes_machine.proofs.Ends.{some_is, choose_one, choose_other, pop_here}
use Rattle.iox_lanes_machine.proofs.Kept.{seat}
use Rattle.iox_lanes_machine.proofs.Steps.{stands, added_other, added_here, pops_own}
use Rattle.iox_lanes_machine.proofs.Within.{set_other, set_same, changed_routes, subscriber_routes}

slots_append : (xs ys : List PopAnswer) → slots_of (xs ++ ys) ≡ slots_of xs ++ slots_of ys
slots_append [] ys = refl
slots_append (Got (Some slot) ∷ xs) ys = ap (λ (ss : List ℕ). slot ∷ ss) (slots_append xs ys)
slots_append (Got None ∷ xs) ys = slots_append xs ys
slots_append (Saw some ∷ xs) ys = slots_append xs ys

pub takes_append : (xs ys : List Act) → take_values (xs ++ ys) ≡ take_values xs ++ take_values ys
takes_append [] ys = refl
takes_append (x ∷ xs) ys = ap (λ (zs : List PopAnswer). take_of x ++ zs) (takes_append xs ys) ∙ sym
    (append_assoc (take_of x) (take_values xs) (take_values ys))

-- what is taken by more acts
taken_more : (order : List Placed) (moment : ℕ) (new : List Act)
    → slots_taken (order ++ at moment new) ≡ slots_taken order ++ slots_of (take_values new)
taken_more order moment new =
    ap (λ (acts : List Act). slots_of (take_values acts)) (acts_more order moment new)
    ∙ ap slots_of (takes_append (acts_of order) new)
    ∙ slots_append (take_values (acts_of order)) (take_values new)

one_put : (test : Bool) (put : List Act) → take_values put ≡ [] → take_values (if test then put else []) ≡ []
one_put true put h = h
one_put false put h = refl

other_put : (test : Bool) (put : List Act) → take_values put ≡ [] → take_values (if test then [] else put) ≡ []
other_put true put h = refl
other_put false put h = h

overflowing_no_takes : (limit read : ℕ) (p : overflowing_push_type.Push) → take_values (overflowing_ring.placed_by_push limit read p) ≡ []
overflowing_no_takes limit read overflowing_push.Idle = refl
overflowing_no_takes limit read (overflowing_push.Begun l value) = refl
overflowing_no_takes limit read (overflowing_push.SawWrite l value write next) = refl
overflowing_no_takes limit read (overflowing_push.SawRead l value write next seen) = refl
overflowing_no_takes limit read (overflowing_push.Filled l value write next seen)
    = other_put (nat_lt limit (next - read)) (Put value Kept ∷ []) refl
overflowing_no_takes limit read (overflowing_push.Full value seen next) = refl
overflowing_no_takes limit read (overflowing_push.SawOldest value seen next oldest)
    = one_put (read == seen) (Put value (LeftOut oldest) ∷ []) refl
overflowing_no_takes limit read (overflowing_push.Pushed value answer) = refl

push_no_takes : (limit read : ℕ) (p : Push) → take_values (placed_by_push limit read p) ≡ []
push_no_takes limit read (push.Overflowing p) = overflowing_no_takes limit read p
push_no_takes limit read (push.Refusing p) = refusing_steps.push_takes read p

pub publisher_no_takes : (table : TableWords) (c : PublisherCall) → take_values (push_acts table c) ≡ []
publisher_no_takes table publishing.Idle = refl
publisher_no_takes table (publishing.LoanReclaims place route p) = refl
publisher_no_takes table publishing.Lending = refl
publisher_no_takes table (publishing.Writing slot word value) = refl
publisher_no_takes table (publishing.Written slot) = refl
publisher_no_takes table (publishing.Heading slot word value) = refl
publisher_no_takes table (publishing.Remembering slot) = refl
publisher_no_takes table (publishing.SendReclaims slot place route p) = refl
publisher_no_takes table (publishing.Pushing slot place route p delivery)
    = push_no_takes route.limit (held_by table (sent_word route.connection Read)) p
publisher_no_takes table (publishing.Sent slot delivery) = refl
publisher_no_takes table (publishing.Dropping slot) = refl

-- the answer of a pop or look, as a list
answers : Option PopAnswer → List PopAnswer
answers None = []
answers (Some a) = a ∷ []

pop_answers : (p : Pop) → pop_ended p ≡ answers (pop_answer p)
unfolding answers
pop_answers (pop.Overflowing overflowing_pop.Idle) = refl
pop_answers (pop.Overflowing overflowing_pop.Begun) = refl
pop_answers (pop.Overflowing (overflowing_pop.SawRead read)) = refl
pop_answers (pop.Overflowing (overflowing_pop.Nonempty read next)) = refl
pop_answers (pop.Overflowing (overflowing_pop.SawCell read next value)) = refl
pop_answers (pop.Overflowing (overflowing_pop.Popped got)) = refl
pop_answers (pop.Overflowing overflowing_pop.LookBegun) = refl
pop_answers (pop.Overflowing (overflowing_pop.LookRead read)) = refl
pop_answers (pop.Overflowing (overflowing_pop.Looked some)) = refl
pop_answers (pop.Refusing refusing_pop.Idle) = refl
pop_answers (pop.Refusing refusing_pop.Begun) = refl
pop_answers (pop.Refusing (refusing_pop.SawRead read)) = refl
pop_answers (pop.Refusing (refusing_pop.Nonempty read next)) = refl
pop_answers (pop.Refusing (refusing_pop.SawCell next value)) = refl
pop_answers (pop.Refusing (refusing_pop.Popped got)) = refl
pop_answers (pop.Refusing refusing_pop.LookBegun) = refl
pop_answers (pop.Refusing (refusing_pop.LookRead read)) = refl
pop_answers (pop.Refusing (refusing_pop.Looked some)) = refl

-- a receive that goes on, or ends with nothing, gives nothing
nothing_given : (routes : List Route) (connection : ℕ) (waits : Bool) → given_by routes connection (nothing_received waits) ≡ []
nothing_given routes connection true = refl
nothing_given routes connection false = refl

from_given : (routes : List Route) (connection place : ℕ) (full waits : Bool) (at : Option Route)
    → given_in_hand routes connection (receive_from place full waits at) ≡ []
from_given routes connection place full waits None = nothing_given routes connection waits
from_given routes connection place full waits (Some route) = refl

-- what a step of a pop or look gives, at its own connection
own_given : (routes : List Route) (borrowed : List ℕ) (most place : ℕ) (route : Route) (p : Pop) (waits : Bool) (a : Option PopAnswer)
    → IsAt routes place route
    → slots_of (answers a) ≡ given_in_hand routes route.connection (received routes borrowed most place route p waits a)
unfolding answers
own_given routes borrowed most place route p waits None is = refl
own_given routes borrowed most place route p waits (Some (Got (Some slot))) is =
    sym (ap (given_at route.connection slot) is ∙ choose_one (route.connection == route.connection) (slot ∷ []) []
    (eq-eqb route.connection route.connection refl))
own_given routes borrowed most place route p waits (Some (Got None)) is
    = sym (from_given routes route.connection (successor place) (is_full_at borrowed most (successor place)) waits
    (slice_get routes (successor place)))
own_given routes borrowed most place route p waits (Some (Saw some)) is
    = sym (from_given routes route.connection (successor place) (is_full_at borrowed most (successor place)) (waits || some)
    (slice_get routes (successor place)))

-- and at any other
off_given : (routes : List Route) (borrowed : List ℕ) (most place : ℕ) (route : Route) (p : Pop) (waits : Bool) (a : Option PopAnswer)
    (connection : ℕ) → IsAt routes place route → (Some route.connection ≡ Some connection → ⊥)
    → given_in_hand routes connection (received routes borrowed most place route p waits a) ≡ []
off_given routes borrowed most place route p waits None connection is off = refl
off_given routes borrowed most place route p waits (Some (Got (Some slot))) connection is off =
    ap (given_at connection slot) is ∙ elim (eqb_tells route.connection connection) [
      | inl here ↦ absurd (off (ap (λ (n : ℕ). Some n) here.1))
      | inr there ↦ choose_other (route.connection == connection) (slot ∷ []) [] there.0
    ]
off_given routes borrowed most place route p waits (Some (Got None)) connection is off
    = from_given routes connection (successor place) (is_full_at borrowed most (successor place)) waits (slice_get routes (successor place))
off_given routes borrowed most place route p waits (Some (Saw some)) connection is off
    = from_given routes connection (successor place) (is_full_at borrowed most (successor place)) (waits || some)
    (slice_get routes (successor place))

read_given : (routes : List Route) (connection slot word : ℕ) (extent : SlotExtent) (test : Bool)
    → given_in_hand routes connection (if test then subscribing.Reading slot word extent else subscribing.WasRead slot) ≡ []
read_given routes connection slot word extent true = refl
read_given routes connection slot word extent false = refl

released_given : (routes : List Route) (connection place : ℕ) (route : Route) (p : refusing_push_type.Push) (a : Option PushAnswer)
    → given_in_hand routes connection (released place route p a) ≡ []
released_given routes connection place route p None = refl
released_given routes connection place route p (Some Kept) = refl
released_given routes connection place route p (Some (LeftOut oldest)) = refl
released_given routes connection place route p (Some Refused) = refl

-- after a step elsewhere nothing of the connection is in hand
take_given : (sizes : TableSizes) (routes : List Route) (borrowed : List ℕ) (most : ℕ) (c : SubscriberCall) (a connection : ℕ)
    → IsSubscribing sizes routes c → (pops_from c ≡ Some connection → ⊥)
    → given_in_hand routes connection (subscriber_take routes borrowed most c a) ≡ []
take_given sizes routes borrowed most subscribing.Idle a connection is off = refl
take_given sizes routes borrowed most (subscribing.Receiving place route p waits) a connection is off
    = off_given routes borrowed most place route (pop_take p a) waits (pop_answer (pop_take p a)) connection is off
take_given sizes routes borrowed most (subscribing.Received given) a connection is off = refl
take_given sizes routes borrowed most (subscribing.Reading slot word extent) a connection is off
    = read_given routes connection slot (successor word) extent
    (nat_lt (successor word) (3 + extent.user_header_words + extent.payload_words))
take_given sizes routes borrowed most (subscribing.WasRead slot) a connection is off = refl
take_given sizes routes borrowed most (subscribing.Releasing place route p) a connection is off
    = released_given routes connection place route (refusing.push_take p a) (refusing_push_answer (refusing.push_take p a))
take_given sizes routes borrowed most (subscribing.Released done) a connection is off = refl

-- what stands at a step of the pop or look at a connection gives what the receive then has in hand
take_core : (table : TableWords) (moments : ℕ) (links : List LinkState) (routes : List Route) (borrowed : List ℕ) (most place : ℕ)
    (route : Route) (p : Pop) (waits : Bool) (link : LinkState) (order : List Placed) (sends : PublisherCall)
    → (cells : ℕ) (push : Push) → cells ≡ cells_of link.kind link.limit → push ≡ push_on route.connection link.kind sends
    → IsAt routes place route → IsSeat Submission table route.connection (cells_of link.kind link.limit) → moments < 2 ^ 63
    → IsKeptAt table moments route.connection link order sends (subscribing.Receiving place route p waits)
    → slots_of (take_values (placed_by_pop (ring_in table route.connection cells) push p))
    ≡ given_in_hand routes route.connection
    (received routes borrowed most place route
    (pop_take p (shared_answer table (on_ring route.connection Submission cells (pop_next p)))) waits
    (pop_answer (pop_take p (shared_answer table (on_ring route.connection Submission cells (pop_next p))))))
take_core table moments links routes borrowed most place route p waits link order sends cells push size is at st bound k =
    subst (λ (x : Push). slots_of (take_values (placed_by_pop (ring_in table route.connection cells) x p))
    ≡ given_in_hand routes route.connection
    (received routes borrowed most place route
    (pop_take p (shared_answer table (on_ring route.connection Submission cells (pop_next p)))) waits
    (pop_answer (pop_take p (shared_answer table (on_ring route.connection Submission cells (pop_next p))))))) (sym is)
    (subst (λ (n : ℕ). slots_of (take_values
    (placed_by_pop (ring_in table route.connection n) (push_on route.connection link.kind sends) p))
    ≡ given_in_hand routes route.connection
    (received routes borrowed most place route
    (pop_take p (shared_answer table (on_ring route.connection Submission n (pop_next p)))) waits
    (pop_answer (pop_take p (shared_answer table (on_ring route.connection Submission n (pop_next p))))))) (sym size) exact)
  where
    exact : slots_of (take_values (placed_by_pop (ring_in table route.connection (cells_of link.kind link.limit))
        (push_on route.connection link.kind sends) p))
        ≡ given_in_hand routes route.connection
        (received routes borrowed most place route
        (pop_take p (shared_answer table (on_ring route.connection Submission (cells_of link.kind link.limit) (pop_next p)))) waits
        (pop_answer (pop_take p (shared_answer table
        (on_ring route.connection Submission (cells_of link.kind link.limit) (pop_next p))))))
    exact =
        let words : RingWords = ring_in table route.connection (cells_of link.kind link.limit) in
        let push' : Push = push_on route.connection link.kind sends in
        let s : Shape link.kind link.limit words (waiting link order) push' p
        = subst (λ (x : Pop). Shape link.kind link.limit words (waiting link order) push' x)
        (pop_here place route link.kind p waits) k.shape in
        let few : words.write + 1 < 2 ^ 64 = omega (arith, k.few, bound) in
        let g = pop_goes link.kind link.limit words (waiting link order) push' p few s in
        let given : answer_of words (pop_next p)
        ≡ shared_answer table (on_ring route.connection Submission (cells_of link.kind link.limit) (pop_next p))
        = access_answer Submission table route.connection (cells_of link.kind link.limit) (pop_next p) st in
        ap slots_of (sym g.ended ∙ ap (λ (a : ℕ). pop_ended (pop_take p a)) given ∙ pop_answers
        (pop_take p (shared_answer table (on_ring route.connection Submission (cells_of link.kind link.limit) (pop_next p)))))
        ∙ own_given routes borrowed most place route
        (pop_take p (shared_answer table (on_ring route.connection Submission (cells_of link.kind link.limit) (pop_next p)))) waits
        (pop_answer (pop_take p (shared_answer table
        (on_ring route.connection Submission (cells_of link.kind link.limit) (pop_next p))))) at

pop_takes : (m : World) (connection who : ℕ) (routes : List Route) (borrowed : List ℕ) (most : ℕ) (c : SubscriberCall)
    (link : LinkState) (order : List Placed)
    → pops_from c ≡ Some connection → All (IsLinkOf m.links receiver who) routes → IsSubscribing m.table.sizes routes c
    → slice_get m.links connection ≡ Some link
    → IsSeat Submission m.table connection (cells_of link.kind link.limit) → m.moments < 2 ^ 63
    → IsKeptAt m.table m.moments connection link order (publisher_stage (slice_get m.publishers link.publisher)) c
    → slots_of (take_values (pop_acts m c))
    ≡ given_in_hand routes connection (subscriber_take routes borrowed most c (shared_answer m.table (subscriber_next c)))
pop_takes m connection who routes borrowed most subscribing.Idle link order e all h found st bound k = absurd (cc)
pop_takes m connection who routes borrowed most (subscribing.Receiving place route p waits) link order e all h found st bound k =
    let here : route.connection ≡ connection = some_is route.connection connection e in
    let mine : IsLinkOf m.links receiver who route = all_at (IsLinkOf m.links receiver who) routes place route h all in
    let found' : slice_get m.links route.connection ≡ Some link = ap (slice_get m.links) here ∙ found in
    let same : mine.link ≡ link = some_is mine.link link (sym mine.found ∙ found') in
    let push_is : push_at m route.connection route.kind
    ≡ push_on route.connection link.kind (publisher_stage (slice_get m.publishers link.publisher)) =
    ap (λ (at : Option LinkState). push_on route.connection route.kind (sender_stage m at)) found'
    ∙ ap (λ (k' : RingKind). push_on route.connection k' (publisher_stage (slice_get m.publishers link.publisher)))
    (mine.kind ∙ ap (λ (l : LinkState). l.kind) same) in
    subst (λ (n : ℕ). slots_of (take_values (pop_acts m (subscribing.Receiving place route p waits)))
    ≡ given_in_hand routes n (subscriber_take routes borrowed most (subscribing.Receiving place route p waits)
    (shared_answer m.table (subscriber_next (subscribing.Receiving place route p waits))))) here
    (take_core m.table m.moments m.links routes borrowed most place route p waits link order
    (publisher_stage (slice_get m.publishers link.publisher)) route.submission_cells (push_at m route.connection route.kind)
    (mine.cells ∙ ap (λ (l : LinkState). cells_of l.kind l.limit) same) push_is h
    (subst (λ (c : ℕ). IsSeat Submission m.table c (cells_of link.kind link.limit)) (sym here) st) bound
    (subst (λ (c : ℕ). IsKeptAt m.table m.moments c link order (publisher_stage (slice_get m.publishers link.publisher))
    (subscribing.Receiving place route p waits)) (sym here) k))
pop_takes m connection who routes borrowed most (subscribing.Received given) link order e all h found st bound k = absurd (cc)
pop_takes m connection who routes borrowed most (subscribing.Reading slot word extent) link order e all h found st bound k = absurd (cc)
pop_takes m connection who routes borrowed most (subscribing.WasRead slot) link order e all h found st bound k = absurd (cc)
pop_takes m connection who routes borrowed most (subscribing.Releasing place route p) link order e all h found st bound k = absurd (cc)
pop_takes m connection who routes borrowed most (subscribing.Released done) link order e all h found st bound k = absurd (cc)

-- what calls gave, one list of them after the other
calls_append : (routes : List Route) (connection who : ℕ) (xs ys : List FinishedCall)
    → given_calls routes connection who (xs ++ ys) ≡ given_calls routes connection who xs ++ given_calls routes connection who ys
calls_append routes connection who [] ys = refl
calls_append routes connection who (x ∷ xs) ys =
    ap (λ (ss : List ℕ). (if is_receiver x.party who then given_answer routes connection x.answer else []) ++ ss)
    (calls_append routes connection who xs ys)
    ∙ sym (append_assoc (if is_receiver x.party who then given_answer routes connection x.answer else [])
    (given_calls routes connection who xs) (given_calls routes connection who ys))

other_ended : (routes : List Route) (connection who : ℕ) (party : Party) (name : CallName) (first last : ℕ) (a : Option Answer)
    → is_receiver party who ≡ false → given_calls routes connection who (ended party name first last a) ≡ []
other_ended routes connection who party name first last None h = refl
other_ended routes connection who party name first last (Some a) h
    = append-nil _ ∙ choose_other (is_receiver party who) (given_answer routes connection a) [] h

own_received : (routes : List Route) (connection who : ℕ) (name : CallName) (first last : ℕ) (a : Answer)
    → given_calls routes connection who (ended (Subscriber who) name first last (Some a)) ≡ given_answer routes connection a
own_received routes connection who name first last a
    = append-nil _ ∙ choose_one (who == who) (given_answer routes connection a) [] (eq-eqb who who refl)

own_ended : (routes : List Route) (connection who : ℕ) (name : CallName) (first last from : ℕ) (c : SubscriberCall)
    → given_calls routes connection who (ended (Subscriber who) name first last (subscriber_answer c from))
    ≡ given_in_hand routes connection c
own_ended routes connection who name first last from subscribing.Idle = refl
own_ended routes connection who name first last from (subscribing.Receiving place route p waits) = refl
own_ended routes connection who name first last from (subscribing.Received given)
    = own_received routes connection who name first last (answer.Received given)
own_ended routes connection who name first last from (subscribing.Reading slot word extent) = refl
own_ended routes connection who name first last from (subscribing.WasRead slot)
    = own_received routes connection who name first last (answer.Read from)
own_ended routes connection who name first last from (subscribing.Releasing place route p) = refl
own_ended routes connection who name first last from (subscribing.Released done)
    = own_received routes connection who name first last (answer.Released done)

-- calls and orders that say the same
same_given : (finished finished' : List FinishedCall) (connection : ℕ) (link : LinkState) (order order' : List Placed)
    (lane : Option SubscriberLaneState) → slots_taken order' ≡ slots_taken order
    → given_calls (routes_of lane) connection link.subscriber finished' ≡ given_calls (routes_of lane) connection link.subscriber finished
    → ReceivesGive finished connection link order lane → ReceivesGive finished' connection link order' lane
same_given finished finished' connection link order order' lane e f h
    = e ∙ h ∙ ap (λ (ss : List ℕ). ss ++ given_in_hand (routes_of lane) connection (subscriber_stage lane)) (sym f)

-- a step gives what it takes
grown_given : (taken taken' new calls calls' hand hand' : List ℕ) → taken' ≡ taken ++ new → taken ≡ calls ++ hand
    → calls' ≡ calls ++ hand → new ≡ hand' → taken' ≡ calls' ++ hand'
grown_given taken taken' new calls calls' hand hand' e f g h
    = e ∙ ap (λ (ss : List ℕ). ss ++ new) (f ∙ sym g) ∙ ap (λ (ss : List ℕ). calls' ++ ss) h

others_ended : (routes : List Route) (connection who : ℕ) (finished : List FinishedCall) (party : Party) (name : CallName)
    (first last : ℕ) (a : Option Answer) → is_receiver party who ≡ false
    → given_calls routes connection who (finished ++ ended party name first last a) ≡ given_calls routes connection who finished
others_ended routes connection who finished party name first last a h =
    calls_append routes connection who finished (ended party name first last a)
    ∙ ap (λ (ss : List ℕ). given_calls routes connection who finished ++ ss) (other_ended routes connection who party name first last a h)
    ∙ append-nil (given_calls routes connection who finished)

publisher_order : (m : World) (lane : PublisherLaneState) (connection : ℕ) (order : List Placed)
    → slice_get (added m.orders (pushes_to lane.port.call) m.moments (push_acts m.table lane.port.call)) connection ≡ Some order
    → (before : List Placed) × (slice_get m.orders connection ≡ Some before) × (slots_taken order ≡ slots_taken before)
publisher_order m lane connection order got = elim (stands (pushes_to lane.port.call) connection) [
  | inl here ↦
      let before = added_here m.orders (pushes_to lane.port.call) m.moments (push_acts m.table lane.port.call) connection order here got
      in (
        before.0,
        before.1,
        ap slots_taken before.2 ∙ taken_more before.0 m.moments (push_acts m.table lane.port.call)
            ∙ ap (λ (vs : List PopAnswer). slots_taken before.0 ++ slots_of vs) (publisher_no_takes m.table lane.port.call) ∙ append-nil
            (slots_taken before.0),
      )
  | inr off ↦ (
    order,
    sym (added_other m.orders (pushes_to lane.port.call) m.moments (push_acts m.table lane.port.call) connection off) ∙
        got,
    refl,
  )
]

begun_publisher : (m : World) (place : ℕ) (c : Call) (at : Option PublisherLaneState) → AllReceivesGive m
    → AllReceivesGive (publisher_begins m place c at)
begun_publisher m place c None k = k
begun_publisher m place c (Some lane) k = k

gone_publisher : (m : World) (place : ℕ) (at : Option PublisherLaneState) → publisher_fits_at at GoOn ≡ true → AllReceivesGive m
    → AllReceivesGive (publisher_goes_on
    (record m { orders = added m.orders (pushes_to (publisher_stage at)) m.moments (push_acts m.table (publisher_stage at)) }) place at)
gone_publisher m place None fit k = absurd (cc)
gone_publisher m place (Some lane) fit k = λ connection link order found got.
    let before = publisher_order m lane connection order got in
    same_given m.finished (m.finished ++ ended (Publisher place) lane.call lane.first m.moments (publisher_ending m.table lane))
    connection link before.0 order (slice_get m.subscribers link.subscriber) before.2
    (others_ended (routes_of (slice_get m.subscribers link.subscriber)) connection link.subscriber m.finished (Publisher place)
    lane.call lane.first m.moments (publisher_ending m.table lane) refl)
    (k connection link before.0 found before.1)

-- a subscriber after a step, where it stood between calls
no_hand : (routes : List Route) (connection : ℕ) (c : SubscriberCall) → subscriber_is_idle c ≡ true → given_in_hand routes connection c ≡ []
no_hand routes connection subscribing.Idle h = refl
no_hand routes connection (subscribing.Receiving place route p waits) h = absurd (cc)
no_hand routes connection (subscribing.Received given) h = absurd (cc)
no_hand routes connection (subscribing.Reading slot word extent) h = absurd (cc)
no_hand routes connection (subscribing.WasRead slot) h = absurd (cc)
no_hand routes connection (subscribing.Releasing place route p) h = absurd (cc)
no_hand routes connection (subscribing.Released done) h = absurd (cc)

release_hand : (routes : List Route) (connection moment sample : ℕ) (place : Option ℕ) (route : Option Route)
    (lane : SubscriberLaneState) → given_in_hand routes connection lane.port.call ≡ []
    → given_in_hand routes connection (release_begun moment sample place route lane).port.call ≡ []
release_hand routes connection moment sample None route lane h = h
release_hand routes connection moment sample (Some place) None lane h = h
release_hand routes connection moment sample (Some place) (Some route) lane h = refl

begun_hand : (routes : List Route) (connection moment : ℕ) (c : Call) (lane : SubscriberLaneState)
    → given_in_hand routes connection lane.port.call ≡ [] → given_in_hand routes connection (subscriber_begun moment c lane).port.call ≡ []
begun_hand routes connection moment call.LoanUninit lane h = h
begun_hand routes connection moment (call.Write loan payload user_header) lane h = h
begun_hand routes connection moment (call.Send loan) lane h = h
begun_hand routes connection moment (call.DropLoan loan) lane h = h
begun_hand routes connection moment call.Receive lane h
    = from_given routes connection 0 (is_full_at lane.port.borrowed lane.port.most_borrowed 0) false (slice_get lane.port.routes 0)
begun_hand routes connection moment (call.Read sample) lane h
    = read_given routes connection sample 0 lane.port.extent
    (nat_lt 0 (3 + lane.port.extent.user_header_words + lane.port.extent.payload_words))
begun_hand routes connection moment (call.Release sample) lane h
    = release_hand routes connection moment sample (place_of sample lane) (route_at (place_of sample lane) lane) lane h

-- what a subscriber at a place gives is said of the lane there
lane_here : (lanes : List SubscriberLaneState) (finished : List FinishedCall) (connection : ℕ) (link : LinkState) (order : List Placed)
    (place : ℕ) (lane after : SubscriberLaneState) → link.subscriber ≡ place → slice_get lanes place ≡ Some lane
    → ReceivesGive finished connection link order (Some after)
    → ReceivesGive finished connection link order (slice_get (set lanes place after) link.subscriber)
lane_here lanes finished connection link order place lane after own found h =
    subst (ReceivesGive finished connection link order)
    (sym (ap (slice_get (set lanes place after)) own ∙ set_same lanes place after lane found)) h

begun_subscriber : (m : World) (place : ℕ) (c : Call) (at : Option SubscriberLaneState) → slice_get m.subscribers place ≡ at
    → subscriber_fits_at at (Begin c) ≡ true → AllReceivesGive m → AllReceivesGive (subscriber_begins m place c at)
begun_subscriber m place c None e fit k = k
begun_subscriber m place c (Some lane) e fit k = λ connection link order found got.
    let was = k connection link order found got in
    elim (eqb_tells link.subscriber place) [
      | inl same ↦
          let old : ReceivesGive m.finished connection link order (Some lane)
          = subst (ReceivesGive m.finished connection link order) (ap (slice_get m.subscribers) same.1 ∙ e) was in
          let empty : given_in_hand lane.port.routes connection lane.port.call ≡ []
          = no_hand lane.port.routes connection lane.port.call
          (and_left (subscriber_is_idle lane.port.call) (subscriber_may lane c) fit) in
          let none : given_in_hand lane.port.routes connection (subscriber_begun m.moments c lane).port.call ≡ []
          = begun_hand lane.port.routes connection m.moments c lane empty in
          lane_here m.subscribers m.finished connection link order place lane (subscriber_begun m.moments c lane) same.1 e
          (subst (λ (rs : List Route). slots_taken order ≡ given_calls rs connection link.subscriber m.finished
          ++ given_in_hand rs connection (subscriber_begun m.moments c lane).port.call) (sym (subscriber_routes m.moments c lane))
          (old ∙ ap (λ (ss : List ℕ). given_calls lane.port.routes connection link.subscriber m.finished ++ ss) (empty ∙ sym none)))
      | inr other ↦ subst (ReceivesGive m.finished connection link order)
          (sym (set_other m.subscribers place link.subscriber (subscriber_begun m.moments c lane) other.1)) was
    ]

-- the order of a connection after a step of its subscriber
subscriber_order : (m : World) (place : ℕ) (lane : SubscriberLaneState) (connection : ℕ) (link : LinkState) (order : List Placed)
    → slice_get m.subscribers place ≡ Some lane → m.moments < 2 ^ 63 → IsWithin m → AreKept m
    → slice_get m.links connection ≡ Some link → link.subscriber ≡ place
    → slice_get (added m.orders (pops_from lane.port.call) m.moments (pop_acts m lane.port.call)) connection ≡ Some order
    → (before : List Placed) × (slice_get m.orders connection ≡ Some before)
    × (slots_taken order ≡ slots_taken before
    ++ given_in_hand lane.port.routes connection
    (subscriber_take lane.port.routes lane.port.borrowed lane.port.most_borrowed lane.port.call (subscriber_given m.table lane)))
subscriber_order m place lane connection link order e bound w kept found mine got =
    let is : IsSubscriber m.table.sizes lane = all_at (IsSubscriber m.table.sizes) m.subscribers place lane e w.subscribers in
    elim (stands (pops_from lane.port.call) connection) [
      | inl here ↦
          let before = added_here m.orders (pops_from lane.port.call) m.moments (pop_acts m lane.port.call) connection order here got in
          let stage : subscriber_stage (slice_get m.subscribers link.subscriber) ≡ lane.port.call
          = ap subscriber_stage (ap (slice_get m.subscribers) mine ∙ e) in (
            before.0,
            before.1,
            ap slots_taken before.2 ∙ taken_more before.0 m.moments (pop_acts m lane.port.call)
                ∙ ap (λ (ss : List ℕ). slots_taken before.0 ++ ss)
                (pop_takes m connection place lane.port.routes lane.port.borrowed lane.port.most_borrowed lane.port.call link before.0
                here (w.receivers place lane e) is.call found (seat m connection link found w) bound
                (subst (λ (c : SubscriberCall). IsKeptAt m.table m.moments connection link before.0
                (publisher_stage (slice_get m.publishers link.publisher)) c) stage (kept connection link before.0 found before.1))),
          )
      | inr off ↦ (
        order,
        sym (added_other m.orders (pops_from lane.port.call) m.moments (pop_acts m lane.port.call) connection off) ∙ got,
        sym (append-nil (slots_taken order)) ∙ ap (λ (ss : List ℕ). slots_taken order ++ ss)
            (sym (take_given m.table.sizes lane.port.routes lane.port.borrowed lane.port.most_borrowed lane.port.call
            (subscriber_given m.table lane) connection is.call off)),
      )
    ]

gone_subscriber : (m : World) (place : ℕ) (at : Option SubscriberLaneState) → slice_get m.subscribers place ≡ at
    → subscriber_fits_at at GoOn ≡ true → m.moments < 2 ^ 63 → IsWithin m → AreKept m → AllReceivesGive m
    → AllReceivesGive (subscriber_goes_on
    (record m { orders = added m.orders (pops_from (subscriber_stage at)) m.moments (pop_acts m (subscriber_stage at)) }) place at)
gone_subscriber m place None e fit bound w kept k = absurd (cc)
gone_subscriber m place (Some lane) e fit bound w kept k = λ connection link order found got.
    elim (eqb_tells link.subscriber place) [
      | inl same ↦ own connection link order found got same.1
      | inr other ↦ foreign connection link order found got other.1
    ]
  where
    own : (connection : ℕ) (link : LinkState) (order : List Placed) → slice_get m.links connection ≡ Some link
        → slice_get (added m.orders (pops_from lane.port.call) m.moments (pop_acts m lane.port.call)) connection ≡ Some order
        → link.subscriber ≡ place
        → ReceivesGive (m.finished ++ ended (Subscriber place) lane.call lane.first m.moments
        (subscriber_answer lane.port.call (length m.read))) connection link order
        (slice_get (set m.subscribers place (subscriber_after (subscriber_given m.table lane) lane)) link.subscriber)
    own connection link order found got mine =
        let before = subscriber_order m place lane connection link order e bound w kept found mine got in
        let old : ReceivesGive m.finished connection link before.0 (Some lane)
        = subst (ReceivesGive m.finished connection link before.0) (ap (slice_get m.subscribers) mine ∙ e)
        (k connection link before.0 found before.1) in
        let changed = changed_routes (subscriber_change lane.port.call (subscriber_given m.table lane))
        (record lane.port {
          call
              = subscriber_take lane.port.routes lane.port.borrowed lane.port.most_borrowed lane.port.call (subscriber_given m.table lane);
        }) in
        let more : given_calls lane.port.routes connection link.subscriber
        (m.finished ++ ended (Subscriber place) lane.call lane.first m.moments (subscriber_answer lane.port.call (length m.read)))
        ≡ given_calls lane.port.routes connection link.subscriber m.finished ++ given_in_hand lane.port.routes connection lane.port.call =
        calls_append lane.port.routes connection link.subscriber m.finished
        (ended (Subscriber place) lane.call lane.first m.moments (subscriber_answer lane.port.call (length m.read)))
        ∙ ap (λ (ss : List ℕ). given_calls lane.port.routes connection link.subscriber m.finished ++ ss)
        (ap (λ (p : ℕ). given_calls lane.port.routes connection link.subscriber
        (ended (Subscriber p) lane.call lane.first m.moments (subscriber_answer lane.port.call (length m.read)))) (sym mine)
        ∙ own_ended lane.port.routes connection link.subscriber lane.call lane.first m.moments (length m.read) lane.port.call) in
        lane_here m.subscribers (m.finished
        ++ ended (Subscriber place) lane.call lane.first m.moments (subscriber_answer lane.port.call (length m.read))) connection
        link order place lane (subscriber_after (subscriber_given m.table lane) lane) mine e
        (subst (λ (rs : List Route). slots_taken order
        ≡ given_calls rs connection link.subscriber
        (m.finished ++ ended (Subscriber place) lane.call lane.first m.moments (subscriber_answer lane.port.call (length m.read)))
        ++ given_in_hand rs connection (subscriber_after (subscriber_given m.table lane) lane).port.call) (sym changed.0)
        (subst (λ (c : SubscriberCall). slots_taken order
        ≡ given_calls lane.port.routes connection link.subscriber
        (m.finished ++ ended (Subscriber place) lane.call lane.first m.moments (subscriber_answer lane.port.call (length m.read)))
        ++ given_in_hand lane.port.routes connection c) (sym changed.1)
        (grown_given (slots_taken before.0) (slots_taken order) _ (given_calls lane.port.routes connection link.subscriber m.finished) _
        (given_in_hand lane.port.routes connection lane.port.call) _ before.2 old more refl)))

    foreign : (connection : ℕ) (link : LinkState) (order : List Placed) → slice_get m.links connection ≡ Some link
        → slice_get (added m.orders (pops_from lane.port.call) m.moments (pop_acts m lane.port.call)) connection ≡ Some order
        → (link.subscriber ≡ place → ⊥)
        → ReceivesGive (m.finished ++ ended (Subscriber place) lane.call lane.first m.moments
        (subscriber_answer lane.port.call (length m.read))) connection link order
        (slice_get (set m.subscribers place (subscriber_after (subscriber_given m.table lane) lane)) link.subscriber)
    foreign connection link order found got other =
        let off : pops_from lane.port.call ≡ Some connection → ⊥ = λ here. other (pops_own m place lane connection link e w found here) in
        let was = k connection link order found
        (sym (added_other m.orders (pops_from lane.port.call) m.moments (pop_acts m lane.port.call) connection off) ∙ got) in
        subst (ReceivesGive (m.finished ++ ended (Subscriber place) lane.call lane.first m.moments
        (subscriber_answer lane.port.call (length m.read))) connection link order)
        (sym (set_other m.subscribers place link.subscriber (subscriber_after (subscriber_given m.table lane) lane) other))
        (same_given m.finished (m.finished ++ ended (Subscriber place) lane.call lane.first m.moments
        (subscriber_answer lane.port.call (length m.read))) connection link order order (slice_get m.subscribers link.subscriber) refl
        (others_ended (routes_of (slice_get m.subscribers link.subscriber)) connection link.subscriber m.finished (Subscriber place)
        lane.call lane.first m.moments (subscriber_answer lane.port.call (length m.read)) (not_same place link.subscriber other)) was)
      where
        not_same : (a b : ℕ) → (b ≡ a → ⊥) → (a == b) ≡ false
        not_same a b h = elim (eqb_tells a b) [
          | inl same ↦ absurd (h (sym same.1))
          | inr differ ↦ differ.0
        ]

pub happens_gives : (m : World) (party : Party) (step : Move) → fits m party step ≡ true → m.moments < 2 ^ 63 → IsWithin m → AreKept m
    → AllReceivesGive m → AllReceivesGive (happens m party step)
happens_gives m (Publisher place) (Begin c) fit bound w kept k = begun_publisher m place c (slice_get m.publishers place) k
happens_gives m (Subscriber place) (Begin c) fit bound w kept k = begun_subscriber m place c (slice_get m.subscribers place) refl fit k
happens_gives m (Publisher place) GoOn fit bound w kept k = gone_publisher m place (slice_get m.publishers place) fit k
happens_gives m (Subscriber place) GoOn fit bound w kept k = gone_subscriber m place (slice_get m.subscribers place) refl fit bound w kept k
