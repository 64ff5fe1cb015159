-- The two ends of a ring as calls of ports: idle at a connection, fresh there, or in progress.
use Rattle.std.proofs.Common.{ℕ, ◌≡◌, ◌+◌, ◌==◌, ◌||◌, ◌⊎◌, Bool, true, false, if◌then◌else◌, nat_lt, List, slice_get, Option, Some, None}
use Rattle.std.proofs.Common.{refl, sym, ◌∙◌, ap, subst, inl, inr}
use Rattle.std.specs.List.{All}
use Rattle.std.proofs.lemmas.Bool.{eq-eqb}
use Rattle.std.proofs.lemmas.Bool.Decides.{eqb_tells}
use Rattle.iox_lanes_machine.specs.QueuesSteps.Access.{RingWords, successor}
use Rattle.iox_lanes_machine.specs.QueuesSteps.declared.order.PushAnswer.{PushAnswer}
use Rattle.iox_lanes_machine.specs.QueuesSteps.declared.order.PushAnswer.TheVariants.{Kept, LeftOut, Refused}
use Rattle.iox_lanes_machine.specs.QueuesSteps.declared.order.PopAnswer.{PopAnswer}
use Rattle.iox_lanes_machine.specs.QueuesSteps.declared.order.PopAnswer.TheVariants.{Got, Saw}
use Rattle.iox_lanes_machine.specs.QueuesSteps.declared.rings.overflowing.push.Push.TheVariants as overflowing_push
use Rattle.iox_lanes_machine.specs.QueuesSteps.declared.rings.overflowing.pop.Pop.TheVariants as overflowing_pop
use Rattle.iox_lanes_machine.proofs.QueuesSteps.OverflowingPush as overflowing_pushes
use Rattle.iox_lanes_machine.proofs.QueuesSteps.OverflowingPop as overflowing_pops
use Rattle.iox_lanes_machine.specs.QueuesSteps.Refusing as refusing
use Rattle.iox_lanes_machine.specs.QueuesSteps.declared.rings.refusing.push.Push as refusing_push_type
use Rattle.iox_lanes_machine.specs.QueuesSteps.declared.rings.refusing.push.Push.TheVariants as refusing_push
use Rattle.iox_lanes_machine.specs.QueuesSteps.declared.rings.refusing.pop.Pop as refusing_pop_type
use Rattle.iox_lanes_machine.specs.QueuesSteps.declared.rings.refusing.pop.Pop.TheVariants as refusing_pop
use Rattle.iox_lanes_machine.proofs.QueuesSteps.RefusingSteps as refusing_steps
use Rattle.iox_lanes_machine.specs.QueuesSteps.Ends.{Shape, push_idle, push_begun, push_is_idle, push_take, pop_idle, pop_first}
use Rattle.iox_lanes_machine.specs.QueuesSteps.Ends.{pop_is_idle, pop_take}
use Rattle.iox_lanes_machine.specs.QueuesSteps.declared.rings.ends.RingKind.{RingKind}
use Rattle.iox_lanes_machine.specs.QueuesSteps.declared.rings.ends.RingKind.TheVariants as kind
use Rattle.iox_lanes_machine.specs.QueuesSteps.declared.rings.ends.Push.{Push}
use Rattle.iox_lanes_machine.specs.QueuesSteps.declared.rings.ends.Push.TheVariants as push
use Rattle.iox_lanes_machine.specs.QueuesSteps.declared.rings.ends.Pop.{Pop}
use Rattle.iox_lanes_machine.specs.QueuesSteps.declared.rings.ends.Pop.TheVariants as pop
use Rattle.iox_lanes_machine.proofs.QueuesSteps.EitherRing.{push_begins_shape, pop_begins_shape}
use Rattle.iox_lanes_machine.specs.LanesBase.Answers.{push_answer, pop_answer, refusing_pop_answer, refusing_push_answer}
use Rattle.iox_lanes_machine.specs.LanesBase.Publishing.{publisher_is_idle, publisher_take, loan_from, loan_reclaimed, write_from}
use Rattle.iox_lanes_machine.specs.LanesBase.Publishing.{head_from, push_from, push_at, sweep_from, send_reclaimed, pushed, counted}
use Rattle.iox_lanes_machine.specs.LanesBase.Publishing.{nothing_sent}
use Rattle.iox_lanes_machine.specs.LanesBase.Subscribing.{subscriber_is_idle, subscriber_take, receive_from, received, is_full_at, released}
use Rattle.iox_lanes_machine.specs.LanesBase.declared.calls.publisher.Delivery.{Delivery}
use Rattle.iox_lanes_machine.specs.LanesBase.declared.calls.publisher.PublisherCall.{PublisherCall}
use Rattle.iox_lanes_machine.specs.LanesBase.declared.calls.publisher.PublisherCall.TheVariants as publishing
use Rattle.iox_lanes_machine.specs.LanesBase.declared.calls.route.Route.{Route}
use Rattle.iox_lanes_machine.specs.LanesBase.declared.calls.subscriber.SlotExtent.{SlotExtent}
use Rattle.iox_lanes_machine.specs.LanesBase.declared.calls.subscriber.SubscriberCall.{SubscriberCall}
use Rattle.iox_lanes_machine.specs.LanesBase.declared.calls.subscriber.SubscriberCall.TheVariants as subscribing
use Rattle.iox_lanes_machine.specs.LanesParties.Parties.{PublisherLaneState, SubscriberLaneState, publisher_may, publisher_fits}
use Rattle.iox_lanes_machine.specs.LanesParties.Parties.{publisher_begun, head_of, subscriber_may, subscriber_fits, subscriber_begun}
use Rattle.iox_lanes_machine.specs.LanesParties.Parties.{release_begun, place_of, route_at}
use Rattle.iox_lanes_machine.specs.LanesParties.declared.call.Call.{Call}
use Rattle.iox_lanes_machine.specs.LanesParties.declared.call.Call.TheVariants as call
use Rattle.iox_lanes_machine.specs.LanesParties.declared.call.Move.TheVariants.{Begin}
use Rattle.iox_lanes_machine.proofs.LanesParties.Rings.{and_left, all_at}
use Rattle.iox_lanes_machine.specs.Rings.{push_on, pop_on}
use Rattle.iox_lanes_machine.specs.World.{pushes_to, pops_from}
use Rattle.iox_lanes_machine.specs.Kept.{IsLinkOf}
use Rattle.iox_lanes_machine.specs.Links.{LinkState}

pub some_is : {X : Type 0} (x y : X) → Some x ≡ Some y → x ≡ y
some_is x y h = cc h

pub choose_one : {X : Type 0} (test : Bool) (x y : X) → test ≡ true → (if test then x else y) ≡ x
choose_one true x y h = refl
choose_one false x y h = absurd (cc)

pub choose_other : {X : Type 0} (test : Bool) (x y : X) → test ≡ false → (if test then x else y) ≡ y
choose_other true x y h = absurd (cc)
choose_other false x y h = refl

-- a push that has just begun, or none
abbrev pub IsFreshPush : RingKind → ℕ → Push → Type 0
IsFreshPush kind limit push = (push ≡ push_idle kind) ⊎ ((value : ℕ) × (push ≡ push_begun kind limit value))

-- a pop or look that has just begun, or none
abbrev pub IsFreshPop : RingKind → Pop → Type 0
IsFreshPop kind pop = (pop ≡ pop_idle kind) ⊎ ((looks : Bool) × (pop ≡ pop_first kind looks))

idle_is_push : (kind : RingKind) → push_is_idle (push_idle kind) ≡ true
idle_is_push kind.Overflowing = refl
idle_is_push kind.Refusing = refl

idle_is_pop : (kind : RingKind) → pop_is_idle (pop_idle kind) ≡ true
idle_is_pop kind.Overflowing = refl
idle_is_pop kind.Refusing = refl

pub fresh_push_shape : (kind : RingKind) (limit : ℕ) (words : RingWords) (q : List ℕ) (push : Push) (pop : Pop)
    → IsFreshPush kind limit push → Shape kind limit words q (push_idle kind) pop → Shape kind limit words q push pop
fresh_push_shape kind limit words q push pop (inl e) s = subst (λ (p : Push). Shape kind limit words q p pop) (sym e) s
fresh_push_shape kind limit words q push pop (inr h) s =
    let g = push_begins_shape kind limit words q (push_idle kind) pop h.0 (idle_is_push kind) s in
    subst (λ (p : Push). Shape kind limit words q p pop) (sym h.1) g.shape

pub fresh_pop_shape : (kind : RingKind) (limit : ℕ) (words : RingWords) (q : List ℕ) (push : Push) (pop : Pop) → IsFreshPop kind pop
    → Shape kind limit words q push (pop_idle kind) → Shape kind limit words q push pop
fresh_pop_shape kind limit words q push pop (inl e) s = subst (λ (p : Pop). Shape kind limit words q push p) (sym e) s
fresh_pop_shape kind limit words q push pop (inr h) s =
    let g = pop_begins_shape kind limit words q push (pop_idle kind) h.0 (idle_is_pop kind) s in
    subst (λ (p : Pop). Shape kind limit words q push p) (sym h.1) g.shape

-- a push that was answered knows what no push knows
pub done_push : (kind : RingKind) (limit : ℕ) (words : RingWords) (q : List ℕ) (push : Push) (pop : Pop) (answer : PushAnswer)
    → push_answer push ≡ Some answer → Shape kind limit words q push pop → Shape kind limit words q (push_idle kind) pop
done_push kind.Overflowing limit words q (push.Overflowing overflowing_push.Idle) (pop.Overflowing c) answer e s = s
done_push kind.Overflowing limit words q (push.Overflowing (overflowing_push.Begun l value)) (pop.Overflowing c) answer e s = absurd (cc)
done_push kind.Overflowing limit words q (push.Overflowing (overflowing_push.SawWrite l value write next)) (pop.Overflowing c) answer e
    s = absurd (cc)
done_push kind.Overflowing limit words q (push.Overflowing (overflowing_push.SawRead l value write next seen)) (pop.Overflowing c)
    answer e s = absurd (cc)
done_push kind.Overflowing limit words q (push.Overflowing (overflowing_push.Filled l value write next seen)) (pop.Overflowing c) answer
    e s = absurd (cc)
done_push kind.Overflowing limit words q (push.Overflowing (overflowing_push.Full value seen next)) (pop.Overflowing c) answer e s
    = absurd (cc)
done_push kind.Overflowing limit words q (push.Overflowing (overflowing_push.SawOldest value seen next oldest)) (pop.Overflowing c)
    answer e s = absurd (cc)
done_push kind.Overflowing limit words q (push.Overflowing (overflowing_push.Pushed value answered)) (pop.Overflowing c) answer e s =
    overflowing_pushes.reshape limit words q (overflowing_push.Pushed value answered) overflowing_push.Idle c s s.push_knows
done_push kind.Overflowing limit words q (push.Overflowing p) (pop.Refusing c) answer e s = absurd s
done_push kind.Overflowing limit words q (push.Refusing p) (pop.Overflowing c) answer e s = absurd s
done_push kind.Overflowing limit words q (push.Refusing p) (pop.Refusing c) answer e s = absurd s
done_push kind.Refusing limit words q (push.Overflowing p) (pop.Overflowing c) answer e s = absurd s
done_push kind.Refusing limit words q (push.Overflowing p) (pop.Refusing c) answer e s = absurd s
done_push kind.Refusing limit words q (push.Refusing p) (pop.Overflowing c) answer e s = absurd s
done_push kind.Refusing limit words q (push.Refusing p) (pop.Refusing c) answer e s
    = refusing_steps.restage limit words q p refusing_push.Idle c c s tt s.pop_knows

pub done_pop : (kind : RingKind) (limit : ℕ) (words : RingWords) (q : List ℕ) (push : Push) (pop : Pop)
    → Shape kind limit words q push pop → Shape kind limit words q push (pop_idle kind)
done_pop kind.Overflowing limit words q (push.Overflowing p) (pop.Overflowing c) s
    = overflowing_pops.repop limit words q p c overflowing_pop.Idle s tt
done_pop kind.Overflowing limit words q (push.Overflowing p) (pop.Refusing c) s = absurd s
done_pop kind.Overflowing limit words q (push.Refusing p) (pop.Overflowing c) s = absurd s
done_pop kind.Overflowing limit words q (push.Refusing p) (pop.Refusing c) s = absurd s
done_pop kind.Refusing limit words q (push.Overflowing p) (pop.Overflowing c) s = absurd s
done_pop kind.Refusing limit words q (push.Overflowing p) (pop.Refusing c) s = absurd s
done_pop kind.Refusing limit words q (push.Refusing p) (pop.Overflowing c) s = absurd s
done_pop kind.Refusing limit words q (push.Refusing p) (pop.Refusing c) s
    = refusing_steps.restage limit words q p p c refusing_pop.Idle s s.push_knows tt

-- a call that doesn't push at a connection makes no push there
pub push_off : (connection : ℕ) (kind : RingKind) (call : PublisherCall) → (pushes_to call ≡ Some connection → ⊥)
    → push_on connection kind call ≡ push_idle kind
push_off connection kind publishing.Idle h = refl
push_off connection kind (publishing.LoanReclaims place route pop) h = refl
push_off connection kind publishing.Lending h = refl
push_off connection kind (publishing.Writing slot word value) h = refl
push_off connection kind (publishing.Written slot) h = refl
push_off connection kind (publishing.Heading slot word value) h = refl
push_off connection kind (publishing.Remembering slot) h = refl
push_off connection kind (publishing.SendReclaims slot place route pop) h = refl
push_off connection kind (publishing.Pushing slot place route push delivery) h =
    elim (eqb_tells route.connection connection) [
      | inl here ↦ absurd (h (ap (λ (n : ℕ). Some n) here.1))
      | inr there ↦ choose_other (route.connection == connection) push (push_idle kind) there.0
    ]
push_off connection kind (publishing.Sent slot delivery) h = refl
push_off connection kind (publishing.Dropping slot) h = refl

pub pop_off : (connection : ℕ) (kind : RingKind) (call : SubscriberCall) → (pops_from call ≡ Some connection → ⊥)
    → pop_on connection kind call ≡ pop_idle kind
pop_off connection kind subscribing.Idle h = refl
pop_off connection kind (subscribing.Receiving place route pop waits) h =
    elim (eqb_tells route.connection connection) [
      | inl here ↦ absurd (h (ap (λ (n : ℕ). Some n) here.1))
      | inr there ↦ choose_other (route.connection == connection) pop (pop_idle kind) there.0
    ]
pop_off connection kind (subscribing.Received receipt) h = refl
pop_off connection kind (subscribing.Reading slot word extent) h = refl
pop_off connection kind (subscribing.WasRead slot) h = refl
pop_off connection kind (subscribing.Releasing place route push) h = refl
pop_off connection kind (subscribing.Released done) h = refl

pub push_here : (slot place : ℕ) (route : Route) (kind : RingKind) (push : Push) (delivery : Delivery)
    → push_on route.connection kind (publishing.Pushing slot place route push delivery) ≡ push
push_here slot place route kind push delivery
    = choose_one (route.connection == route.connection) push (push_idle kind) (eq-eqb route.connection route.connection refl)

pub pop_here : (place : ℕ) (route : Route) (kind : RingKind) (pop : Pop) (waits : Bool)
    → pop_on route.connection kind (subscribing.Receiving place route pop waits) ≡ pop
pop_here place route kind pop waits
    = choose_one (route.connection == route.connection) pop (pop_idle kind) (eq-eqb route.connection route.connection refl)

-- a call that goes to a connection begins a push there as its link says
fresh_push_from : (links : List LinkState) (port : LinkState → ℕ) (who : ℕ) (routes : List Route) (slot place : ℕ) (delivery : Delivery)
    (connection : ℕ) (link : LinkState) (at : Option Route)
    → slice_get routes place ≡ at → All (IsLinkOf links port who) routes → slice_get links connection ≡ Some link
    → IsFreshPush link.kind link.limit (push_on connection link.kind (push_from slot place delivery at))
fresh_push_from links port who routes slot place delivery connection link None e all found = inl refl
fresh_push_from links port who routes slot place delivery connection link (Some route) e all found =
    let own : IsLinkOf links port who route = all_at (IsLinkOf links port who) routes place route e all in
    elim (eqb_tells route.connection connection) [
      | inl here ↦
          let same : own.link ≡ link = some_is own.link link (sym own.found ∙ ap (slice_get links) here.1 ∙ found) in
          inr (
            slot,
            choose_one (route.connection == connection) (push_begun route.kind route.limit slot) (push_idle link.kind) here.0
                ∙ ap (λ (k : RingKind). push_begun k route.limit slot) (own.kind ∙ ap (λ (l : LinkState). l.kind) same)
                ∙ ap (λ (n : ℕ). push_begun link.kind n slot) (own.limit ∙ ap (λ (l : LinkState). l.limit) same),
          )
      | inr there ↦ inl (choose_other (route.connection == connection) (push_begun route.kind route.limit slot) (push_idle link.kind)
          there.0)
    ]

pub fresh_push_at : (links : List LinkState) (port : LinkState → ℕ) (who : ℕ) (routes : List Route) (slot place : ℕ)
    (delivery : Delivery) (connection : ℕ) (link : LinkState)
    → All (IsLinkOf links port who) routes → slice_get links connection ≡ Some link
    → IsFreshPush link.kind link.limit (push_on connection link.kind (push_at routes slot place delivery))
fresh_push_at links port who routes slot place delivery connection link all found =
    fresh_push_from links port who routes slot place delivery connection link (slice_get routes place) refl all found

fresh_sweep : (links : List LinkState) (port : LinkState → ℕ) (who : ℕ) (routes : List Route) (slot place : ℕ) (connection : ℕ)
    (link : LinkState) (at : Option Route)
    → All (IsLinkOf links port who) routes → slice_get links connection ≡ Some link
    → IsFreshPush link.kind link.limit (push_on connection link.kind (sweep_from routes slot place at))
fresh_sweep links port who routes slot place connection link None all found
    = fresh_push_at links port who routes slot 0 nothing_sent connection link all found
fresh_sweep links port who routes slot place connection link (Some route) all found = inl refl

loan_off : (connection : ℕ) (kind : RingKind) (place : ℕ) (at : Option Route)
    → push_on connection kind (loan_from place at) ≡ push_idle kind
loan_off connection kind place None = refl
loan_off connection kind place (Some route) = refl

reclaims_off : (connection : ℕ) (kind : RingKind) (routes : List Route) (place : ℕ) (route : Route) (p : refusing_pop_type.Pop)
    (answer : Option PopAnswer)
    → push_on connection kind (loan_reclaimed routes place route p answer) ≡ push_idle kind
reclaims_off connection kind routes place route p None = refl
reclaims_off connection kind routes place route p (Some (Got (Some slot))) = refl
reclaims_off connection kind routes place route p (Some (Got None))
    = loan_off connection kind (successor place) (slice_get routes (successor place))
reclaims_off connection kind routes place route p (Some (Saw some))
    = loan_off connection kind (successor place) (slice_get routes (successor place))

write_off : (connection : ℕ) (kind : RingKind) (slot word : ℕ) (value : Option ℕ)
    → push_on connection kind (write_from slot word value) ≡ push_idle kind
write_off connection kind slot word None = refl
write_off connection kind slot word (Some value) = refl

head_off : (connection : ℕ) (kind : RingKind) (slot word : ℕ) (value : Option ℕ)
    → push_on connection kind (head_from slot word value) ≡ push_idle kind
head_off connection kind slot word None = refl
head_off connection kind slot word (Some value) = refl

fresh_reclaimed : (links : List LinkState) (port : LinkState → ℕ) (who : ℕ) (routes : List Route) (slot place : ℕ) (route : Route)
    (p : refusing_pop_type.Pop) (answer : Option PopAnswer) (connection : ℕ) (link : LinkState)
    → All (IsLinkOf links port who) routes → slice_get links connection ≡ Some link
    → IsFreshPush link.kind link.limit (push_on connection link.kind (send_reclaimed routes slot place route p answer))
fresh_reclaimed links port who routes slot place route p None connection link all found = inl refl
fresh_reclaimed links port who routes slot place route p (Some (Got (Some back))) connection link all found = inl refl
fresh_reclaimed links port who routes slot place route p (Some (Got None)) connection link all found
    = fresh_sweep links port who routes slot (successor place) connection link (slice_get routes (successor place)) all found
fresh_reclaimed links port who routes slot place route p (Some (Saw some)) connection link all found
    = fresh_sweep links port who routes slot (successor place) connection link (slice_get routes (successor place)) all found

fresh_pushed : (links : List LinkState) (port : LinkState → ℕ) (who : ℕ) (routes : List Route) (slot place : ℕ) (route : Route)
    (p : Push) (delivery : Delivery) (answer : Option PushAnswer) (connection : ℕ) (link : LinkState)
    → All (IsLinkOf links port who) routes → slice_get links connection ≡ Some link → (Some route.connection ≡ Some connection → ⊥)
    → IsFreshPush link.kind link.limit (push_on connection link.kind (pushed routes slot place route p delivery answer))
fresh_pushed links port who routes slot place route p delivery None connection link all found off
    = inl (push_off connection link.kind (publishing.Pushing slot place route p delivery) off)
fresh_pushed links port who routes slot place route p delivery (Some answer) connection link all found off
    = fresh_push_at links port who routes slot (successor place) (counted delivery answer) connection link all found

-- after a step elsewhere a push may begin
pub fresh_take : (links : List LinkState) (port : LinkState → ℕ) (who : ℕ) (routes : List Route) (words : List ℕ) (call : PublisherCall)
    (answer connection : ℕ) (link : LinkState)
    → All (IsLinkOf links port who) routes → slice_get links connection ≡ Some link → (pushes_to call ≡ Some connection → ⊥)
    → IsFreshPush link.kind link.limit (push_on connection link.kind (publisher_take routes words call answer))
fresh_take links port who routes words publishing.Idle answer connection link all found off = inl refl
fresh_take links port who routes words (publishing.LoanReclaims place route p) answer connection link all found off =
    inl (reclaims_off connection link.kind routes place route (refusing.pop_take p answer)
    (refusing_pop_answer (refusing.pop_take p answer)))
fresh_take links port who routes words publishing.Lending answer connection link all found off = inl refl
fresh_take links port who routes words (publishing.Writing slot word value) answer connection link all found off
    = inl (write_off connection link.kind slot (successor word) (slice_get words (successor word)))
fresh_take links port who routes words (publishing.Written slot) answer connection link all found off = inl refl
fresh_take links port who routes words (publishing.Heading slot word value) answer connection link all found off
    = inl (head_off connection link.kind slot (successor word) (slice_get words (successor word)))
fresh_take links port who routes words (publishing.Remembering slot) answer connection link all found off
    = fresh_sweep links port who routes slot 0 connection link (slice_get routes 0) all found
fresh_take links port who routes words (publishing.SendReclaims slot place route p) answer connection link all found off =
    fresh_reclaimed links port who routes slot place route (refusing.pop_take p answer)
    (refusing_pop_answer (refusing.pop_take p answer)) connection link all found
fresh_take links port who routes words (publishing.Pushing slot place route p delivery) answer connection link all found off =
    fresh_pushed links port who routes slot place route (push_take p answer) delivery (push_answer (push_take p answer)) connection link
    all found off
fresh_take links port who routes words (publishing.Sent slot delivery) answer connection link all found off = inl refl
fresh_take links port who routes words (publishing.Dropping slot) answer connection link all found off = inl refl

-- after a step of the push itself it goes on, or is over and another may begin
pub next_push : (links : List LinkState) (port : LinkState → ℕ) (who : ℕ) (routes : List Route) (slot place : ℕ) (route : Route)
    (p : Push) (delivery : Delivery) (answer : Option PushAnswer) (link : LinkState) (words : RingWords) (q : List ℕ) (pop : Pop)
    → push_answer p ≡ answer → All (IsLinkOf links port who) routes → slice_get links route.connection ≡ Some link
    → Shape link.kind link.limit words q p pop
    → Shape link.kind link.limit words q (push_on route.connection link.kind (pushed routes slot place route p delivery answer)) pop
next_push links port who routes slot place route p delivery None link words q pop e all found s
    = subst (λ (x : Push). Shape link.kind link.limit words q x pop) (sym (push_here slot place route link.kind p delivery)) s
next_push links port who routes slot place route p delivery (Some answer) link words q pop e all found s =
    fresh_push_shape link.kind link.limit words q
    (push_on route.connection link.kind (push_at routes slot (successor place) (counted delivery answer))) pop
    (fresh_push_at links port who routes slot (successor place) (counted delivery answer) route.connection link all found)
    (done_push link.kind link.limit words q p pop answer e s)

fresh_pop_from : (links : List LinkState) (port : LinkState → ℕ) (who : ℕ) (routes : List Route) (place : ℕ) (full waits : Bool)
    (connection : ℕ) (link : LinkState) (at : Option Route)
    → slice_get routes place ≡ at → All (IsLinkOf links port who) routes → slice_get links connection ≡ Some link
    → IsFreshPop link.kind (pop_on connection link.kind (receive_from place full waits at))
fresh_pop_from links port who routes place full waits connection link None e all found = inl refl
fresh_pop_from links port who routes place full waits connection link (Some route) e all found =
    let own : IsLinkOf links port who route = all_at (IsLinkOf links port who) routes place route e all in
    elim (eqb_tells route.connection connection) [
      | inl here ↦
          let same : own.link ≡ link = some_is own.link link (sym own.found ∙ ap (slice_get links) here.1 ∙ found) in
          inr (
            full,
            choose_one (route.connection == connection) (pop_first route.kind full) (pop_idle link.kind) here.0
                ∙ ap (λ (k : RingKind). pop_first k full) (own.kind ∙ ap (λ (l : LinkState). l.kind) same),
          )
      | inr there ↦ inl (choose_other (route.connection == connection) (pop_first route.kind full) (pop_idle link.kind) there.0)
    ]

-- a receive that goes to a connection begins a pop or look there as its link says
pub fresh_receive : (links : List LinkState) (port : LinkState → ℕ) (who : ℕ) (routes : List Route) (borrowed : List ℕ) (most place : ℕ)
    (waits : Bool) (connection : ℕ) (link : LinkState)
    → All (IsLinkOf links port who) routes → slice_get links connection ≡ Some link
    → IsFreshPop link.kind (pop_on connection link.kind
    (receive_from place (is_full_at borrowed most place) waits (slice_get routes place)))
fresh_receive links port who routes borrowed most place waits connection link all found =
    fresh_pop_from links port who routes place (is_full_at borrowed most place) waits connection link (slice_get routes place) refl all
    found

fresh_received : (links : List LinkState) (port : LinkState → ℕ) (who : ℕ) (routes : List Route) (borrowed : List ℕ) (most place : ℕ)
    (route : Route) (p : Pop) (waits : Bool) (answer : Option PopAnswer) (connection : ℕ) (link : LinkState)
    → All (IsLinkOf links port who) routes → slice_get links connection ≡ Some link → (Some route.connection ≡ Some connection → ⊥)
    → IsFreshPop link.kind (pop_on connection link.kind (received routes borrowed most place route p waits answer))
fresh_received links port who routes borrowed most place route p waits None connection link all found off
    = inl (pop_off connection link.kind (subscribing.Receiving place route p waits) off)
fresh_received links port who routes borrowed most place route p waits (Some (Got (Some slot))) connection link all found off = inl refl
fresh_received links port who routes borrowed most place route p waits (Some (Got None)) connection link all found off
    = fresh_receive links port who routes borrowed most (successor place) waits connection link all found
fresh_received links port who routes borrowed most place route p waits (Some (Saw some)) connection link all found off
    = fresh_receive links port who routes borrowed most (successor place) (waits || some) connection link all found

read_off : (connection : ℕ) (kind : RingKind) (slot word : ℕ) (extent : SlotExtent) (test : Bool)
    → pop_on connection kind (if test then subscribing.Reading slot word extent else subscribing.WasRead slot) ≡ pop_idle kind
read_off connection kind slot word extent true = refl
read_off connection kind slot word extent false = refl

released_off : (connection : ℕ) (kind : RingKind) (place : ℕ) (route : Route) (p : refusing_push_type.Push) (answer : Option PushAnswer)
    → pop_on connection kind (released place route p answer) ≡ pop_idle kind
released_off connection kind place route p None = refl
released_off connection kind place route p (Some Kept) = refl
released_off connection kind place route p (Some (LeftOut oldest)) = refl
released_off connection kind place route p (Some Refused) = refl

-- after a step elsewhere a pop or look may begin
pub fresh_subscriber_take : (links : List LinkState) (port : LinkState → ℕ) (who : ℕ) (routes : List Route) (borrowed : List ℕ)
    (most : ℕ) (call : SubscriberCall) (answer connection : ℕ) (link : LinkState)
    → All (IsLinkOf links port who) routes → slice_get links connection ≡ Some link → (pops_from call ≡ Some connection → ⊥)
    → IsFreshPop link.kind (pop_on connection link.kind (subscriber_take routes borrowed most call answer))
fresh_subscriber_take links port who routes borrowed most subscribing.Idle answer connection link all found off = inl refl
fresh_subscriber_take links port who routes borrowed most (subscribing.Receiving place route p waits) answer connection link all found off =
    fresh_received links port who routes borrowed most place route (pop_take p answer) waits (pop_answer (pop_take p answer)) connection
    link all found off
fresh_subscriber_take links port who routes borrowed most (subscribing.Received receipt) answer connection link all found off = inl refl
fresh_subscriber_take links port who routes borrowed most (subscribing.Reading slot word extent) answer connection link all found off =
    inl (read_off connection link.kind slot (successor word) extent
    (nat_lt (successor word) (3 + extent.user_header_words + extent.payload_words)))
fresh_subscriber_take links port who routes borrowed most (subscribing.WasRead slot) answer connection link all found off = inl refl
fresh_subscriber_take links port who routes borrowed most (subscribing.Releasing place route p) answer connection link all found off =
    inl (released_off connection link.kind place route (refusing.push_take p answer) (refusing_push_answer (refusing.push_take p answer)))
fresh_subscriber_take links port who routes borrowed most (subscribing.Released done) answer connection link all found off = inl refl

-- after a step of the pop or look itself it goes on, or is over and another may begin
pub next_pop : (links : List LinkState) (port : LinkState → ℕ) (who : ℕ) (routes : List Route) (borrowed : List ℕ) (most place : ℕ)
    (route : Route) (p : Pop) (waits : Bool) (answer : Option PopAnswer) (link : LinkState) (words : RingWords) (q : List ℕ) (push : Push)
    → All (IsLinkOf links port who) routes → slice_get links route.connection ≡ Some link → Shape link.kind link.limit words q push p
    → Shape link.kind link.limit words q push (pop_on route.connection link.kind (received routes borrowed most place route p waits answer))
next_pop links port who routes borrowed most place route p waits None link words q push all found s
    = subst (λ (x : Pop). Shape link.kind link.limit words q push x) (sym (pop_here place route link.kind p waits)) s
next_pop links port who routes borrowed most place route p waits (Some (Got (Some slot))) link words q push all found s
    = done_pop link.kind link.limit words q push p s
next_pop links port who routes borrowed most place route p waits (Some (Got None)) link words q push all found s =
    fresh_pop_shape link.kind link.limit words q push _
    (fresh_receive links port who routes borrowed most (successor place) waits route.connection link all found)
    (done_pop link.kind link.limit words q push p s)
next_pop links port who routes borrowed most place route p waits (Some (Saw some)) link words q push all found s =
    fresh_pop_shape link.kind link.limit words q push _
    (fresh_receive links port who routes borrowed most (successor place) (waits || some) route.connection link all found)
    (done_pop link.kind link.limit words q push p s)

-- a call that begins, where none was in progress
no_push : (connection : ℕ) (kind : RingKind) (call : PublisherCall) → publisher_is_idle call ≡ true
    → push_on connection kind call ≡ push_idle kind
no_push connection kind publishing.Idle h = refl
no_push connection kind (publishing.LoanReclaims place route p) h = absurd (cc)
no_push connection kind publishing.Lending h = absurd (cc)
no_push connection kind (publishing.Writing slot word value) h = absurd (cc)
no_push connection kind (publishing.Written slot) h = absurd (cc)
no_push connection kind (publishing.Heading slot word value) h = absurd (cc)
no_push connection kind (publishing.Remembering slot) h = absurd (cc)
no_push connection kind (publishing.SendReclaims slot place route p) h = absurd (cc)
no_push connection kind (publishing.Pushing slot place route p delivery) h = absurd (cc)
no_push connection kind (publishing.Sent slot delivery) h = absurd (cc)
no_push connection kind (publishing.Dropping slot) h = absurd (cc)

no_pop : (connection : ℕ) (kind : RingKind) (call : SubscriberCall) → subscriber_is_idle call ≡ true
    → pop_on connection kind call ≡ pop_idle kind
no_pop connection kind subscribing.Idle h = refl
no_pop connection kind (subscribing.Receiving place route p waits) h = absurd (cc)
no_pop connection kind (subscribing.Received receipt) h = absurd (cc)
no_pop connection kind (subscribing.Reading slot word extent) h = absurd (cc)
no_pop connection kind (subscribing.WasRead slot) h = absurd (cc)
no_pop connection kind (subscribing.Releasing place route p) h = absurd (cc)
no_pop connection kind (subscribing.Released done) h = absurd (cc)

-- a publisher that begins a call makes no push yet
pub push_begins : (connection : ℕ) (kind : RingKind) (moment : ℕ) (c : Call) (lane : PublisherLaneState)
    → publisher_fits lane (Begin c) ≡ true
    → (push_on connection kind lane.port.call ≡ push_idle kind)
    × (push_on connection kind (publisher_begun moment c lane).port.call ≡ push_idle kind)
push_begins connection kind moment c lane fit =
    let before : push_on connection kind lane.port.call ≡ push_idle kind
    = no_push connection kind lane.port.call (and_left (publisher_is_idle lane.port.call) (publisher_may lane c) fit) in
    (before, after c before)
  where
    after : (d : Call) → push_on connection kind lane.port.call ≡ push_idle kind
        → push_on connection kind (publisher_begun moment d lane).port.call ≡ push_idle kind
    after call.LoanUninit before = loan_off connection kind 0 (slice_get lane.port.routes 0)
    after (call.Write loan payload user_header) before = write_off connection kind loan 0 (slice_get payload.items 0)
    after (call.Send loan) before = head_off connection kind loan 0 (slice_get (head_of loan lane) 0)
    after (call.DropLoan loan) before = refl
    after call.Receive before = before
    after (call.Read sample) before = before
    after (call.Release sample) before = before

release_off : (connection : ℕ) (kind : RingKind) (moment sample : ℕ) (place : Option ℕ) (route : Option Route)
    (lane : SubscriberLaneState) → pop_on connection kind lane.port.call ≡ pop_idle kind
    → pop_on connection kind (release_begun moment sample place route lane).port.call ≡ pop_idle kind
release_off connection kind moment sample None route lane h = h
release_off connection kind moment sample (Some place) None lane h = h
release_off connection kind moment sample (Some place) (Some route) lane h = refl

-- a subscriber that begins a call may begin a pop or look
pub pop_begins : (links : List LinkState) (port : LinkState → ℕ) (who connection : ℕ) (link : LinkState) (moment : ℕ) (c : Call)
    (lane : SubscriberLaneState) → subscriber_fits lane (Begin c) ≡ true
    → All (IsLinkOf links port who) lane.port.routes → slice_get links connection ≡ Some link
    → (pop_on connection link.kind lane.port.call ≡ pop_idle link.kind)
    × IsFreshPop link.kind (pop_on connection link.kind (subscriber_begun moment c lane).port.call)
pop_begins links port who connection link moment c lane fit all found =
    let before : pop_on connection link.kind lane.port.call ≡ pop_idle link.kind
    = no_pop connection link.kind lane.port.call (and_left (subscriber_is_idle lane.port.call) (subscriber_may lane c) fit) in
    (before, after c before)
  where
    after : (d : Call) → pop_on connection link.kind lane.port.call ≡ pop_idle link.kind
        → IsFreshPop link.kind (pop_on connection link.kind (subscriber_begun moment d lane).port.call)
    after call.LoanUninit before = inl before
    after (call.Write loan payload user_header) before = inl before
    after (call.Send loan) before = inl before
    after (call.DropLoan loan) before = inl before
    after call.Receive before = fresh_receive links port who lane.port.routes lane.port.borrowed lane.port.most_borrowed 0 false
        connection link all found
    after (call.Read sample) before = inl
        (read_off connection link.kind sample 0 lane.port.extent
        (nat_lt 0 (3 + lane.port.extent.user_header_words + lane.port.extent.payload_words)))
    after (call.Release sample) before = inl
        (release_off connection link.kind moment sample (place_of sample lane) (route_at (place_of sample lane) lane) lane before)
