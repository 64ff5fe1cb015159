-- A call that stopped within its steps: who is inside a call goes on, unless memory or steps run out.
use Rattle.std.proofs.Common.{ℕ, zero, suc, ◌≡◌, ◌+◌, Bool, true, false, not, if◌then◌else◌, nat_lt, List, slice_get}
use Rattle.std.proofs.Common.{Option, Some, None, refl, sym, ◌∙◌, ap, subst, arith}
use Rattle.iox_lanes_machine.specs.QueuesSteps.Access.{successor}
use Rattle.iox_lanes_machine.specs.QueuesSteps.Ends.{pop_take, push_take}
use Rattle.iox_lanes_machine.specs.QueuesSteps.Refusing as refusing
use Rattle.iox_lanes_machine.specs.QueuesSteps.declared.order.Placed.{Placed}
use Rattle.iox_lanes_machine.specs.QueuesSteps.declared.order.PopAnswer.{PopAnswer}
use Rattle.iox_lanes_machine.specs.QueuesSteps.declared.order.PopAnswer.TheVariants.{Got, Saw}
use Rattle.iox_lanes_machine.specs.QueuesSteps.declared.order.PushAnswer.{PushAnswer}
use Rattle.iox_lanes_machine.specs.QueuesSteps.declared.order.PushAnswer.TheVariants.{Kept, LeftOut, Refused}
use Rattle.iox_lanes_machine.specs.QueuesSteps.declared.rings.ends.Pop.{Pop}
use Rattle.iox_lanes_machine.specs.QueuesSteps.declared.rings.ends.Push.{Push}
use Rattle.iox_lanes_machine.specs.QueuesSteps.declared.rings.refusing.pop.Pop as refusing_pop_type
use Rattle.iox_lanes_machine.specs.QueuesSteps.declared.rings.refusing.push.Push as refusing_push_type
use Rattle.iox_lanes_machine.specs.QueuesSteps.declared.schedule.Stepped.TheVariants as stepped
use Rattle.iox_lanes_machine.specs.LanesBase.Answers.{pop_answer, push_answer, refusing_pop_answer, refusing_push_answer}
use Rattle.iox_lanes_machine.specs.LanesBase.Publishing.{counted, head_from, loan_from, loan_reclaimed, nothing_sent, publisher_is_idle}
use Rattle.iox_lanes_machine.specs.LanesBase.Publishing.{publisher_is_over, publisher_take, push_from, pushed, send_reclaimed, sweep_from}
use Rattle.iox_lanes_machine.specs.LanesBase.Publishing.{write_from}
use Rattle.iox_lanes_machine.specs.LanesBase.Subscribing.{is_full_at, receive_from, received, released, subscriber_is_idle}
use Rattle.iox_lanes_machine.specs.LanesBase.Subscribing.{subscriber_is_over, subscriber_take}
use Rattle.iox_lanes_machine.specs.LanesBase.declared.calls.publisher.Delivery.{Delivery}
use Rattle.iox_lanes_machine.specs.LanesBase.declared.calls.publisher.PublisherCall.{PublisherCall}
use Rattle.iox_lanes_machine.specs.LanesBase.declared.calls.publisher.PublisherCall.TheVariants as publishing
use Rattle.iox_lanes_machine.specs.LanesBase.declared.calls.route.Route.{Route}
use Rattle.iox_lanes_machine.specs.LanesBase.declared.calls.subscriber.SlotExtent.{SlotExtent}
use Rattle.iox_lanes_machine.specs.LanesBase.declared.calls.subscriber.SubscriberCall.{SubscriberCall}
use Rattle.iox_lanes_machine.specs.LanesBase.declared.calls.subscriber.SubscriberCall.TheVariants as subscribing
use Rattle.iox_lanes_machine.specs.LanesParties.Parties.{PublisherLaneState, SubscriberLaneState, head_of, is_route, place_of}
use Rattle.iox_lanes_machine.specs.LanesParties.Parties.{publisher_after, publisher_begun, publisher_fits, publisher_may, release_begun}
use Rattle.iox_lanes_machine.specs.LanesParties.Parties.{route_at, subscriber_after, subscriber_begun, subscriber_fits, subscriber_may}
use Rattle.iox_lanes_machine.specs.LanesParties.Publishers.{words_of}
use Rattle.iox_lanes_machine.specs.LanesParties.declared.call.Call.{Call}
use Rattle.iox_lanes_machine.specs.LanesParties.declared.call.Call.TheVariants as call
use Rattle.iox_lanes_machine.specs.LanesParties.declared.call.Move.TheVariants.{Begin, GoOn}
use Rattle.iox_lanes_machine.specs.LanesParties.declared.call.Party.{Party}
use Rattle.iox_lanes_machine.specs.LanesParties.declared.call.Party.TheVariants.{Publisher, Subscriber}
use Rattle.iox_lanes_machine.specs.World.{World, StepsTo, fits, placed, publisher_begins, publisher_ends_at}
use Rattle.iox_lanes_machine.specs.World.{publisher_fits_at, publisher_given, publisher_goes_on, subscriber_begins, subscriber_ends_at}
use Rattle.iox_lanes_machine.specs.World.{subscriber_fits_at, subscriber_given, subscriber_goes_on}
use Rattle.iox_lanes_machine.proofs.Calls.{no_place, no_route}
use Rattle.iox_lanes_machine.proofs.LanesParties.Rings.{and_right}
use Rattle.iox_lanes_machine.proofs.Within.{set_same}
use Rattle.iox_lanes_laws.specs.Turns.{GoesToEnd}
use Rattle.iox_lanes_laws.proofs.Subscribers.{next_call}
use Rattle.iox_lanes_service.specs.Turning.{GoesThrough}

-- ---- a publisher is inside its call until that is over

loan_busy : (place : ℕ) (at : Option Route) → publisher_is_idle (loan_from place at) ≡ false
loan_busy place None = refl
loan_busy place (Some route) = refl

reclaimed_busy : (routes : List Route) (place : ℕ) (route : Route) (p : refusing_pop_type.Pop) (a : Option PopAnswer)
    → publisher_is_idle (loan_reclaimed routes place route p a) ≡ false
reclaimed_busy routes place route p None = refl
reclaimed_busy routes place route p (Some (Got (Some slot))) = refl
reclaimed_busy routes place route p (Some (Got None)) = loan_busy (successor place) (slice_get routes (successor place))
reclaimed_busy routes place route p (Some (Saw some)) = loan_busy (successor place) (slice_get routes (successor place))

write_busy : (slot word : ℕ) (at : Option ℕ) → publisher_is_idle (write_from slot word at) ≡ false
write_busy slot word None = refl
write_busy slot word (Some value) = refl

head_busy : (slot word : ℕ) (at : Option ℕ) → publisher_is_idle (head_from slot word at) ≡ false
head_busy slot word None = refl
head_busy slot word (Some value) = refl

push_busy : (slot place : ℕ) (delivery : Delivery) (at : Option Route) → publisher_is_idle (push_from slot place delivery at) ≡ false
push_busy slot place delivery None = refl
push_busy slot place delivery (Some route) = refl

pushed_busy : (routes : List Route) (slot place : ℕ) (route : Route) (p : Push) (delivery : Delivery) (a : Option PushAnswer)
    → publisher_is_idle (pushed routes slot place route p delivery a) ≡ false
pushed_busy routes slot place route p delivery None = refl
pushed_busy routes slot place route p delivery (Some a)
    = push_busy slot (successor place) (counted delivery a) (slice_get routes (successor place))

sweep_busy : (routes : List Route) (slot place : ℕ) (at : Option Route) → publisher_is_idle (sweep_from routes slot place at) ≡ false
sweep_busy routes slot place None = push_busy slot 0 nothing_sent (slice_get routes 0)
sweep_busy routes slot place (Some route) = refl

swept_busy : (routes : List Route) (slot place : ℕ) (route : Route) (p : refusing_pop_type.Pop) (a : Option PopAnswer)
    → publisher_is_idle (send_reclaimed routes slot place route p a) ≡ false
swept_busy routes slot place route p None = refl
swept_busy routes slot place route p (Some (Got (Some back))) = refl
swept_busy routes slot place route p (Some (Got None)) = sweep_busy routes slot (successor place) (slice_get routes (successor place))
swept_busy routes slot place route p (Some (Saw some)) = sweep_busy routes slot (successor place) (slice_get routes (successor place))

publisher_busy : (routes : List Route) (words : List ℕ) (stage : PublisherCall) (a : ℕ) → publisher_is_idle stage ≡ false
    → publisher_is_over stage ≡ false → publisher_is_idle (publisher_take routes words stage a) ≡ false
publisher_busy routes words publishing.Idle a busy over = absurd (cc busy)
publisher_busy routes words (publishing.LoanReclaims place route p) a busy over
    = reclaimed_busy routes place route (refusing.pop_take p a) (refusing_pop_answer (refusing.pop_take p a))
publisher_busy routes words publishing.Lending a busy over = absurd (cc over)
publisher_busy routes words (publishing.Writing slot word value) a busy over
    = write_busy slot (successor word) (slice_get words (successor word))
publisher_busy routes words (publishing.Written slot) a busy over = absurd (cc over)
publisher_busy routes words (publishing.Heading slot word value) a busy over
    = head_busy slot (successor word) (slice_get words (successor word))
publisher_busy routes words (publishing.Remembering slot) a busy over = sweep_busy routes slot 0 (slice_get routes 0)
publisher_busy routes words (publishing.SendReclaims slot place route p) a busy over
    = swept_busy routes slot place route (refusing.pop_take p a) (refusing_pop_answer (refusing.pop_take p a))
publisher_busy routes words (publishing.Pushing slot place route p delivery) a busy over
    = pushed_busy routes slot place route (push_take p a) delivery (push_answer (push_take p a))
publisher_busy routes words (publishing.Sent slot delivery) a busy over = absurd (cc over)
publisher_busy routes words (publishing.Dropping slot) a busy over = absurd (cc over)

publisher_starts_busy : (moment : ℕ) (c : Call) (lane : PublisherLaneState) → publisher_fits lane (Begin c) ≡ true
    → publisher_is_idle (publisher_begun moment c lane).port.call ≡ false
publisher_starts_busy moment call.LoanUninit lane fit = loan_busy 0 (slice_get lane.port.routes 0)
publisher_starts_busy moment (call.Write loan payload user_header) lane fit = write_busy loan 0 (slice_get payload.items 0)
publisher_starts_busy moment (call.Send loan) lane fit = head_busy loan 0 (slice_get (head_of loan lane) 0)
publisher_starts_busy moment (call.DropLoan loan) lane fit = refl
publisher_starts_busy moment call.Receive lane fit
    = absurd (cc (and_right (publisher_is_idle lane.port.call) (publisher_may lane call.Receive) fit))
publisher_starts_busy moment (call.Read sample) lane fit
    = absurd (cc (and_right (publisher_is_idle lane.port.call) (publisher_may lane (call.Read sample)) fit))
publisher_starts_busy moment (call.Release sample) lane fit
    = absurd (cc (and_right (publisher_is_idle lane.port.call) (publisher_may lane (call.Release sample)) fit))

not_true : (b : Bool) → not b ≡ true → b ≡ false
not_true true h = absurd (cc h)
not_true false h = refl

publisher_begins_inside : (m : World) (place : ℕ) (c : Call) (at : Option PublisherLaneState) → slice_get m.publishers place ≡ at
    → publisher_fits_at at (Begin c) ≡ true → publisher_fits_at (slice_get (publisher_begins m place c at).publishers place) GoOn ≡ true
publisher_begins_inside m place c None e fit = absurd (cc fit)
publisher_begins_inside m place c (Some lane) e fit =
    ap (λ (o : Option PublisherLaneState). publisher_fits_at o GoOn)
    (set_same m.publishers place (publisher_begun m.moments c lane) lane e)
    ∙ ap not (publisher_starts_busy m.moments c lane fit)

publisher_stays_inside : (m : World) (place : ℕ) (orders : List (List Placed)) (at : Option PublisherLaneState)
    → slice_get m.publishers place ≡ at → publisher_fits_at at GoOn ≡ true → publisher_ends_at at ≡ false
    → publisher_fits_at (slice_get (publisher_goes_on (record m { orders = orders }) place at).publishers place) GoOn ≡ true
publisher_stays_inside m place orders None e fit over = absurd (cc fit)
publisher_stays_inside m place orders (Some lane) e fit over =
    ap (λ (o : Option PublisherLaneState). publisher_fits_at o GoOn)
    (set_same m.publishers place (publisher_after (publisher_given m.table lane) lane) lane e)
    ∙ ap not (publisher_busy lane.port.routes (words_of lane.port) lane.port.call (publisher_given m.table lane)
    (not_true (publisher_is_idle lane.port.call) fit) over)

-- ---- so is a subscriber

receive_busy : (place : ℕ) (full waits : Bool) (at : Option Route) → subscriber_is_idle (receive_from place full waits at) ≡ false
receive_busy place full waits None = refl
receive_busy place full waits (Some route) = refl

received_busy : (routes : List Route) (borrowed : List ℕ) (most place : ℕ) (route : Route) (p : Pop) (waits : Bool) (a : Option PopAnswer)
    → subscriber_is_idle (received routes borrowed most place route p waits a) ≡ false
received_busy routes borrowed most place route p waits None = refl
received_busy routes borrowed most place route p waits (Some (Got (Some slot))) = refl
received_busy routes borrowed most place route p waits (Some (Got None))
    = receive_busy (successor place) (is_full_at borrowed most (successor place)) waits (slice_get routes (successor place))
received_busy routes borrowed most place route p waits (Some (Saw some))
    = receive_busy (successor place) (is_full_at borrowed most (successor place)) _ (slice_get routes (successor place))

read_busy : (slot word : ℕ) (extent : SlotExtent) (test : Bool)
    → subscriber_is_idle (if test then subscribing.Reading slot word extent else subscribing.WasRead slot) ≡ false
read_busy slot word extent true = refl
read_busy slot word extent false = refl

released_busy : (place : ℕ) (route : Route) (p : refusing_push_type.Push) (a : Option PushAnswer)
    → subscriber_is_idle (released place route p a) ≡ false
released_busy place route p None = refl
released_busy place route p (Some Kept) = refl
released_busy place route p (Some (LeftOut oldest)) = refl
released_busy place route p (Some Refused) = refl

subscriber_busy : (routes : List Route) (borrowed : List ℕ) (most : ℕ) (stage : SubscriberCall) (a : ℕ)
    → subscriber_is_idle stage ≡ false → subscriber_is_over stage ≡ false
    → subscriber_is_idle (subscriber_take routes borrowed most stage a) ≡ false
subscriber_busy routes borrowed most subscribing.Idle a busy over = absurd (cc busy)
subscriber_busy routes borrowed most (subscribing.Receiving place route p waits) a busy over
    = received_busy routes borrowed most place route (pop_take p a) waits (pop_answer (pop_take p a))
subscriber_busy routes borrowed most (subscribing.Received given) a busy over = absurd (cc over)
subscriber_busy routes borrowed most (subscribing.Reading slot word extent) a busy over
    = read_busy slot (successor word) extent (nat_lt (successor word) (3 + extent.user_header_words + extent.payload_words))
subscriber_busy routes borrowed most (subscribing.WasRead slot) a busy over = absurd (cc over)
subscriber_busy routes borrowed most (subscribing.Releasing place route p) a busy over
    = released_busy place route (refusing.push_take p a) (refusing_push_answer (refusing.push_take p a))
subscriber_busy routes borrowed most (subscribing.Released done) a busy over = absurd (cc over)

release_starts_busy : (moment sample : ℕ) (at : Option ℕ) (route : Option Route) (lane : SubscriberLaneState) → (route ≡ None → ⊥)
    → (at ≡ None → ⊥) → subscriber_is_idle (release_begun moment sample at route lane).port.call ≡ false
release_starts_busy moment sample None route lane there some = absurd (some refl)
release_starts_busy moment sample (Some place) None lane there some = absurd (there refl)
release_starts_busy moment sample (Some place) (Some route) lane there some = refl

subscriber_starts_busy : (moment : ℕ) (c : Call) (lane : SubscriberLaneState) → subscriber_fits lane (Begin c) ≡ true
    → subscriber_is_idle (subscriber_begun moment c lane).port.call ≡ false
subscriber_starts_busy moment call.LoanUninit lane fit
    = absurd (cc (and_right (subscriber_is_idle lane.port.call) (subscriber_may lane call.LoanUninit) fit))
subscriber_starts_busy moment (call.Write loan payload user_header) lane fit
    = absurd (cc (and_right (subscriber_is_idle lane.port.call) (subscriber_may lane (call.Write loan payload user_header)) fit))
subscriber_starts_busy moment (call.Send loan) lane fit
    = absurd (cc (and_right (subscriber_is_idle lane.port.call) (subscriber_may lane (call.Send loan)) fit))
subscriber_starts_busy moment (call.DropLoan loan) lane fit
    = absurd (cc (and_right (subscriber_is_idle lane.port.call) (subscriber_may lane (call.DropLoan loan)) fit))
subscriber_starts_busy moment call.Receive lane fit
    = receive_busy 0 (is_full_at lane.port.borrowed lane.port.most_borrowed 0) false (slice_get lane.port.routes 0)
subscriber_starts_busy moment (call.Read sample) lane fit
    = read_busy sample 0 lane.port.extent (nat_lt 0 (3 + lane.port.extent.user_header_words + lane.port.extent.payload_words))
subscriber_starts_busy moment (call.Release sample) lane fit =
    let there : is_route (route_at (place_of sample lane) lane) ≡ true
    = and_right (subscriber_is_idle lane.port.call) (subscriber_may lane (call.Release sample)) fit in
    release_starts_busy moment sample (place_of sample lane) (route_at (place_of sample lane) lane) lane
    (no_route (route_at (place_of sample lane) lane) there) (no_place (place_of sample lane) lane there)

subscriber_begins_inside : (m : World) (place : ℕ) (c : Call) (at : Option SubscriberLaneState) → slice_get m.subscribers place ≡ at
    → subscriber_fits_at at (Begin c) ≡ true
    → subscriber_fits_at (slice_get (subscriber_begins m place c at).subscribers place) GoOn ≡ true
subscriber_begins_inside m place c None e fit = absurd (cc fit)
subscriber_begins_inside m place c (Some lane) e fit =
    ap (λ (o : Option SubscriberLaneState). subscriber_fits_at o GoOn)
    (set_same m.subscribers place (subscriber_begun m.moments c lane) lane e)
    ∙ ap not (subscriber_starts_busy m.moments c lane fit)

subscriber_stays_inside : (m : World) (place : ℕ) (orders : List (List Placed)) (at : Option SubscriberLaneState)
    → slice_get m.subscribers place ≡ at → subscriber_fits_at at GoOn ≡ true → subscriber_ends_at at ≡ false
    → subscriber_fits_at (slice_get (subscriber_goes_on (record m { orders = orders }) place at).subscribers place) GoOn ≡ true
subscriber_stays_inside m place orders None e fit over = absurd (cc fit)
subscriber_stays_inside m place orders (Some lane) e fit over =
    ap (λ (o : Option SubscriberLaneState). subscriber_fits_at o GoOn)
    (set_same m.subscribers place (subscriber_after (subscriber_given m.table lane) lane) lane e)
    ∙ ap (λ (c : SubscriberCall). not (subscriber_is_idle c)) (next_call m lane)
    ∙ ap not (subscriber_busy lane.port.routes lane.port.borrowed lane.port.most_borrowed lane.port.call (subscriber_given m.table lane)
    (not_true (subscriber_is_idle lane.port.call) fit) over)

-- ---- steps of a party

-- who began a call is inside it
pub begun_inside : (m : World) (party : Party) (c : Call) (n : World) → StepsTo m party (Begin c) stepped.Went n → fits n party GoOn ≡ true
begun_inside m (Publisher place) c n step =
    subst (λ (w : World). fits w (Publisher place) GoOn ≡ true) (sym step.2)
    (publisher_begins_inside m place c (slice_get m.publishers place) refl step.0)
begun_inside m (Subscriber place) c n step =
    subst (λ (w : World). fits w (Subscriber place) GoOn ≡ true) (sym step.2)
    (subscriber_begins_inside m place c (slice_get m.subscribers place) refl step.0)

-- so is who made a step that wasn't the last
pub gone_inside : (m : World) (party : Party) (n : World) → StepsTo m party GoOn stepped.Went n → fits n party GoOn ≡ true
gone_inside m (Publisher place) n step =
    subst (λ (w : World). fits w (Publisher place) GoOn ≡ true) (sym step.2)
    (publisher_stays_inside m place (placed m (Publisher place)).orders (slice_get m.publishers place) refl step.0 step.1)
gone_inside m (Subscriber place) n step =
    subst (λ (w : World). fits w (Subscriber place) GoOn ≡ true) (sym step.2)
    (subscriber_stays_inside m place (placed m (Subscriber place)).orders (slice_get m.subscribers place) refl step.0 step.1)

through_next : (party : Party) (made : ℕ) (m k n : World) → GoesThrough party made m k → StepsTo k party GoOn stepped.Went n
    → GoesThrough party (suc made) m n
through_next party zero m k n goes step = (n, subst (λ (w : World). StepsTo w party GoOn stepped.Went n) goes step, refl)
through_next party (suc made) m k n goes step = (goes.0, goes.1, through_next party made goes.0 k n goes.2 step)

-- one step more
pub through_more : (party : Party) (made : ℕ) (m k n : World) → GoesThrough party made m k → StepsTo k party GoOn stepped.Went n
    → GoesThrough party (made + 1) m n
through_more party made m k n goes step =
    let next : suc made ≡ made + 1 = omega arith in
    subst (λ (all : ℕ). GoesThrough party all m n) next (through_next party made m k n goes step)

-- the last step
pub through_to_end : (party : Party) (made : ℕ) (m k n : World) → GoesThrough party made m k → StepsTo k party GoOn stepped.Finished n
    → GoesToEnd party made m n
through_to_end party zero m k n goes step = subst (λ (w : World). StepsTo w party GoOn stepped.Finished n) goes step
through_to_end party (suc made) m k n goes step = (goes.0, goes.1, through_to_end party made goes.0 k n goes.2 step)

-- a step that found no memory
pub through_to_want : (party : Party) (made : ℕ) (m k n : World) → GoesThrough party made m k → StepsTo k party GoOn stepped.NoMemory n
    → (steps : ℕ) × GoesThrough party steps m n × StepsTo n party GoOn stepped.NoMemory n
through_to_want party made m k n goes step =
    let is : k ≡ n = sym step.2 in (
      made,
      subst (GoesThrough party made m) is goes,
      subst (λ (w : World). StepsTo w party GoOn stepped.NoMemory w) is (step.0, step.1, refl),
    )
