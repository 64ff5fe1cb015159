-- A subscriber's call makes the accesses of its course in any run, and ends right after the last one; a release after four.
use Rattle.std.proofs.Common.{ℕ, ◌≡◌, ◌+◌, ◌-◌, ◌<◌, ◌≤◌, ◌^◌, ◌==◌, ◌&&◌, ◌⊎◌, ◌||◌, not, nat_lt, Bool, true, false, if◌then◌else◌, List}
use Rattle.std.proofs.Common.{[], ◌∷◌, ◌++◌, length, set, slice_get, Option, Some, None, refl, sym, ◌∙◌, ap, subst, inl, inr, arith}
use Rattle.std.proofs.Common.{append-nil, append_assoc, length-append}
use Rattle.std.proofs.lemmas.Bool.Decides.{eqb_tells}
use Rattle.iox_queues_steps.specs.Access.{successor}
use Rattle.iox_queues_steps.specs.declared.access.Access.TheVariants as own
use Rattle.iox_queues_steps.specs.declared.order.Placed.{Placed}
use Rattle.iox_queues_steps.specs.declared.order.PopAnswer.{PopAnswer}
use Rattle.iox_queues_steps.specs.declared.order.PopAnswer.TheVariants.{Got, Saw}
use Rattle.iox_queues_steps.specs.declared.order.PushAnswer.{PushAnswer}
use Rattle.iox_queues_steps.specs.declared.order.PushAnswer.TheVariants.{Kept, LeftOut, Refused}
use Rattle.iox_queues_steps.specs.Refusing as refusing
use Rattle.iox_queues_steps.specs.Overflowing as overflowing
use Rattle.iox_queues_steps.specs.Ends.{pop_first, pop_next, pop_take}
use Rattle.iox_queues_steps.specs.declared.rings.overflowing.pop.Pop as overflowing_pop_type
use Rattle.iox_queues_steps.specs.declared.rings.overflowing.pop.Pop.TheVariants as overflowing_pop
use Rattle.iox_queues_steps.specs.declared.rings.refusing.push.Push as refusing_push_type
use Rattle.iox_queues_steps.specs.declared.rings.refusing.push.Push.TheVariants as push
use Rattle.iox_queues_steps.specs.declared.rings.ends.RingKind.{RingKind}
use Rattle.iox_queues_steps.specs.declared.rings.ends.RingKind.TheVariants as kind
use Rattle.iox_queues_steps.specs.declared.rings.ends.Pop.{Pop}
use Rattle.iox_queues_steps.specs.declared.rings.ends.Pop.TheVariants as pop
use Rattle.iox_lanes_base.specs.Answers.{pop_answer, refusing_push_answer}
use Rattle.iox_lanes_base.specs.Table.{shared_answer}
use Rattle.iox_lanes_base.specs.Subscribing.{subscriber_next, subscriber_take, subscriber_change, subscriber_is_idle, subscriber_is_over}
use Rattle.iox_lanes_base.specs.Subscribing.{borrowed_by, given_back_by, is_full_at, receive_from, received, read_at, released}
use Rattle.iox_lanes_base.specs.declared.words.access.SharedAccess.{SharedAccess}
use Rattle.iox_lanes_base.specs.declared.words.access.SharedAccess.TheVariants.{Local}
use Rattle.iox_lanes_base.specs.declared.calls.route.Route.{Route}
use Rattle.iox_lanes_base.specs.declared.calls.subscriber.Receipt.{Receipt}
use Rattle.iox_lanes_base.specs.declared.calls.subscriber.Receipt.TheVariants as receipt
use Rattle.iox_lanes_base.specs.declared.calls.subscriber.SlotExtent.{SlotExtent}
use Rattle.iox_lanes_base.specs.declared.calls.subscriber.SubscriberCall.{SubscriberCall}
use Rattle.iox_lanes_base.specs.declared.calls.subscriber.SubscriberCall.TheVariants as subscribing
use Rattle.iox_lanes_machine.specs.LanesParties.Keeping as keeping
use Rattle.iox_lanes_machine.specs.LanesParties.Keeping.{SubscriberState}
use Rattle.iox_lanes_machine.specs.LanesParties.Parties.{PublisherLaneState, SubscriberLaneState, subscriber_may, subscriber_fits}
use Rattle.iox_lanes_machine.specs.LanesParties.Parties.{subscriber_begun, subscriber_after, release_begun, is_route, place_of, route_at}
use Rattle.iox_lanes_machine.specs.LanesParties.declared.call.Call.{Call}
use Rattle.iox_lanes_machine.specs.LanesParties.declared.call.Call.TheVariants as call
use Rattle.iox_lanes_machine.specs.LanesParties.declared.call.Entry.{Entry}
use Rattle.iox_lanes_machine.specs.LanesParties.declared.call.Move.{Move}
use Rattle.iox_lanes_machine.specs.LanesParties.declared.call.Move.TheVariants.{Begin, GoOn}
use Rattle.iox_lanes_machine.specs.LanesParties.declared.call.Party.{Party}
use Rattle.iox_lanes_machine.specs.LanesParties.declared.call.Party.TheVariants.{Publisher, Subscriber}
use Rattle.iox_lanes_machine.proofs.LanesParties.Rings.{and_right}
use Rattle.iox_lanes_machine.specs.Apart.{access_of, subscriber_access}
use Rattle.iox_lanes_machine.specs.Paces.{after_entry, led}
use Rattle.iox_lanes_machine.specs.Receipts.{is_receiver}
use Rattle.iox_lanes_machine.specs.World.{World, fits, happens, placed, publisher_begins, publisher_goes_on, subscriber_begins}
use Rattle.iox_lanes_machine.specs.World.{subscriber_ends_at, subscriber_fits_at, subscriber_given, subscriber_goes_on}
use Rattle.iox_lanes_machine.proofs.Ends.{some_is}
use Rattle.iox_lanes_machine.proofs.Paces.{later, one_more}
use Rattle.iox_lanes_machine.proofs.Steps.{happens_moments}
use Rattle.iox_lanes_machine.proofs.Within.{changed_routes, set_other, set_same}
use Rattle.iox_lanes_laws.specs.Accesses.{own_accesses, own_answers, release_course, subscriber_call_course, IsSubscriberCall}
use Rattle.iox_lanes_laws.specs.Accesses.{SubscribersKeepCourse, SubscribersEndAtOnce, ReleasesEndSoon}
use Rattle.iox_lanes_laws.specs.Courses.{quiet_course}
use Rattle.iox_lanes_laws.specs.ReceiveCourses.{subscriber_course, words_in}
use Rattle.iox_lanes_laws.proofs.PublisherCourses.{quiet_ring, pop_goes, refusing_goes}
use Rattle.iox_lanes_laws.proofs.ReceiveLaws.{receives_visit, reads_load, releases_push}

-- a pop that goes on touches a word
emptied_goes : (b : Bool) (read : ℕ) → pop_answer (pop.Overflowing (overflowing.pop_emptied b read)) ≡ None
    → overflowing.pop_next (overflowing.pop_emptied b read) ≡ own.Local → ⊥
emptied_goes true read goes quiet = absurd (cc goes)
emptied_goes false read goes quiet = absurd (cc quiet)

swapped_goes : (b : Bool) (given value : ℕ) → pop_answer (pop.Overflowing (overflowing.pop_swapped b given value)) ≡ None
    → overflowing.pop_next (overflowing.pop_swapped b given value) ≡ own.Local → ⊥
swapped_goes true given value goes quiet = absurd (cc goes)
swapped_goes false given value goes quiet = absurd (cc quiet)

overflowing_goes : (p : overflowing_pop_type.Pop) (given : ℕ) → (overflowing.pop_next p ≡ own.Local → ⊥)
    → pop_answer (pop.Overflowing (overflowing.pop_take p given)) ≡ None
    → overflowing.pop_next (overflowing.pop_take p given) ≡ own.Local → ⊥
overflowing_goes overflowing_pop.Idle given was goes quiet = was refl
overflowing_goes overflowing_pop.Begun given was goes quiet = absurd (cc quiet)
overflowing_goes (overflowing_pop.SawRead read) given was goes quiet = emptied_goes (given == read) read goes quiet
overflowing_goes (overflowing_pop.Nonempty read next) given was goes quiet = absurd (cc quiet)
overflowing_goes (overflowing_pop.SawCell read next value) given was goes quiet = swapped_goes (given == read) given value goes quiet
overflowing_goes (overflowing_pop.Popped got) given was goes quiet = was refl
overflowing_goes overflowing_pop.LookBegun given was goes quiet = absurd (cc quiet)
overflowing_goes (overflowing_pop.LookRead read) given was goes quiet = absurd (cc goes)
overflowing_goes (overflowing_pop.Looked some) given was goes quiet = was refl

take_goes : (p : Pop) (given : ℕ) → (pop_next p ≡ own.Local → ⊥) → pop_answer (pop_take p given) ≡ None
    → pop_next (pop_take p given) ≡ own.Local → ⊥
take_goes (pop.Overflowing p) given was goes quiet = overflowing_goes p given was goes quiet
take_goes (pop.Refusing p) given was goes quiet = pop_goes p given was goes quiet

first_goes : (k : RingKind) (full : Bool) → pop_next (pop_first k full) ≡ own.Local → ⊥
first_goes kind.Overflowing true quiet = absurd (cc quiet)
first_goes kind.Overflowing false quiet = absurd (cc quiet)
first_goes kind.Refusing true quiet = absurd (cc quiet)
first_goes kind.Refusing false quiet = absurd (cc quiet)

-- a stage whose step touches no word is the last one, or no call is in progress
abbrev pub Goes : SubscriberCall → Type 0
Goes subscribing.Idle = Unit {0}
Goes (subscribing.Receiving place route p waits) = pop_next p ≡ own.Local → ⊥
Goes (subscribing.Received got) = Unit {0}
Goes (subscribing.Reading slot word extent) = Unit {0}
Goes (subscribing.WasRead slot) = Unit {0}
Goes (subscribing.Releasing place route p) = refusing.push_next p ≡ own.Local → ⊥
Goes (subscribing.Released done) = Unit {0}

visit_goes : (place : ℕ) (full waits : Bool) (at : Option Route) → Goes (receive_from place full waits at)
visit_goes place full waits None = tt
visit_goes place full waits (Some route) = first_goes route.kind full

visit_on : (routes : List Route) (borrowed : List ℕ) (most place : ℕ) (route : Route) (p : Pop) (waits : Bool) (a : Option PopAnswer)
    → (a ≡ None → pop_next p ≡ own.Local → ⊥) → Goes (received routes borrowed most place route p waits a)
visit_on routes borrowed most place route p waits None h = h refl
visit_on routes borrowed most place route p waits (Some (Got (Some slot))) h = tt
visit_on routes borrowed most place route p waits (Some (Got None)) h
    = visit_goes (successor place) (is_full_at borrowed most (successor place)) waits (slice_get routes (successor place))
visit_on routes borrowed most place route p waits (Some (Saw some)) h
    = visit_goes (successor place) (is_full_at borrowed most (successor place)) (waits || some) (slice_get routes (successor place))

read_goes : (slot word : ℕ) (extent : SlotExtent) (b : Bool)
    → Goes (if b then subscribing.Reading slot word extent else subscribing.WasRead slot)
read_goes slot word extent true = tt
read_goes slot word extent false = tt

release_on : (place : ℕ) (route : Route) (p : refusing_push_type.Push) (a : Option PushAnswer)
    → (a ≡ None → refusing.push_next p ≡ own.Local → ⊥) → Goes (released place route p a)
release_on place route p None h = h refl
release_on place route p (Some Kept) h = tt
release_on place route p (Some (LeftOut oldest)) h = tt
release_on place route p (Some Refused) h = tt

pub goes_on : (routes : List Route) (borrowed : List ℕ) (most : ℕ) (c : SubscriberCall) (given : ℕ) → Goes c
    → Goes (subscriber_take routes borrowed most c given)
goes_on routes borrowed most subscribing.Idle given g = tt
goes_on routes borrowed most (subscribing.Receiving place route p waits) given g
    = visit_on routes borrowed most place route (pop_take p given) waits (pop_answer (pop_take p given)) (take_goes p given g)
goes_on routes borrowed most (subscribing.Received got) given g = tt
goes_on routes borrowed most (subscribing.Reading slot word extent) given g
    = read_goes slot (successor word) extent (nat_lt (successor word) (3 + extent.user_header_words + extent.payload_words))
goes_on routes borrowed most (subscribing.WasRead slot) given g = tt
goes_on routes borrowed most (subscribing.Releasing place route p) given g
    = release_on place route (refusing.push_take p given) (refusing_push_answer (refusing.push_take p given)) (refusing_goes p given g)
goes_on routes borrowed most (subscribing.Released done) given g = tt

-- so a quiet step inside a call is the last one
quiet_ends : (c : SubscriberCall) → Goes c → subscriber_is_idle c ≡ false → subscriber_next c ≡ Local → subscriber_is_over c ≡ true
quiet_ends subscribing.Idle g busy quiet = absurd (cc busy)
quiet_ends (subscribing.Receiving place route p waits) g busy quiet = absurd (g (quiet_ring _ _ _ (pop_next p) quiet))
quiet_ends (subscribing.Received got) g busy quiet = refl
quiet_ends (subscribing.Reading slot word extent) g busy quiet = absurd (cc quiet)
quiet_ends (subscribing.WasRead slot) g busy quiet = refl
quiet_ends (subscribing.Releasing place route p) g busy quiet = absurd (g (quiet_ring _ _ _ (refusing.push_next p) quiet))
quiet_ends (subscribing.Released done) g busy quiet = refl

-- a release has n steps left, of five before its last one; other calls have none
abbrev pushes_left : refusing_push_type.Push → ℕ
pushes_left push.Idle = 0
pushes_left (push.Begun limit value) = 5
pushes_left (push.SawWrite limit value write next) = 4
pushes_left (push.SawRoom value write next) = 3
pushes_left (push.Filled value next) = 2
pushes_left (push.Pushed value answered) = 0

abbrev HasLeft : ℕ → SubscriberCall → Type 0
HasLeft made subscribing.Idle = Unit {0}
HasLeft made (subscribing.Receiving place route p waits) = ⊥
HasLeft made (subscribing.Received got) = ⊥
HasLeft made (subscribing.Reading slot word extent) = ⊥
HasLeft made (subscribing.WasRead slot) = ⊥
HasLeft made (subscribing.Releasing place route p) = (made + pushes_left p ≤ 5) × (0 < pushes_left p)
HasLeft made (subscribing.Released done) = made + 1 ≤ 5

left_room : (place : ℕ) (route : Route) (limit value write next made : ℕ) (b : Bool) → made + 4 ≤ 5
    → HasLeft (made + 1) (released place route (if b then push.SawRoom value write next else push.Pushed value Refused)
    (refusing_push_answer (if b then push.SawRoom value write next else push.Pushed value Refused)))
left_room place route limit value write next made true h = (omega (arith, h), omega arith)
left_room place route limit value write next made false h = omega (arith, h)

left_push : (place : ℕ) (route : Route) (p : refusing_push_type.Push) (given made : ℕ) → made + pushes_left p ≤ 5 → 0 < pushes_left p
    → HasLeft (made + 1) (released place route (refusing.push_take p given) (refusing_push_answer (refusing.push_take p given)))
left_push place route push.Idle given made h some = absurd (omega (arith, some))
left_push place route (push.Begun limit value) given made h some = (omega (arith, h), omega arith)
left_push place route (push.SawWrite limit value write next) given made h some
    = left_room place route limit value write next made (nat_lt (write - given) limit) h
left_push place route (push.SawRoom value write next) given made h some = (omega (arith, h), omega arith)
left_push place route (push.Filled value next) given made h some = omega (arith, h)
left_push place route (push.Pushed value answered) given made h some = absurd (omega (arith, some))

left_on : (routes : List Route) (borrowed : List ℕ) (most : ℕ) (c : SubscriberCall) (given made : ℕ) → HasLeft made c
    → HasLeft (made + 1) (subscriber_take routes borrowed most c given)
left_on routes borrowed most subscribing.Idle given made h = tt
left_on routes borrowed most (subscribing.Receiving place route p waits) given made h = absurd h
left_on routes borrowed most (subscribing.Received got) given made h = absurd h
left_on routes borrowed most (subscribing.Reading slot word extent) given made h = absurd h
left_on routes borrowed most (subscribing.WasRead slot) given made h = absurd h
left_on routes borrowed most (subscribing.Releasing place route p) given made h = left_push place route p given made h.0 h.1
left_on routes borrowed most (subscribing.Released done) given made h = tt

left_few : (c : SubscriberCall) (made : ℕ) → HasLeft made c → subscriber_is_idle c ≡ false → made ≤ 4
left_few subscribing.Idle made h busy = absurd (cc busy)
left_few (subscribing.Receiving place route p waits) made h busy = absurd h
left_few (subscribing.Received got) made h busy = absurd h
left_few (subscribing.Reading slot word extent) made h busy = absurd h
left_few (subscribing.WasRead slot) made h busy = absurd h
left_few (subscribing.Releasing place route p) made h busy = omega (arith, h.0, h.1)
left_few (subscribing.Released done) made h busy = omega (arith, h)

-- what a step of the subscriber's own record changes is not asked for any longer by the call
idle_course : (routes : List Route) (borrowed : List ℕ) (most : ℕ) (answers : List ℕ)
    → subscriber_course routes borrowed most subscribing.Idle answers ≡ quiet_course answers
idle_course routes borrowed most [] = refl
idle_course routes borrowed most (answer ∷ answers)
    = ap (λ (rest : List SharedAccess). Local ∷ rest) (idle_course routes borrowed most answers)

received_course : (routes : List Route) (borrowed : List ℕ) (most : ℕ) (given : Receipt) (answers : List ℕ)
    → subscriber_course routes borrowed most (subscribing.Received given) answers ≡ quiet_course answers
received_course routes borrowed most given [] = refl
received_course routes borrowed most given (answer ∷ answers)
    = ap (λ (rest : List SharedAccess). Local ∷ rest) (idle_course routes borrowed most answers)

released_course : (routes : List Route) (borrowed : List ℕ) (most : ℕ) (done : Bool) (answers : List ℕ)
    → subscriber_course routes borrowed most (subscribing.Released done) answers ≡ quiet_course answers
released_course routes borrowed most done [] = refl
released_course routes borrowed most done (answer ∷ answers)
    = ap (λ (rest : List SharedAccess). Local ∷ rest) (idle_course routes borrowed most answers)

-- the course of a subscriber's call, from where it stands
abbrev course_of : SubscriberState → List ℕ → List SharedAccess
course_of state answers = subscriber_course state.routes state.borrowed state.most_borrowed state.call answers

-- a subscriber whose call goes on to a stage
abbrev pub staged : SubscriberState → SubscriberCall → SubscriberState
staged state c = record state { call = c }

visit_course_on : (state : SubscriberState) (place : ℕ) (route : Route) (p : Pop) (waits : Bool) (a : Option PopAnswer) (answers : List ℕ)
    → course_of (staged state (received state.routes state.borrowed state.most_borrowed place route p waits a)) answers
    ≡ course_of (keeping.changed (borrowed_by place a)
    (staged state (received state.routes state.borrowed state.most_borrowed place route p waits a))) answers
visit_course_on state place route p waits None answers = refl
visit_course_on state place route p waits (Some (Got (Some slot))) answers =
    received_course state.routes state.borrowed state.most_borrowed (receipt.Taken place slot) answers ∙ sym
    (received_course state.routes (keeping.counted_up state.borrowed place) state.most_borrowed (receipt.Taken place slot) answers)
visit_course_on state place route p waits (Some (Got None)) answers = refl
visit_course_on state place route p waits (Some (Saw some)) answers = refl

release_course_on : (state : SubscriberState) (place : ℕ) (route : Route) (p : refusing_push_type.Push) (given : ℕ) (answers : List ℕ)
    → course_of (staged state (released place route (refusing.push_take p given) (refusing_push_answer (refusing.push_take p given))))
    answers
    ≡ course_of (keeping.changed (given_back_by place p)
    (staged state (released place route (refusing.push_take p given) (refusing_push_answer (refusing.push_take p given))))) answers
release_course_on state place route push.Idle given answers = refl
release_course_on state place route (push.Begun limit value) given answers = refl
release_course_on state place route (push.SawWrite limit value write next) given answers = refl
release_course_on state place route (push.SawRoom value write next) given answers = refl
release_course_on state place route (push.Filled value next) given answers =
    released_course state.routes state.borrowed state.most_borrowed true answers ∙ sym
    (released_course state.routes (keeping.counted_down state.borrowed place) state.most_borrowed true answers)
release_course_on state place route (push.Pushed value answered) given answers = refl

step_course : (state : SubscriberState) (c : SubscriberCall) (given : ℕ) (answers : List ℕ)
    → course_of (staged state (subscriber_take state.routes state.borrowed state.most_borrowed c given)) answers
    ≡ course_of (keeping.changed (subscriber_change c given)
    (staged state (subscriber_take state.routes state.borrowed state.most_borrowed c given))) answers
step_course state subscribing.Idle given answers = refl
step_course state (subscribing.Receiving place route p waits) given answers
    = visit_course_on state place route (pop_take p given) waits (pop_answer (pop_take p given)) answers
step_course state (subscribing.Received got) given answers = refl
step_course state (subscribing.Reading slot word extent) given answers = refl
step_course state (subscribing.WasRead slot) given answers = refl
step_course state (subscribing.Releasing place route p) given answers = release_course_on state place route p given answers
step_course state (subscribing.Released done) given answers = refl

after_course : (state : SubscriberState) (given : ℕ) (answers : List ℕ)
    → course_of state (given ∷ answers) ≡ subscriber_next state.call ∷ course_of (keeping.after_answer given state) answers
after_course state given answers = ap (λ (rest : List SharedAccess). subscriber_next state.call ∷ rest)
    (step_course state state.call given answers)

-- what a step does to a subscriber: nothing, or it begins a call, or goes on inside one
abbrev pub Turn : World → Party → Move → ℕ → World → Type 0
Turn m party step place n =
    ((slice_get n.subscribers place ≡ slice_get m.subscribers place) × (is_receiver party place ≡ false))
    ⊎ (((c : Call) × (lane : SubscriberLaneState) × (slice_get m.subscribers place ≡ Some lane)
    × (subscriber_fits lane (Begin c) ≡ true) × (slice_get n.subscribers place ≡ Some (subscriber_begun m.moments c lane)))
    ⊎ ((lane : SubscriberLaneState) × (slice_get m.subscribers place ≡ Some lane) × (subscriber_is_idle lane.port.call ≡ false)
    × (slice_get n.subscribers place ≡ Some (subscriber_after (subscriber_given m.table lane) lane))
    × (is_receiver party place ≡ true) × (access_of m party step ≡ subscriber_next lane.port.call)))

not_true : (b : Bool) → not b ≡ true → b ≡ false
not_true true h = absurd (cc h)
not_true false h = refl

begins_turn : (m : World) (who place : ℕ) (c : Call) (at : Option SubscriberLaneState) → slice_get m.subscribers who ≡ at
    → subscriber_fits_at at (Begin c) ≡ true → Turn m (Subscriber who) (Begin c) place (subscriber_begins m who c at)
begins_turn m who place c None e fit = absurd (cc fit)
begins_turn m who place c (Some lane) e fit = elim (eqb_tells who place) [
  | inl same ↦ inr (inl (
    c,
    lane,
    ap (slice_get m.subscribers) (sym same.1) ∙ e,
    fit,
    ap
        (slice_get (set m.subscribers who (subscriber_begun m.moments c lane))) (sym same.1) ∙ set_same m.subscribers who
        (subscriber_begun m.moments c lane) lane e,
  ))
  | inr other ↦ inl (set_other m.subscribers who place (subscriber_begun m.moments c lane) (λ h. other.1 (sym h)), other.0)
]

goes_turn : (m : World) (who place : ℕ) (orders : List (List Placed)) (at : Option SubscriberLaneState)
    → slice_get m.subscribers who ≡ at → subscriber_fits_at at GoOn ≡ true
    → Turn m (Subscriber who) GoOn place (subscriber_goes_on (record m { orders = orders }) who at)
goes_turn m who place orders None e fit = absurd (cc fit)
goes_turn m who place orders (Some lane) e fit = elim (eqb_tells who place) [
  | inl same ↦ inr (inr (
    lane,
    ap (slice_get m.subscribers) (sym same.1) ∙ e,
    not_true (subscriber_is_idle lane.port.call) fit,
    ap (slice_get (set m.subscribers who (subscriber_after (subscriber_given m.table lane) lane))) (sym same.1) ∙ set_same m.subscribers
        who (subscriber_after (subscriber_given m.table lane) lane) lane e,
    same.0,
    ap subscriber_access e,
  ))
  | inr other ↦ inl (
    set_other m.subscribers who place (subscriber_after (subscriber_given m.table lane) lane) (λ h. other.1 (sym h)),
    other.0,
  )
]

publisher_begins_same : (m : World) (who : ℕ) (c : Call) (at : Option PublisherLaneState)
    → (publisher_begins m who c at).subscribers ≡ m.subscribers
publisher_begins_same m who c None = refl
publisher_begins_same m who c (Some lane) = refl

publisher_goes_same : (m : World) (who : ℕ) (orders : List (List Placed)) (at : Option PublisherLaneState)
    → (publisher_goes_on (record m { orders = orders }) who at).subscribers ≡ m.subscribers
publisher_goes_same m who orders None = refl
publisher_goes_same m who orders (Some lane) = refl

pub turn : (m : World) (party : Party) (step : Move) (place : ℕ) → fits m party step ≡ true → Turn m party step place (happens m party step)
turn m (Subscriber who) (Begin c) place fit = begins_turn m who place c (slice_get m.subscribers who) refl fit
turn m (Publisher who) (Begin c) place fit
    = inl (ap (λ (xs : List SubscriberLaneState). slice_get xs place) (publisher_begins_same m who c (slice_get m.publishers who)), refl)
turn m (Subscriber who) GoOn place fit = goes_turn m who place (placed m (Subscriber who)).orders (slice_get m.subscribers who) refl fit
turn m (Publisher who) GoOn place fit
    = inl (
      ap (λ (xs : List SubscriberLaneState). slice_get xs place)
          (publisher_goes_same m who (placed m (Publisher who)).orders (slice_get m.publishers who)),
      refl,
    )

-- a call that begins now began at no moment before
released_first : (moment sample : ℕ) (place : Option ℕ) (route : Option Route) (lane : SubscriberLaneState) → is_route route ≡ true
    → route ≡ route_at place lane → (release_begun moment sample place route lane).first ≡ moment
released_first moment sample None route lane there e = absurd (cc (sym there ∙ ap is_route e))
released_first moment sample (Some place) None lane there e = absurd (cc there)
released_first moment sample (Some place) (Some route) lane there e = refl

pub begun_first : (moment : ℕ) (c : Call) (lane : SubscriberLaneState) → subscriber_fits lane (Begin c) ≡ true
    → (subscriber_begun moment c lane).first ≡ moment
begun_first moment call.LoanUninit lane fit
    = absurd (cc (and_right (subscriber_is_idle lane.port.call) (subscriber_may lane call.LoanUninit) fit))
begun_first moment (call.Write loan payload user_header) lane fit
    = absurd (cc (and_right (subscriber_is_idle lane.port.call) (subscriber_may lane (call.Write loan payload user_header)) fit))
begun_first moment (call.Send loan) lane fit
    = absurd (cc (and_right (subscriber_is_idle lane.port.call) (subscriber_may lane (call.Send loan)) fit))
begun_first moment (call.DropLoan loan) lane fit
    = absurd (cc (and_right (subscriber_is_idle lane.port.call) (subscriber_may lane (call.DropLoan loan)) fit))
begun_first moment call.Receive lane fit = refl
begun_first moment (call.Read sample) lane fit = refl
begun_first moment (call.Release sample) lane fit =
    released_first moment sample (place_of sample lane) (route_at (place_of sample lane) lane) lane
    (and_right (subscriber_is_idle lane.port.call) (subscriber_may lane (call.Release sample)) fit) refl

-- what every step keeps of a call since its begin: what it did is a beginning of its course
record Coursed (place first : ℕ) (holds : ℕ → SubscriberCall → Type 0) (start : SubscriberState) (w : World) (did : List SharedAccess)
    (told : List ℕ) : Type 0 where
  past : first < w.moments
  on : (lane : SubscriberLaneState) → slice_get w.subscribers place ≡ Some lane → lane.first ≡ first
      → subscriber_is_idle lane.port.call ≡ false
      → Goes lane.port.call × holds (length told) lane.port.call
      × ((more : List ℕ) → course_of start (told ++ more) ≡ did ++ course_of lane.port more)

-- what holds of a stage and the steps made so far holds after one more
abbrev GoesOn : (ℕ → SubscriberCall → Type 0) → Type 0
GoesOn holds = (routes : List Route) (borrowed : List ℕ) (most : ℕ) (c : SubscriberCall) (given made : ℕ) → holds made c
    → holds (made + 1) (subscriber_take routes borrowed most c given)

coursed_on : (place first : ℕ) (holds : ℕ → SubscriberCall → Type 0) (start : SubscriberState) (w : World) (did : List SharedAccess)
    (told : List ℕ) (party : Party) (step : Move) → GoesOn holds → fits w party step ≡ true → w.moments < 2 ^ 63
    → Coursed place first holds start w did told
    → Coursed place first holds start (happens w party step)
    (did ++ (if is_receiver party place then access_of w party step ∷ [] else []))
    (told ++ (if is_receiver party place then shared_answer w.table (access_of w party step) ∷ [] else []))
coursed_on place first holds start w did told party step keeps fit bound p =
    let next : (happens w party step).moments ≡ w.moments + 1 = happens_moments w party step fit ∙ one_more w.moments bound in
    record {
      past = omega (arith, next, p.past);
      on = λ lane found since busy. elim (turn w party step place fit) [
        | inl same ↦
            let was = p.on lane (sym same.0 ∙ found) since busy in
            subst (λ (b : Bool). Goes lane.port.call
            × holds (length (told ++ (if b then shared_answer w.table (access_of w party step) ∷ [] else []))) lane.port.call
            × ((more : List ℕ) → course_of start
            ((told ++ (if b then shared_answer w.table (access_of w party step) ∷ [] else [])) ++ more)
            ≡ (did ++ (if b then access_of w party step ∷ [] else [])) ++ course_of lane.port more)) (sym same.1) (
              was.0,
              subst (λ (xs : List ℕ). holds (length xs) lane.port.call) (sym (append-nil told)) was.1,
              λ more.
                  ap (λ (xs : List ℕ). course_of start (xs ++ more)) (append-nil told) ∙ was.2 more ∙ ap
                  (λ (xs : List SharedAccess). xs ++ course_of lane.port more) (sym (append-nil did)),
            )
        | inr (inl began) ↦
            let is : subscriber_begun w.moments began.0 began.1 ≡ lane = some_is _ lane (sym began.4 ∙ found) in
            let now : w.moments ≡ first = sym (begun_first w.moments began.0 began.1 began.3) ∙ ap
            (λ (x : SubscriberLaneState). x.first) is ∙ since in
            absurd (omega (arith, now, p.past))
        | inr (inr went) ↦
            let is : subscriber_after (subscriber_given w.table went.0) went.0 ≡ lane = some_is _ lane (sym went.3 ∙ found) in
            let was = p.on went.0 went.1 (ap (λ (x : SubscriberLaneState). x.first) is ∙ since) went.2 in
            let given : ℕ = subscriber_given w.table went.0 in
            let stage = (changed_routes (subscriber_change went.0.port.call given)
            (staged went.0.port (subscriber_take went.0.port.routes went.0.port.borrowed went.0.port.most_borrowed went.0.port.call
            given))).1 in
            subst (λ (x : SubscriberLaneState). Goes x.port.call
            × holds (length (told ++ (if is_receiver party place then shared_answer w.table (access_of w party step) ∷ [] else [])))
            x.port.call
            × ((more : List ℕ) → course_of start
            ((told ++ (if is_receiver party place then shared_answer w.table (access_of w party step) ∷ [] else [])) ++ more)
            ≡ (did ++ (if is_receiver party place then access_of w party step ∷ [] else [])) ++ course_of x.port more)) is
            (subst (λ (b : Bool). Goes (subscriber_after given went.0).port.call
            × holds (length (told ++ (if b then shared_answer w.table (access_of w party step) ∷ [] else [])))
            (subscriber_after given went.0).port.call
            × ((more : List ℕ) → course_of start
            ((told ++ (if b then shared_answer w.table (access_of w party step) ∷ [] else [])) ++ more)
            ≡ (did ++ (if b then access_of w party step ∷ [] else [])) ++ course_of (subscriber_after given went.0).port more))
            (sym went.4)
            (subst (λ (a : SharedAccess). Goes (subscriber_after given went.0).port.call
            × holds (length (told ++ shared_answer w.table a ∷ [])) (subscriber_after given went.0).port.call
            × ((more : List ℕ) → course_of start ((told ++ shared_answer w.table a ∷ []) ++ more) ≡ (did ++ a ∷ [])
            ++ course_of (subscriber_after given went.0).port more)) (sym went.5) (
              subst Goes (sym stage) (goes_on went.0.port.routes went.0.port.borrowed went.0.port.most_borrowed went.0.port.call given
                  was.0),
              subst (λ (n : ℕ). holds n (subscriber_after given went.0).port.call) (sym (length-append told (given ∷ [])))
                  (subst (holds (length told + 1)) (sym stage)
                  (keeps went.0.port.routes went.0.port.borrowed went.0.port.most_borrowed went.0.port.call given (length told) was.1)),
              λ more.
                  ap (course_of start) (append_assoc told (given ∷ []) more) ∙ was.2 (given ∷ more) ∙ ap
                  (λ (rest : List SharedAccess). did ++ rest) (after_course went.0.port given more)
                  ∙ sym (append_assoc did (subscriber_next went.0.port.call ∷ []) (course_of (subscriber_after given went.0).port more)),
            )))
      ];
    }

-- so it is after an entry, and after all of them
entry_coursed : (place first : ℕ) (holds : ℕ → SubscriberCall → Type 0) (start : SubscriberState) (w : World) (did : List SharedAccess)
    (told : List ℕ) (entry : Entry) (end : ℕ) → GoesOn holds → end ≤ 2 ^ 63
    → (b : Bool) → fits w entry.party entry.step ≡ b → (after_entry b w entry).moments ≤ end → Coursed place first holds start w did told
    → Coursed place first holds start (after_entry b w entry)
    (did ++ (if b && is_receiver entry.party place then access_of w entry.party entry.step ∷ [] else []))
    (told ++ (if b && is_receiver entry.party place then shared_answer w.table (access_of w entry.party entry.step) ∷ [] else []))
entry_coursed place first holds start w did told entry end keeps few true e h p =
    coursed_on place first holds start w did told entry.party entry.step keeps e
    (omega (arith, happens_moments w entry.party entry.step e, h, few)) p
entry_coursed place first holds start w did told entry end keeps few false e h p =
    subst (λ (xs : List SharedAccess). Coursed place first holds start w xs (told ++ [])) (sym (append-nil did))
    (subst (Coursed place first holds start w did) (sym (append-nil told)) p)

all_coursed : (place first : ℕ) (holds : ℕ → SubscriberCall → Type 0) (start : SubscriberState) (w : World) (did : List SharedAccess)
    (told : List ℕ) (entries : List Entry) → GoesOn holds → (led w entries).moments ≤ 2 ^ 63
    → Coursed place first holds start w did told
    → Coursed place first holds start (led w entries) (did ++ own_accesses (λ party. is_receiver party place) w entries)
    (told ++ own_answers (λ party. is_receiver party place) w entries)
all_coursed place first holds start w did told [] keeps few p =
    subst (λ (xs : List SharedAccess). Coursed place first holds start w xs (told ++ [])) (sym (append-nil did))
    (subst (Coursed place first holds start w did) (sym (append-nil told)) p)
all_coursed place first holds start w did told (entry ∷ entries) keeps few p =
    let b : Bool = fits w entry.party entry.step in
    let a : List SharedAccess = if b && is_receiver entry.party place then access_of w entry.party entry.step ∷ [] else [] in
    let t : List ℕ = if b && is_receiver entry.party place then shared_answer w.table (access_of w entry.party entry.step) ∷ [] else [] in
    let rest = all_coursed place first holds start (after_entry b w entry) (did ++ a) (told ++ t) entries keeps few
    (entry_coursed place first holds start w did told entry (led w (entry ∷ entries)).moments keeps few b refl
    (later (after_entry b w entry) entries few) p) in
    subst (λ (xs : List SharedAccess). Coursed place first holds start (led w (entry ∷ entries)) xs
    (told ++ own_answers (λ party. is_receiver party place) w (entry ∷ entries)))
    (append_assoc did a (own_accesses (λ party. is_receiver party place) (after_entry b w entry) entries))
    (subst (Coursed place first holds start (led w (entry ∷ entries))
    ((did ++ a) ++ own_accesses (λ party. is_receiver party place) (after_entry b w entry) entries))
    (append_assoc told t (own_answers (λ party. is_receiver party place) (after_entry b w entry) entries)) rest)

-- a begun call goes
begun_read_goes : (slot : ℕ) (extent : SlotExtent) → Goes (read_at slot extent 0)
begun_read_goes slot extent = read_goes slot 0 extent (nat_lt 0 (3 + extent.user_header_words + extent.payload_words))

release_goes : (moment sample : ℕ) (place : Option ℕ) (route : Option Route) (lane : SubscriberLaneState) → is_route route ≡ true
    → route ≡ route_at place lane → Goes (release_begun moment sample place route lane).port.call
release_goes moment sample None route lane there e = absurd (cc (sym there ∙ ap is_route e))
release_goes moment sample (Some place) None lane there e = absurd (cc there)
release_goes moment sample (Some place) (Some route) lane there e = λ quiet. absurd (cc quiet)

pub begun_goes : (moment : ℕ) (c : Call) (lane : SubscriberLaneState) → subscriber_fits lane (Begin c) ≡ true
    → Goes (subscriber_begun moment c lane).port.call
begun_goes moment call.LoanUninit lane fit
    = absurd (cc (and_right (subscriber_is_idle lane.port.call) (subscriber_may lane call.LoanUninit) fit))
begun_goes moment (call.Write loan payload user_header) lane fit
    = absurd (cc (and_right (subscriber_is_idle lane.port.call) (subscriber_may lane (call.Write loan payload user_header)) fit))
begun_goes moment (call.Send loan) lane fit
    = absurd (cc (and_right (subscriber_is_idle lane.port.call) (subscriber_may lane (call.Send loan)) fit))
begun_goes moment (call.DropLoan loan) lane fit
    = absurd (cc (and_right (subscriber_is_idle lane.port.call) (subscriber_may lane (call.DropLoan loan)) fit))
begun_goes moment call.Receive lane fit
    = visit_goes 0 (is_full_at lane.port.borrowed lane.port.most_borrowed 0) false (slice_get lane.port.routes 0)
begun_goes moment (call.Read sample) lane fit = begun_read_goes sample lane.port.extent
begun_goes moment (call.Release sample) lane fit =
    release_goes moment sample (place_of sample lane) (route_at (place_of sample lane) lane) lane
    (and_right (subscriber_is_idle lane.port.call) (subscriber_may lane (call.Release sample)) fit) refl

-- a call from its begin on
since_begin : (holds : ℕ → SubscriberCall → Type 0) (m : World) (place : ℕ) (lane : SubscriberLaneState) (c : Call)
    (entries : List Entry) → GoesOn holds → holds 0 (subscriber_begun m.moments c lane).port.call → IsSubscriberCall m place lane c entries
    → Coursed place m.moments holds (subscriber_begun m.moments c lane).port (led (happens m (Subscriber place) (Begin c)) entries)
    ([] ++ own_accesses (λ party. is_receiver party place) (happens m (Subscriber place) (Begin c)) entries)
    ([] ++ own_answers (λ party. is_receiver party place) (happens m (Subscriber place) (Begin c)) entries)
since_begin holds m place lane c entries keeps first is =
    let fit : fits m (Subscriber place) (Begin c) ≡ true
    = ap (λ (at : Option SubscriberLaneState). subscriber_fits_at at (Begin c)) is.found ∙ is.may in
    let next = happens_moments m (Subscriber place) (Begin c) fit in
    let after = later (happens m (Subscriber place) (Begin c)) entries is.few in
    let bound : m.moments < 2 ^ 63 = omega (arith, next, after, is.few) in
    let there : slice_get (happens m (Subscriber place) (Begin c)).subscribers place ≡ Some (subscriber_begun m.moments c lane) =
    ap (λ (at : Option SubscriberLaneState). slice_get (subscriber_begins m place c at).subscribers place) is.found ∙ set_same
    m.subscribers place (subscriber_begun m.moments c lane) lane is.found in
    all_coursed place m.moments holds (subscriber_begun m.moments c lane).port (happens m (Subscriber place) (Begin c)) [] [] entries
    keeps is.few
    (record {
      past = omega (arith, next, one_more m.moments bound);
      on = λ other found since busy.
          subst (λ (x : SubscriberLaneState). Goes x.port.call × holds 0 x.port.call
          × ((more : List ℕ) → course_of (subscriber_begun m.moments c lane).port ([] ++ more) ≡ [] ++ course_of x.port more))
          (some_is _ other (sym there ∙ found)) (begun_goes m.moments c lane is.may, first, λ more. refl);
    })

-- nothing more is asked of a call
abbrev Any : ℕ → SubscriberCall → Type 0
Any made c = Unit {0}

any_on : GoesOn Any
any_on routes borrowed most c given made h = tt

-- the course of each call from its begin on
release_is : (moment sample : ℕ) (place : Option ℕ) (route : Option Route) (lane : SubscriberLaneState) (answers : List ℕ)
    → is_route route ≡ true → route ≡ route_at place lane
    → course_of (release_begun moment sample place route lane).port answers ≡ release_course sample route answers
release_is moment sample None route lane answers there e = absurd (cc (sym there ∙ ap is_route e))
release_is moment sample (Some place) None lane answers there e = absurd (cc there)
release_is moment sample (Some place) (Some route) lane answers there e
    = releases_push lane.port.routes lane.port.borrowed answers lane.port.most_borrowed place sample route

call_course : (moment : ℕ) (lane : SubscriberLaneState) (c : Call) (answers : List ℕ) → subscriber_fits lane (Begin c) ≡ true
    → length lane.port.routes < 2 ^ 64 - 1 → words_in lane.port.extent < 2 ^ 64 - 1
    → course_of (subscriber_begun moment c lane).port answers ≡ subscriber_call_course lane c answers
call_course moment lane call.LoanUninit answers fit small few
    = absurd (cc (and_right (subscriber_is_idle lane.port.call) (subscriber_may lane call.LoanUninit) fit))
call_course moment lane (call.Write loan payload user_header) answers fit small few
    = absurd (cc (and_right (subscriber_is_idle lane.port.call) (subscriber_may lane (call.Write loan payload user_header)) fit))
call_course moment lane (call.Send loan) answers fit small few
    = absurd (cc (and_right (subscriber_is_idle lane.port.call) (subscriber_may lane (call.Send loan)) fit))
call_course moment lane (call.DropLoan loan) answers fit small few
    = absurd (cc (and_right (subscriber_is_idle lane.port.call) (subscriber_may lane (call.DropLoan loan)) fit))
call_course moment lane call.Receive answers fit small few
    = receives_visit lane.port.routes lane.port.borrowed answers lane.port.most_borrowed false small
call_course moment lane (call.Read sample) answers fit small few
    = reads_load lane.port.routes lane.port.borrowed answers lane.port.most_borrowed sample lane.port.extent few
call_course moment lane (call.Release sample) answers fit small few =
    release_is moment sample (place_of sample lane) (route_at (place_of sample lane) lane) lane answers
    (and_right (subscriber_is_idle lane.port.call) (subscriber_may lane (call.Release sample)) fit) refl

pub subscribers_keep_course : SubscribersKeepCourse
subscribers_keep_course m place lane c entries is =
    let told : List ℕ = own_answers (λ party. is_receiver party place) (happens m (Subscriber place) (Begin c)) entries in
    let did : List SharedAccess = own_accesses (λ party. is_receiver party place) (happens m (Subscriber place) (Begin c)) entries in
    let at = (since_begin Any m place lane c entries any_on tt is).on is.inside.lane is.inside.found is.inside.since is.inside.busy in
    sym (append-nil did) ∙ sym (at.2 []) ∙ ap (course_of (subscriber_begun m.moments c lane).port) (append-nil told)
    ∙ call_course m.moments lane c told is.may is.connections is.words

pub subscribers_end_at_once : SubscribersEndAtOnce
subscribers_end_at_once m place lane c entries is quiet =
    let at = (since_begin Any m place lane c entries any_on tt is).on is.inside.lane is.inside.found is.inside.since is.inside.busy in
    ap subscriber_ends_at is.inside.found ∙ quiet_ends is.inside.lane.port.call at.0 is.inside.busy
    (sym (ap subscriber_access is.inside.found) ∙ quiet)

-- a release begins with five steps left
release_left : (moment sample : ℕ) (place : Option ℕ) (route : Option Route) (lane : SubscriberLaneState) → is_route route ≡ true
    → route ≡ route_at place lane → HasLeft 0 (release_begun moment sample place route lane).port.call
release_left moment sample None route lane there e = absurd (cc (sym there ∙ ap is_route e))
release_left moment sample (Some place) None lane there e = absurd (cc there)
release_left moment sample (Some place) (Some route) lane there e = (omega arith, omega arith)

pub releases_end_soon : ReleasesEndSoon
releases_end_soon m place sample lane entries is =
    let first = release_left m.moments sample (place_of sample lane) (route_at (place_of sample lane) lane) lane
    (and_right (subscriber_is_idle lane.port.call) (subscriber_may lane (call.Release sample)) is.may) refl in
    let at = (since_begin HasLeft m place lane (call.Release sample) entries left_on first is).on is.inside.lane is.inside.found
    is.inside.since is.inside.busy in
    left_few is.inside.lane.port.call (length
    (own_answers (λ party. is_receiver party place) (happens m (Subscriber place) (Begin (call.Release sample))) entries)) at.1
    is.inside.busy
