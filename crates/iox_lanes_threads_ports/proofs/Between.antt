-- A subscriber between calls, and its calls that end after a number of steps that is known.
use Rattle.std.proofs.Common.{ℕ, ◌≡◌, ◌+◌, ◌-◌, ◌<◌, ◌||◌, ◌&&◌, Bool, true, false, if◌then◌else◌, nat_lt, List, slice_get, Option, Some}
use Rattle.std.proofs.Common.{None, refl, sym, ◌∙◌, ap, subst, arith}
use Rattle.std.proofs.lemmas.Bool.{ltb-true}
use Rattle.iox_lanes_machine.specs.QueuesSteps.Access.{successor}
use Rattle.iox_lanes_machine.specs.QueuesSteps.declared.order.PopAnswer.{PopAnswer}
use Rattle.iox_lanes_machine.specs.QueuesSteps.declared.order.PopAnswer.TheVariants.{Got, Saw}
use Rattle.iox_lanes_machine.specs.QueuesSteps.declared.order.PushAnswer.{PushAnswer}
use Rattle.iox_lanes_machine.specs.QueuesSteps.declared.order.PushAnswer.TheVariants.{Kept, LeftOut, Refused}
use Rattle.iox_lanes_machine.specs.QueuesSteps.Refusing as refusing
use Rattle.iox_lanes_machine.specs.QueuesSteps.declared.rings.refusing.push.Push as push_type
use Rattle.iox_lanes_machine.specs.QueuesSteps.declared.rings.refusing.push.Push.TheVariants as push
use Rattle.iox_lanes_machine.specs.QueuesSteps.Ends.{pop_take}
use Rattle.iox_lanes_machine.specs.QueuesSteps.declared.rings.ends.Pop.{Pop}
use Rattle.iox_lanes_machine.specs.LanesBase.Numbers.{IsSmall}
use Rattle.iox_lanes_machine.specs.LanesBase.declared.words.sizes.TableSizes.{TableSizes}
use Rattle.iox_lanes_machine.specs.LanesBase.Answers.{pop_answer, refusing_push_answer}
use Rattle.iox_lanes_machine.specs.LanesBase.Subscribing.{subscriber_is_idle, subscriber_is_over, subscriber_take, subscriber_change}
use Rattle.iox_lanes_machine.specs.LanesBase.Subscribing.{is_full_at, receive_from, received, released}
use Rattle.iox_lanes_machine.specs.LanesBase.declared.calls.route.Route.{Route}
use Rattle.iox_lanes_machine.specs.LanesBase.declared.calls.subscriber.Receipt.{Receipt}
use Rattle.iox_lanes_machine.specs.LanesBase.declared.calls.subscriber.SlotExtent.{SlotExtent}
use Rattle.iox_lanes_machine.specs.LanesBase.declared.calls.subscriber.SubscriberCall.{SubscriberCall}
use Rattle.iox_lanes_machine.specs.LanesBase.declared.calls.subscriber.SubscriberCall.TheVariants as subscribing
use Rattle.iox_lanes_machine.specs.LanesParties.Parties.{SubscriberLaneState, subscriber_may, subscriber_fits, subscriber_begun}
use Rattle.iox_lanes_machine.specs.LanesParties.Parties.{subscriber_after, subscriber_answer, words_read, release_begun, place_of}
use Rattle.iox_lanes_machine.specs.LanesParties.Parties.{route_at, is_route}
use Rattle.iox_lanes_machine.specs.LanesParties.Within.{IsSubscribing, IsSubscriber}
use Rattle.iox_lanes_machine.specs.LanesParties.declared.call.Answer.{Answer}
use Rattle.iox_lanes_machine.specs.LanesParties.declared.call.Answer.TheVariants as answer
use Rattle.iox_lanes_machine.specs.LanesParties.declared.call.Call.{Call}
use Rattle.iox_lanes_machine.specs.LanesParties.declared.call.Call.TheVariants as call
use Rattle.iox_lanes_machine.specs.LanesParties.declared.call.Move.TheVariants.{Begin}
use Rattle.iox_lanes_machine.proofs.LanesParties.Rings.{and_right}
use Rattle.atomic_table.specs.Seated.{TableId}
use Rattle.atomic_table.specs.Table.{Me}
use Rattle.iox_lanes_threads_rule.specs.Acts.{single, port_of}
use Rattle.iox_lanes_threads_rule.specs.declared.service.Service.{Service}
use Rattle.iox_lanes_threads_rule.specs.declared.view.Port.{Port}
use Rattle.iox_lanes_threads_rule.specs.declared.view.View.{View}
use Rattle.iox_lanes_threads_ports.specs.Courses.{SubscriberGoes, SubscriberEnds}
use Rattle.iox_lanes_threads_ports.specs.Courses.SubscriberGoes.{stays, goes}
use Rattle.iox_lanes_threads_ports.specs.Holding.{StandsBetween}
use Rattle.iox_lanes_threads_ports.specs.Ports.{SubscriberStands}
use Rattle.iox_lanes_threads_ports.specs.Strides.{AsksWord, subscriber_called}
use Rattle.iox_lanes_threads_ports.specs.Values.{SubscriberPort, IsSeated, settled, IsBetween, IsShort, steps_left, Unmoved, received_of}
use Rattle.iox_lanes_threads_ports.specs.Values.{Reads}
use Rattle.iox_lanes_threads_ports.proofs.SubscriberSteps.{changed_stays, begins}
use Rattle.iox_lanes_threads_ports.proofs.Running.{subscriber_last}

-- after the last step no call is in progress
over_idle : (routes : List Route) (borrowed : List ℕ) (most : ℕ) (c : SubscriberCall) → subscriber_is_over c ≡ true
    → subscriber_is_idle (subscriber_take routes borrowed most c 0) ≡ true
over_idle routes borrowed most subscribing.Idle h = absurd (cc h)
over_idle routes borrowed most (subscribing.Receiving place route pop waits) h = absurd (cc h)
over_idle routes borrowed most (subscribing.Received receipt) h = refl
over_idle routes borrowed most (subscribing.Reading slot word extent) h = absurd (cc h)
over_idle routes borrowed most (subscribing.WasRead slot) h = refl
over_idle routes borrowed most (subscribing.Releasing place route push) h = absurd (cc h)
over_idle routes borrowed most (subscribing.Released done) h = refl

-- where a step leads
pub call_after : (lane : SubscriberLaneState) (n : ℕ)
    → (subscriber_after n lane).port.call ≡ subscriber_take lane.port.routes lane.port.borrowed lane.port.most_borrowed lane.port.call n
call_after lane n = (changed_stays (subscriber_change lane.port.call n)
    (record lane.port { call = subscriber_take lane.port.routes lane.port.borrowed lane.port.most_borrowed lane.port.call n })).1

pub after_idle : (lane : SubscriberLaneState) → subscriber_is_over lane.port.call ≡ true
    → subscriber_is_idle (subscriber_after 0 lane).port.call ≡ true
after_idle lane over = ap subscriber_is_idle (call_after lane 0) ∙ over_idle lane.port.routes lane.port.borrowed lane.port.most_borrowed
    lane.port.call over

pub settled_idle : (lane : SubscriberLaneState) → IsBetween lane.port.call → subscriber_is_idle (settled lane).port.call ≡ true
settled_idle lane between = by_test (subscriber_is_over lane.port.call) refl
  where
    only_idle : (a b : Bool) → b ≡ false → (a || b) ≡ true → a ≡ true
    only_idle true b e h = refl
    only_idle false b e h = absurd (cc (e, h))

    by_test : (b : Bool) → subscriber_is_over lane.port.call ≡ b
        → subscriber_is_idle (if b then subscriber_after 0 lane else lane).port.call ≡ true
    by_test true over = after_idle lane over
    by_test false over = only_idle (subscriber_is_idle lane.port.call) (subscriber_is_over lane.port.call) over between

pub settled_stands : (p : Port) (lane : SubscriberLaneState) → SubscriberStands p lane → SubscriberStands p (settled lane)
settled_stands p lane stands = by_test (subscriber_is_over lane.port.call) refl
  where
    by_test : (b : Bool) → subscriber_is_over lane.port.call ≡ b → SubscriberStands p (if b then subscriber_after 0 lane else lane)
    by_test true over = subscriber_last p lane stands over
    by_test false over = stands

-- so a subscriber stands before each call
pub stood : (old : SubscriberPort) (p : Port) (lane : SubscriberLaneState) → old.port ≡ p → old.lane ≡ settled lane
    → SubscriberStands p lane → IsBetween lane.port.call → StandsBetween old
stood old p lane same settles stands between = record {
  stands = subst (λ (z : Port). SubscriberStands z old.lane) (sym same)
      (subst (SubscriberStands p) (sym settles) (settled_stands p lane stands));
  idle = ap (λ (l : SubscriberLaneState). subscriber_is_idle l.port.call) settles ∙ settled_idle lane between;
}

-- a subscriber between calls is as if settled
pub settled_is : (lane : SubscriberLaneState) → subscriber_is_idle lane.port.call ≡ true → settled lane ≡ lane
settled_is lane idle = by_test (subscriber_is_over lane.port.call) refl
  where
    not_both : (c : SubscriberCall) → subscriber_is_idle c ≡ true → subscriber_is_over c ≡ true → ⊥
    not_both subscribing.Idle h k = cc k
    not_both (subscribing.Receiving place route pop waits) h k = cc h
    not_both (subscribing.Received receipt) h k = cc h
    not_both (subscribing.Reading slot word extent) h k = cc h
    not_both (subscribing.WasRead slot) h k = cc h
    not_both (subscribing.Releasing place route push) h k = cc h
    not_both (subscribing.Released done) h k = cc h

    by_test : (b : Bool) → subscriber_is_over lane.port.call ≡ b → (if b then subscriber_after 0 lane else lane) ≡ lane
    by_test true over = absurd (not_both lane.port.call idle over)
    by_test false over = refl

pub settled_over : (lane : SubscriberLaneState) → subscriber_is_over lane.port.call ≡ true → settled lane ≡ subscriber_after 0 lane
settled_over lane over = ap (λ (b : Bool). if b then subscriber_after 0 lane else lane) over

pub between_idle : (c : SubscriberCall) → subscriber_is_idle c ≡ true → IsBetween c
between_idle c idle = ap (λ (b : Bool). b || subscriber_is_over c) idle

pub between_over : (c : SubscriberCall) → subscriber_is_over c ≡ true → IsBetween c
between_over c over = either (subscriber_is_idle c) (subscriber_is_over c) over
  where
    either : (a b : Bool) → b ≡ true → (a || b) ≡ true
    either true b e = refl
    either false b e = e

-- a read and a release come nearer to their end with each step
record Nearer (c next : SubscriberCall) : Type 0 where
  short : IsShort next
  fewer : steps_left next < steps_left c

read_nearer : (slot word : ℕ) (extent : SlotExtent) (b : Bool) → word < 3 + extent.user_header_words + extent.payload_words
    → successor word ≡ word + 1 → nat_lt (successor word) (3 + extent.user_header_words + extent.payload_words) ≡ b
    → Nearer (subscribing.Reading slot word extent)
    (if b then subscribing.Reading slot (successor word) extent else subscribing.WasRead slot)
read_nearer slot word extent true less next e =
    let more : successor word < 3 + extent.user_header_words + extent.payload_words
    = ltb-true (successor word) (3 + extent.user_header_words + extent.payload_words) e in
    record { short = more; fewer = omega (arith, more, next, less) }
read_nearer slot word extent false less next e = record { short = tt; fewer = omega (arith, less) }

measured_nearer : (place : ℕ) (route : Route) (limit value write next read : ℕ) (b : Bool)
    → Nearer (subscribing.Releasing place route (push.SawWrite limit value write next))
    (released place route (if b then push.SawRoom value write next else push.Pushed value Refused)
    (refusing_push_answer (if b then push.SawRoom value write next else push.Pushed value Refused)))
measured_nearer place route limit value write next read true = record { short = tt; fewer = omega arith }
measured_nearer place route limit value write next read false = record { short = tt; fewer = omega arith }

take_nearer : (sizes : TableSizes) (routes : List Route) (borrowed : List ℕ) (most : ℕ) (c : SubscriberCall) (n : ℕ) → IsSmall sizes
    → IsSubscribing sizes routes c → IsShort c → subscriber_is_over c ≡ false
    → Nearer c (subscriber_take routes borrowed most c n)
take_nearer sizes routes borrowed most subscribing.Idle n small within short over = absurd short
take_nearer sizes routes borrowed most (subscribing.Receiving place route pop waits) n small within short over = absurd short
take_nearer sizes routes borrowed most (subscribing.Received receipt) n small within short over = absurd short
take_nearer sizes routes borrowed most (subscribing.Reading slot word extent) n small within short over =
    let u : extent.user_header_words ≡ sizes.user_header_words = within.2.user_header in
    let v : extent.payload_words ≡ sizes.payload_words = within.2.payload in
    read_nearer slot word extent (nat_lt (successor word) (3 + extent.user_header_words + extent.payload_words)) short
    (omega (arith, short, u, v, small.slot)) refl
take_nearer sizes routes borrowed most (subscribing.WasRead slot) n small within short over = absurd (cc over)
take_nearer sizes routes borrowed most (subscribing.Releasing place route push.Idle) n small within short over = absurd short
take_nearer sizes routes borrowed most (subscribing.Releasing place route (push.Begun limit value)) n small within short over
    = record { short = tt; fewer = omega arith }
take_nearer sizes routes borrowed most (subscribing.Releasing place route (push.SawWrite limit value write next)) n small within short
    over =
    measured_nearer place route limit value write next n (nat_lt (write - n) limit)
take_nearer sizes routes borrowed most (subscribing.Releasing place route (push.SawRoom value write next)) n small within short over
    = record { short = tt; fewer = omega arith }
take_nearer sizes routes borrowed most (subscribing.Releasing place route (push.Filled value next)) n small within short over
    = record { short = tt; fewer = omega arith }
take_nearer sizes routes borrowed most (subscribing.Releasing place route (push.Pushed value given)) n small within short over
    = absurd short
take_nearer sizes routes borrowed most (subscribing.Released done) n small within short over = absurd (cc over)

pub nearer : (sizes : TableSizes) (lane : SubscriberLaneState) (n : ℕ) → IsSmall sizes → IsSubscriber sizes lane
    → IsShort lane.port.call → subscriber_is_over lane.port.call ≡ false
    → IsShort (subscriber_after n lane).port.call × (steps_left (subscriber_after n lane).port.call < steps_left lane.port.call)
nearer sizes lane n small within short over =
    let next = take_nearer sizes lane.port.routes lane.port.borrowed lane.port.most_borrowed lane.port.call n small within.call short
    over in
    subst (λ (c : SubscriberCall). IsShort c × (steps_left c < steps_left lane.port.call)) (sym (call_after lane n))
    (next.short, next.fewer)

-- a release that asked for a word comes to a stage that ends, too
pub release_short : (lane now : SubscriberLaneState) (place : ℕ) (route : Route) (last : push_type.Push) (n : ℕ)
    → AsksWord (refusing.push_next last) → now ≡ subscriber_after n (subscriber_called (subscribing.Releasing place route last) lane)
    → IsShort now.port.call
release_short lane now place route last n asks is =
    subst (λ (c : SubscriberCall). IsShort c)
    (sym (ap (λ (l : SubscriberLaneState). l.port.call) is
    ∙ call_after (subscriber_called (subscribing.Releasing place route last) lane) n)) (on last asks)
  where
    on : (s : push_type.Push) → AsksWord (refusing.push_next s)
        → IsShort (released place route (refusing.push_take s n) (refusing_push_answer (refusing.push_take s n)))
    on push.Idle a = absurd a
    on (push.Begun limit value) a = tt
    on (push.SawWrite limit value write next) a = (measured_nearer place route limit value write next n (nat_lt (write - n) limit)).short
    on (push.SawRoom value write next) a = tt
    on (push.Filled value next) a = tt
    on (push.Pushed value given) a = absurd a

-- the stages that a receive goes through, and where it leads to
abbrev pub InReceive : SubscriberCall → Type 0
InReceive subscribing.Idle = Unit {0}
InReceive (subscribing.Receiving place route pop waits) = Unit {0}
InReceive (subscribing.Received receipt) = Unit {0}
InReceive (subscribing.Reading slot word extent) = ⊥
InReceive (subscribing.WasRead slot) = ⊥
InReceive (subscribing.Releasing place route push) = ⊥
InReceive (subscribing.Released done) = ⊥

-- likewise a read
abbrev pub InRead : ℕ → SubscriberCall → Type 0
InRead sample subscribing.Idle = Unit {0}
InRead sample (subscribing.Receiving place route pop waits) = ⊥
InRead sample (subscribing.Received receipt) = ⊥
InRead sample (subscribing.Reading slot word extent) = slot ≡ sample
InRead sample (subscribing.WasRead slot) = slot ≡ sample
InRead sample (subscribing.Releasing place route push) = ⊥
InRead sample (subscribing.Released done) = ⊥

-- and a release
abbrev pub InRelease : SubscriberCall → Type 0
InRelease subscribing.Idle = Unit {0}
InRelease (subscribing.Receiving place route pop waits) = ⊥
InRelease (subscribing.Received receipt) = ⊥
InRelease (subscribing.Reading slot word extent) = ⊥
InRelease (subscribing.WasRead slot) = ⊥
InRelease (subscribing.Releasing place route push) = Unit {0}
InRelease (subscribing.Released done) = Unit {0}

receive_in : (place : ℕ) (full waits : Bool) (at : Option Route) → InReceive (receive_from place full waits at)
receive_in place full waits None = tt
receive_in place full waits (Some route) = tt

received_in : (routes : List Route) (borrowed : List ℕ) (most place : ℕ) (route : Route) (pop : Pop) (waits : Bool)
    (a : Option PopAnswer) → InReceive (received routes borrowed most place route pop waits a)
received_in routes borrowed most place route pop waits None = tt
received_in routes borrowed most place route pop waits (Some (Got (Some slot))) = tt
received_in routes borrowed most place route pop waits (Some (Got None))
    = receive_in (successor place) (is_full_at borrowed most (successor place)) waits (slice_get routes (successor place))
received_in routes borrowed most place route pop waits (Some (Saw some))
    = receive_in (successor place) (is_full_at borrowed most (successor place)) (waits || some) (slice_get routes (successor place))

receive_takes : (routes : List Route) (borrowed : List ℕ) (most n : ℕ) (c : SubscriberCall) → InReceive c
    → InReceive (subscriber_take routes borrowed most c n)
receive_takes routes borrowed most n subscribing.Idle h = tt
receive_takes routes borrowed most n (subscribing.Receiving place route pop waits) h
    = received_in routes borrowed most place route (pop_take pop n) waits (pop_answer (pop_take pop n))
receive_takes routes borrowed most n (subscribing.Received receipt) h = tt
receive_takes routes borrowed most n (subscribing.Reading slot word extent) h = absurd h
receive_takes routes borrowed most n (subscribing.WasRead slot) h = absurd h
receive_takes routes borrowed most n (subscribing.Releasing place route push) h = absurd h
receive_takes routes borrowed most n (subscribing.Released done) h = absurd h

read_in : (sample slot word : ℕ) (extent : SlotExtent) (b : Bool) → slot ≡ sample
    → InRead sample (if b then subscribing.Reading slot word extent else subscribing.WasRead slot)
read_in sample slot word extent true e = e
read_in sample slot word extent false e = e

read_takes : (sample : ℕ) (routes : List Route) (borrowed : List ℕ) (most n : ℕ) (c : SubscriberCall) → InRead sample c
    → InRead sample (subscriber_take routes borrowed most c n)
read_takes sample routes borrowed most n subscribing.Idle h = tt
read_takes sample routes borrowed most n (subscribing.Receiving place route pop waits) h = absurd h
read_takes sample routes borrowed most n (subscribing.Received receipt) h = absurd h
read_takes sample routes borrowed most n (subscribing.Reading slot word extent) h
    = read_in sample slot (successor word) extent (nat_lt (successor word) (3 + extent.user_header_words + extent.payload_words)) h
read_takes sample routes borrowed most n (subscribing.WasRead slot) h = tt
read_takes sample routes borrowed most n (subscribing.Releasing place route push) h = absurd h
read_takes sample routes borrowed most n (subscribing.Released done) h = absurd h

released_in : (place : ℕ) (route : Route) (push : push_type.Push) (a : Option PushAnswer) → InRelease (released place route push a)
released_in place route push None = tt
released_in place route push (Some Kept) = tt
released_in place route push (Some (LeftOut oldest)) = tt
released_in place route push (Some Refused) = tt

release_takes : (routes : List Route) (borrowed : List ℕ) (most n : ℕ) (c : SubscriberCall) → InRelease c
    → InRelease (subscriber_take routes borrowed most c n)
release_takes routes borrowed most n subscribing.Idle h = tt
release_takes routes borrowed most n (subscribing.Receiving place route pop waits) h = absurd h
release_takes routes borrowed most n (subscribing.Received receipt) h = absurd h
release_takes routes borrowed most n (subscribing.Reading slot word extent) h = absurd h
release_takes routes borrowed most n (subscribing.WasRead slot) h = absurd h
release_takes routes borrowed most n (subscribing.Releasing place route push) h
    = released_in place route (refusing.push_take push n) (refusing_push_answer (refusing.push_take push n))
release_takes routes borrowed most n (subscribing.Released done) h = tt

-- what each step keeps of the stage, a run keeps
pub along : (P : SubscriberCall → Type 0)
    → ((routes : List Route) (borrowed : List ℕ) (most n : ℕ) (c : SubscriberCall) → P c → P (subscriber_take routes borrowed most c n))
    → (p : Port) (lane : SubscriberLaneState) (q : Port) (now : SubscriberLaneState) → SubscriberGoes p lane q now → P lane.port.call
    → P now.port.call
along P takes p lane _ _ stays h = h
along P takes p lane _ _ (goes q now n run told) h =
    subst P (sym (call_after now n)) (takes now.port.routes now.port.borrowed now.port.most_borrowed n now.port.call
    (along P takes p lane q now run h))

-- a receive that only lacks its last step has its receipt
receive_over : (c : SubscriberCall) → InReceive c → subscriber_is_over c ≡ true → (receipt : Receipt) × (c ≡ subscribing.Received receipt)
receive_over subscribing.Idle h over = absurd (cc over)
receive_over (subscribing.Receiving place route pop waits) h over = absurd (cc over)
receive_over (subscribing.Received receipt) h over = (receipt, refl)
receive_over (subscribing.Reading slot word extent) h over = absurd h
receive_over (subscribing.WasRead slot) h over = absurd h
receive_over (subscribing.Releasing place route push) h over = absurd h
receive_over (subscribing.Released done) h over = absurd h

pub received_at : (p : Port) (lane : SubscriberLaneState) (q : Port) (now : SubscriberLaneState)
    → SubscriberGoes p (subscriber_begun 0 call.Receive lane) q now → subscriber_is_over now.port.call ≡ true
    → (receipt : Receipt) × (now.port.call ≡ subscribing.Received receipt)
received_at p lane q now run over =
    receive_over now.port.call (along InReceive receive_takes p (subscriber_begun 0 call.Receive lane) q now run
    (receive_in 0 (is_full_at lane.port.borrowed lane.port.most_borrowed 0) false (slice_get lane.port.routes 0))) over

read_over : (sample : ℕ) (c : SubscriberCall) → InRead sample c → subscriber_is_over c ≡ true → c ≡ subscribing.WasRead sample
read_over sample subscribing.Idle h over = absurd (cc over)
read_over sample (subscribing.Receiving place route pop waits) h over = absurd h
read_over sample (subscribing.Received receipt) h over = absurd h
read_over sample (subscribing.Reading slot word extent) h over = absurd (cc over)
read_over sample (subscribing.WasRead slot) h over = ap (λ (s : ℕ). subscribing.WasRead s) h
read_over sample (subscribing.Releasing place route push) h over = absurd h
read_over sample (subscribing.Released done) h over = absurd h

pub read_at_end : (p : Port) (lane : SubscriberLaneState) (sample : ℕ) (q : Port) (now : SubscriberLaneState)
    → SubscriberGoes p (subscriber_begun 0 (call.Read sample) lane) q now → subscriber_is_over now.port.call ≡ true
    → now.port.call ≡ subscribing.WasRead sample
read_at_end p lane sample q now run over =
    read_over sample now.port.call (along (InRead sample) (read_takes sample) p (subscriber_begun 0 (call.Read sample) lane) q now run
    (read_in sample sample 0 lane.port.extent (nat_lt 0 (3 + lane.port.extent.user_header_words + lane.port.extent.payload_words))
    refl)) over

release_over : (c : SubscriberCall) → InRelease c → subscriber_is_over c ≡ true → (done : Bool) × (c ≡ subscribing.Released done)
release_over subscribing.Idle h over = absurd (cc over)
release_over (subscribing.Receiving place route pop waits) h over = absurd h
release_over (subscribing.Received receipt) h over = absurd h
release_over (subscribing.Reading slot word extent) h over = absurd h
release_over (subscribing.WasRead slot) h over = absurd h
release_over (subscribing.Releasing place route push) h over = absurd (cc over)
release_over (subscribing.Released done) h over = (done, refl)

idle_in : (c : SubscriberCall) → subscriber_is_idle c ≡ true → InRelease c
idle_in subscribing.Idle h = tt
idle_in (subscribing.Receiving place route pop waits) h = absurd (cc h)
idle_in (subscribing.Received receipt) h = absurd (cc h)
idle_in (subscribing.Reading slot word extent) h = absurd (cc h)
idle_in (subscribing.WasRead slot) h = absurd (cc h)
idle_in (subscribing.Releasing place route push) h = tt
idle_in (subscribing.Released done) h = tt

release_begins : (lane : SubscriberLaneState) (sample : ℕ) (place : Option ℕ) (route : Option Route) → is_route route ≡ true
    → place_of sample lane ≡ place → route_at place lane ≡ route
    → IsShort (release_begun 0 sample place route lane).port.call × InRelease (release_begun 0 sample place route lane).port.call
release_begins lane sample None None h e f = absurd (cc h)
release_begins lane sample None (Some route) h e f = absurd (cc f)
release_begins lane sample (Some place) None h e f = absurd (cc h)
release_begins lane sample (Some place) (Some route) h e f = (tt, tt)

pub release_is_short : (lane : SubscriberLaneState) (sample : ℕ) → subscriber_fits lane (Begin (call.Release sample)) ≡ true
    → IsShort (subscriber_begun 0 (call.Release sample) lane).port.call
    × InRelease (subscriber_begun 0 (call.Release sample) lane).port.call
release_is_short lane sample fit =
    release_begins lane sample (place_of sample lane) (route_at (place_of sample lane) lane)
    (and_right (subscriber_is_idle lane.port.call) (subscriber_may lane (call.Release sample)) fit) refl refl

pub released_at : (p : Port) (lane : SubscriberLaneState) (sample : ℕ) (q : Port) (now : SubscriberLaneState)
    → subscriber_fits lane (Begin (call.Release sample)) ≡ true
    → SubscriberGoes p (subscriber_begun 0 (call.Release sample) lane) q now → subscriber_is_over now.port.call ≡ true → (done : Bool)
    × (now.port.call ≡ subscribing.Released done)
released_at p lane sample q now fit run over =
    release_over now.port.call (along InRelease release_takes p (subscriber_begun 0 (call.Release sample) lane) q now run
    (release_is_short lane sample fit).1) over

read_short : (slot : ℕ) (extent : SlotExtent) (b : Bool) → nat_lt 0 (3 + extent.user_header_words + extent.payload_words) ≡ b
    → IsShort (if b then subscribing.Reading slot 0 extent else subscribing.WasRead slot)
read_short slot extent true e = ltb-true 0 (3 + extent.user_header_words + extent.payload_words) e
read_short slot extent false e = tt

pub read_is_short : (lane : SubscriberLaneState) (sample : ℕ) → IsShort (subscriber_begun 0 (call.Read sample) lane).port.call
read_is_short lane sample = read_short sample lane.port.extent
    (nat_lt 0 (3 + lane.port.extent.user_header_words + lane.port.extent.payload_words)) refl

-- the words that a read lends
pub words_at_end : (c : SubscriberCall) (words : List ℕ) (sample : ℕ) → c ≡ subscribing.WasRead sample → words_read c words ≡ words
words_at_end c words sample e = ap (λ (d : SubscriberCall). words_read d words) e

-- a seat that goes on stays the seat of its port
pub seated_on : (table table' : TableId) (me me' : Me ℕ View) (sizes : TableSizes) → IsSeated table me sizes → table' ≡ table
    → me' ≡ single (port_of me') → (port_of me').service ≡ (port_of me).service → IsSeated table' me' sizes
seated_on table table' me me' sizes seat same alone service = record {
  alone = alone;
  sizes_are = ap (λ (s : Service). s.sizes) service ∙ seat.sizes_are;
  small = seat.small;
  words = ap (λ (t : TableId). t.words) same ∙ seat.words;
}

-- what a subscriber begins that fits
pub begun_stands : (p : Port) (lane mine begun : SubscriberLaneState) (c : Call) → SubscriberStands p lane → mine ≡ settled lane
    → begun ≡ subscriber_begun 0 c mine → subscriber_fits mine (Begin c) ≡ true → SubscriberStands p begun
begun_stands p lane mine begun c stands is begins_is fit =
    subst (SubscriberStands p) (sym begins_is) (begins p mine 0 c (subst (SubscriberStands p) (sym is) (settled_stands p lane stands)) fit)

and_true : (b : Bool) → b ≡ true → (b && true) ≡ true
and_true true e = refl
and_true false e = absurd (cc e)

pub receive_fits : (lane : SubscriberLaneState) → subscriber_is_idle lane.port.call ≡ true
    → subscriber_fits lane (Begin call.Receive) ≡ true
receive_fits lane idle = and_true (subscriber_is_idle lane.port.call) idle

-- after the last step
pub last_stands : (p : Port) (last now : SubscriberLaneState) → SubscriberStands p last → subscriber_is_over last.port.call ≡ true
    → now ≡ subscriber_after 0 last → SubscriberStands p now
last_stands p last now stands over is = subst (SubscriberStands p) (sym is) (subscriber_last p last stands over)

pub last_between : (last now : SubscriberLaneState) → subscriber_is_over last.port.call ≡ true → now ≡ subscriber_after 0 last
    → IsBetween now.port.call
last_between last now over is = subst (λ (lane : SubscriberLaneState). IsBetween lane.port.call) (sym is)
    (between_idle (subscriber_after 0 last).port.call (after_idle last over))

pub last_settled : (last now : SubscriberLaneState) → subscriber_is_over last.port.call ≡ true → now ≡ subscriber_after 0 last
    → settled now ≡ subscriber_after 0 last
last_settled last now over is = ap settled is ∙ settled_is (subscriber_after 0 last) (after_idle last over)

-- a receive from its begin to its last step
pub receive_done : (old : SubscriberPort) (p q : Port) (mine begun last now : SubscriberLaneState) (given : Option Answer)
    → old.port ≡ p → old.lane ≡ mine → begun ≡ subscriber_begun 0 call.Receive mine
    → SubscriberGoes p begun q last → subscriber_is_over last.port.call ≡ true → now ≡ subscriber_after 0 last
    → given ≡ subscriber_answer last.port.call 0
    → SubscriberEnds old.port (subscriber_begun 0 call.Receive old.lane) q (settled now) (answer.Received (received_of given))
receive_done old p q mine begun last now given port lane begins_is run over is answers =
    let from : begun ≡ subscriber_begun 0 call.Receive old.lane = begins_is ∙ ap (subscriber_begun 0 call.Receive) (sym lane) in
    let whole : SubscriberGoes old.port (subscriber_begun 0 call.Receive old.lane) q last
    = subst (λ (z : Port × SubscriberLaneState). SubscriberGoes z.0 z.1 q last) (λ i. (sym port i, from i)) run in
    let got = received_at old.port old.lane q last whole over in
    let told : given ≡ Some (answer.Received got.0) = answers ∙ ap (λ (c : SubscriberCall). subscriber_answer c 0) got.1 in
    record {
      last = last;
      goes = whole;
      ends = over;
      after = last_settled last now over is;
      answers = sym answers ∙ told ∙ ap (λ (r : Receipt). Some (answer.Received r)) (sym (ap received_of told));
    }

-- a release likewise
pub release_done : (old new : SubscriberPort) (p : Port) (sample : ℕ) (mine begun last now : SubscriberLaneState)
    (given : Option Answer) → old.port ≡ p → old.lane ≡ mine → subscriber_fits mine (Begin (call.Release sample)) ≡ true
    → begun ≡ subscriber_begun 0 (call.Release sample) mine → SubscriberGoes p begun new.port last
    → subscriber_is_over last.port.call ≡ true → now ≡ subscriber_after 0 last → new.lane ≡ settled now
    → given ≡ subscriber_answer last.port.call 0
    → (done : Bool) × (given ≡ Some (answer.Released done))
    × SubscriberEnds old.port (subscriber_begun 0 (call.Release sample) old.lane) new.port new.lane (answer.Released done)
release_done old new p sample mine begun last now given port lane fit begins_is run over is new_is answers =
    let fits : subscriber_fits old.lane (Begin (call.Release sample)) ≡ true
    = ap (λ (l : SubscriberLaneState). subscriber_fits l (Begin (call.Release sample))) lane ∙ fit in
    let from : begun ≡ subscriber_begun 0 (call.Release sample) old.lane
    = begins_is ∙ ap (subscriber_begun 0 (call.Release sample)) (sym lane) in
    let whole : SubscriberGoes old.port (subscriber_begun 0 (call.Release sample) old.lane) new.port last
    = subst (λ (z : Port × SubscriberLaneState). SubscriberGoes z.0 z.1 new.port last) (λ i. (sym port i, from i)) run in
    let got = released_at old.port old.lane sample new.port last fits whole over in
    let told : given ≡ Some (answer.Released got.0) = answers ∙ ap (λ (c : SubscriberCall). subscriber_answer c 0) got.1 in (
      got.0,
      told,
      record { last = last; goes = whole; ends = over; after = new_is ∙ last_settled last now over is; answers = sym answers ∙ told },
    )

-- and a read, which lacks its last step still
pub read_done : (old new : SubscriberPort) (p : Port) (sample : ℕ) (mine begun last : SubscriberLaneState) → old.port ≡ p
    → old.lane ≡ mine → subscriber_fits mine (Begin (call.Read sample)) ≡ true
    → begun ≡ subscriber_begun 0 (call.Read sample) mine → SubscriberGoes p begun new.port last
    → subscriber_is_over last.port.call ≡ true → new.lane ≡ settled last
    → new.words ≡ words_read last.port.call last.port.words → Reads old sample new true
read_done old new p sample mine begun last port lane fit begins_is run over new_is words_are =
    let from : begun ≡ subscriber_begun 0 (call.Read sample) old.lane = begins_is ∙ ap (subscriber_begun 0 (call.Read sample)) (sym lane) in
    let whole : SubscriberGoes old.port (subscriber_begun 0 (call.Read sample) old.lane) new.port last
    = subst (λ (z : Port × SubscriberLaneState). SubscriberGoes z.0 z.1 new.port last) (λ i. (sym port i, from i)) run in
    let ends : last.port.call ≡ subscribing.WasRead sample = read_at_end old.port old.lane sample new.port last whole over in
    record {
      last = last;
      fits = ap (λ (l : SubscriberLaneState). subscriber_fits l (Begin (call.Read sample))) lane ∙ fit;
      goes = whole;
      ends = ends;
      after = new_is ∙ settled_over last over;
      words = words_are ∙ words_at_end last.port.call last.port.words sample ends;
    }

-- a call that does not fit leaves the port as it is
pub unmoved : (old new : SubscriberPort) (p : Port) (lane mine : SubscriberLaneState) → new.table ≡ old.table → old.port ≡ p
    → new.port ≡ p → old.lane ≡ settled lane → mine ≡ settled lane → subscriber_is_idle mine.port.call ≡ true
    → new.lane ≡ settled mine → Unmoved old new
unmoved old new p lane mine table port same was is idle now = (table, same ∙ sym port, now ∙ settled_is mine idle ∙ is ∙ sym was)
