-- A subscriber stays within its service.
use Rattle.std.proofs.Common.{ℕ, ◌≡◌, ◌+◌, ◌-◌, ◌<◌, ◌||◌, Bool, true, false, if◌then◌else◌, nat_lt, List, length, set, get_or, slice_get}
use Rattle.std.proofs.Common.{Option, Some, None, refl, sym, ◌∙◌, ap, subst, inl, inr, arith}
use Rattle.std.proofs.lemmas.Bool.{cases_lt, ltb-true, ltb-false}
use Rattle.std.proofs.lemmas.List.{length-set, get_or_past}
use Rattle.std.specs.List.{All}
use Rattle.iox_lanes_parties.specs.QueuesSteps.Access.{successor}
use Rattle.iox_lanes_parties.specs.QueuesSteps.declared.order.PushAnswer.{PushAnswer}
use Rattle.iox_lanes_parties.specs.QueuesSteps.declared.order.PushAnswer.TheVariants.{Kept, LeftOut, Refused}
use Rattle.iox_lanes_parties.specs.QueuesSteps.declared.order.PopAnswer.{PopAnswer}
use Rattle.iox_lanes_parties.specs.QueuesSteps.declared.order.PopAnswer.TheVariants.{Got, Saw}
use Rattle.iox_lanes_parties.specs.QueuesSteps.Refusing as refusing
use Rattle.iox_lanes_parties.specs.QueuesSteps.declared.rings.refusing.push.Push.{Push}
use Rattle.iox_lanes_parties.specs.QueuesSteps.Ends.{pop_next, pop_take}
use Rattle.iox_lanes_parties.specs.QueuesSteps.declared.rings.ends.Pop.{Pop}
use Rattle.iox_lanes_parties.specs.LanesBase.Table.{IsOfTable}
use Rattle.iox_lanes_parties.specs.LanesBase.Numbers.{IsSlotWord}
use Rattle.iox_lanes_parties.specs.LanesBase.declared.words.sizes.TableSizes.{TableSizes}
use Rattle.iox_lanes_parties.specs.LanesBase.declared.words.word.ConnectionRing.TheVariants.{Submission, Completion}
use Rattle.iox_lanes_parties.specs.LanesBase.declared.words.word.SlotWord.TheVariants.{Header, UserHeader, Payload}
use Rattle.iox_lanes_parties.specs.LanesBase.Answers.{pop_answer, refusing_push_answer}
use Rattle.iox_lanes_parties.specs.LanesBase.Subscribing.{subscriber_next, subscriber_take, subscriber_change, subscriber_is_idle}
use Rattle.iox_lanes_parties.specs.LanesBase.Subscribing.{receive_from, received, is_full_at, released}
use Rattle.iox_lanes_parties.specs.LanesBase.declared.calls.route.Route.{Route}
use Rattle.iox_lanes_parties.specs.LanesBase.declared.calls.subscriber.SlotExtent.{SlotExtent}
use Rattle.iox_lanes_parties.specs.LanesBase.declared.calls.subscriber.SubscriberCall.{SubscriberCall}
use Rattle.iox_lanes_parties.specs.LanesBase.declared.calls.subscriber.SubscriberCall.TheVariants as subscribing
use Rattle.iox_lanes_parties.specs.LanesBase.declared.calls.subscriber.SubscriberChange.{SubscriberChange}
use Rattle.iox_lanes_parties.specs.LanesBase.declared.calls.subscriber.SubscriberChange.TheVariants as change
use Rattle.iox_lanes_parties.specs.Keeping.{SubscriberState, put_at, changed}
use Rattle.iox_lanes_parties.specs.Parties.{SubscriberLaneState, place_of, route_at, is_borrowed, subscriber_may, subscriber_fits}
use Rattle.iox_lanes_parties.specs.Parties.{subscriber_begun, subscriber_after, release_begun}
use Rattle.iox_lanes_parties.specs.Within.{IsRoute, IsAt, IsExtent, IsSubscribing, IsSubscriber, SubscribersStayWithin}
use Rattle.iox_lanes_parties.specs.declared.call.Call.{Call}
use Rattle.iox_lanes_parties.specs.declared.call.Call.TheVariants as call
use Rattle.iox_lanes_parties.specs.declared.call.Move.TheVariants.{Begin}
use Rattle.iox_lanes_parties.proofs.Rings.{and_right, all_at, ring_within}

receive_within : (sizes : TableSizes) (routes : List Route) (place : ℕ) (full waits : Bool) (at : Option Route)
    → slice_get routes place ≡ at → IsSubscribing sizes routes (receive_from place full waits at)
receive_within sizes routes place full waits None e = tt
receive_within sizes routes place full waits (Some route) e = e

received_within : (sizes : TableSizes) (routes : List Route) (borrowed : List ℕ) (most place : ℕ) (route : Route) (pop : Pop)
    (waits : Bool) (answer : Option PopAnswer) → IsAt routes place route
    → IsSubscribing sizes routes (received routes borrowed most place route pop waits answer)
received_within sizes routes borrowed most place route pop waits None at = at
received_within sizes routes borrowed most place route pop waits (Some (Got (Some slot))) at = tt
received_within sizes routes borrowed most place route pop waits (Some (Got None)) at =
    receive_within sizes routes (successor place) (is_full_at borrowed most (successor place)) waits
    (slice_get routes (successor place)) refl
received_within sizes routes borrowed most place route pop waits (Some (Saw some)) at =
    receive_within sizes routes (successor place) (is_full_at borrowed most (successor place)) (waits || some)
    (slice_get routes (successor place)) refl

read_within : (sizes : TableSizes) (routes : List Route) (slot word : ℕ) (extent : SlotExtent) (b : Bool)
    → nat_lt word (3 + extent.user_header_words + extent.payload_words) ≡ b → slot < sizes.slots → IsExtent sizes extent
    → IsSubscribing sizes routes (if b then subscribing.Reading slot word extent else subscribing.WasRead slot)
read_within sizes routes slot word extent true e there is =
    (there, omega (arith, ltb-true word (3 + extent.user_header_words + extent.payload_words) e, is.user_header, is.payload), is)
read_within sizes routes slot word extent false e there is = tt

released_within : (sizes : TableSizes) (routes : List Route) (place : ℕ) (route : Route) (push : Push) (answer : Option PushAnswer)
    → IsAt routes place route
    → IsSubscribing sizes routes (released place route push answer)
released_within sizes routes place route push None at = at
released_within sizes routes place route push (Some Kept) at = tt
released_within sizes routes place route push (Some (LeftOut oldest)) at = tt
released_within sizes routes place route push (Some Refused) at = tt

take_within : (sizes : TableSizes) (routes : List Route) (borrowed : List ℕ) (most : ℕ) (c : SubscriberCall) (answer : ℕ)
    → IsSubscribing sizes routes c → IsSubscribing sizes routes (subscriber_take routes borrowed most c answer)
take_within sizes routes borrowed most subscribing.Idle answer h = tt
take_within sizes routes borrowed most (subscribing.Receiving place route pop waits) answer h =
    received_within sizes routes borrowed most place route (pop_take pop answer) waits (pop_answer (pop_take pop answer)) h
take_within sizes routes borrowed most (subscribing.Received receipt) answer h = tt
take_within sizes routes borrowed most (subscribing.Reading slot word extent) answer h =
    read_within sizes routes slot (successor word) extent
    (nat_lt (successor word) (3 + extent.user_header_words + extent.payload_words)) refl h.0 h.2
take_within sizes routes borrowed most (subscribing.WasRead slot) answer h = tt
take_within sizes routes borrowed most (subscribing.Releasing place route push) answer h =
    released_within sizes routes place route (refusing.push_take push answer) (refusing_push_answer (refusing.push_take push answer)) h
take_within sizes routes borrowed most (subscribing.Released done) answer h = tt

extent_within : (sizes : TableSizes) (word : ℕ) (extent : SlotExtent) (b d : Bool) → nat_lt word 3 ≡ b
    → nat_lt (word - 3) extent.user_header_words ≡ d → word < 3 + sizes.user_header_words + sizes.payload_words → IsExtent sizes extent
    → IsSlotWord sizes (if b then Header word else if d then UserHeader (word - 3) else Payload (word - 3 - extent.user_header_words))
extent_within sizes word extent true d e f h is = ltb-true word 3 e
extent_within sizes word extent false true e f h is = omega (arith, ltb-true (word - 3) extent.user_header_words f, is.user_header)
extent_within sizes word extent false false e f h is
    = omega (arith, ltb-false word 3 e, ltb-false (word - 3) extent.user_header_words f, h, is.user_header)

next_within : (sizes : TableSizes) (routes : List Route) (c : SubscriberCall) → All (IsRoute sizes) routes
    → IsSubscribing sizes routes c → IsOfTable sizes (subscriber_next c)
next_within sizes routes subscribing.Idle all h = tt
next_within sizes routes (subscribing.Receiving place route pop waits) all h =
    let r : IsRoute sizes route = all_at (IsRoute sizes) routes place route h all in
    ring_within sizes route.connection Submission route.submission_cells (pop_next pop) r.connection r.sends r.submission
next_within sizes routes (subscribing.Received receipt) all h = tt
next_within sizes routes (subscribing.Reading slot word extent) all h
    = (h.0, extent_within sizes word extent (nat_lt word 3) (nat_lt (word - 3) extent.user_header_words) refl refl h.1 h.2)
next_within sizes routes (subscribing.WasRead slot) all h = tt
next_within sizes routes (subscribing.Releasing place route push) all h =
    let r : IsRoute sizes route = all_at (IsRoute sizes) routes place route h all in
    ring_within sizes route.connection Completion route.completion_cells (refusing.push_next push) r.connection r.gives_back r.completion
next_within sizes routes (subscribing.Released done) all h = tt

-- what a step changes of a subscriber's samples leaves the rest
record KeepsSamples (before after : SubscriberState) : Type 0 where
  routes : after.routes ≡ before.routes
  call : after.call ≡ before.call
  samples : length after.samples ≡ length before.samples
  extent : after.extent ≡ before.extent

put_length : {X : Type 0} (xs : List X) (at : ℕ) (x : X) → length (put_at xs at x) ≡ length xs
put_length {X} xs at x = by_test (nat_lt at (length xs))
  where
    by_test : (b : Bool) → length (if b then set xs at x else xs) ≡ length xs
    by_test true = length-set xs at x
    by_test false = refl

changed_keeps : (c : SubscriberChange) (state : SubscriberState) → KeepsSamples state (changed c state)
changed_keeps change.Nothing state = record { routes = refl; call = refl; samples = refl; extent = refl }
changed_keeps (change.Borrow place slot) state
    = record { routes = refl; call = refl; samples = put_length state.samples slot (Some place); extent = refl }
changed_keeps (change.Note word value) state = record { routes = refl; call = refl; samples = refl; extent = refl }
changed_keeps (change.GiveBack place slot) state
    = record { routes = refl; call = refl; samples = put_length state.samples slot None; extent = refl }

within_again : (sizes : TableSizes) (lane after : SubscriberLaneState) → KeepsSamples lane.port after.port → IsSubscriber sizes lane
    → IsSubscriber sizes after
within_again sizes lane after g k = record {
  routes = subst (All (IsRoute sizes)) (sym g.routes) k.routes;
  call = subst (λ (rs : List Route). IsSubscribing sizes rs after.port.call) (sym g.routes)
      (subst (IsSubscribing sizes lane.port.routes) (sym g.call) k.call);
  slots = omega (arith, k.slots, g.samples);
  extent = subst (IsExtent sizes) (sym g.extent) k.extent;
}

after_within : (sizes : TableSizes) (lane : SubscriberLaneState) (answer : ℕ) → IsSubscriber sizes lane
    → IsSubscriber sizes (subscriber_after answer lane)
after_within sizes lane answer k =
    let taken : SubscriberState = record lane.port
    { call = subscriber_take lane.port.routes lane.port.borrowed lane.port.most_borrowed lane.port.call answer } in
    within_again sizes (record lane { port = taken }) (subscriber_after answer lane)
    (changed_keeps (subscriber_change lane.port.call answer) taken)
    (record {
      routes = k.routes;
      call
          = take_within sizes lane.port.routes lane.port.borrowed lane.port.most_borrowed lane.port.call answer k.call;
      slots = k.slots;
      extent = k.extent;
    })

-- a sample that is borrowed has a slot of the service
no_place : (slot slots : ℕ) → is_borrowed None ≡ true → slot < slots
no_place slot slots h = absurd (cc)

sample_within : (samples : List (Option ℕ)) (slot : ℕ) → is_borrowed (get_or samples slot None) ≡ true → slot < length samples
sample_within samples slot h =
    elim (cases_lt slot (length samples)) [
      | inl lt ↦ lt
      | inr ge ↦ no_place slot (length samples) (sym (ap is_borrowed (get_or_past samples slot None ge)) ∙ h)
    ]

release_within : (sizes : TableSizes) (lane : SubscriberLaneState) (moment sample : ℕ) (place : Option ℕ) (route : Option Route)
    → route_at place lane ≡ route → IsSubscriber sizes lane
    → IsSubscriber sizes (release_begun moment sample place route lane)
release_within sizes lane moment sample None route e k = k
release_within sizes lane moment sample (Some place) None e k = k
release_within sizes lane moment sample (Some place) (Some route) e k
    = record { routes = k.routes; call = e; slots = k.slots; extent = k.extent }

begun_within : (sizes : TableSizes) (lane : SubscriberLaneState) (moment : ℕ) (c : Call) → subscriber_fits lane (Begin c) ≡ true
    → IsSubscriber sizes lane → IsSubscriber sizes (subscriber_begun moment c lane)
begun_within sizes lane moment call.LoanUninit fit k = k
begun_within sizes lane moment (call.Write loan payload user_header) fit k = k
begun_within sizes lane moment (call.Send loan) fit k = k
begun_within sizes lane moment (call.DropLoan loan) fit k = k
begun_within sizes lane moment call.Receive fit k = record {
  routes = k.routes;
  call = receive_within sizes lane.port.routes 0 (is_full_at lane.port.borrowed lane.port.most_borrowed 0) false
      (slice_get lane.port.routes 0) refl;
  slots = k.slots;
  extent = k.extent;
}
begun_within sizes lane moment (call.Read sample) fit k =
    let borrowed : is_borrowed (place_of sample lane) ≡ true
    = and_right (subscriber_is_idle lane.port.call) (subscriber_may lane (call.Read sample)) fit in
    record {
      routes = k.routes;
      call = read_within sizes lane.port.routes sample 0 lane.port.extent
          (nat_lt 0 (3 + lane.port.extent.user_header_words + lane.port.extent.payload_words)) refl
          (omega (arith, k.slots, sample_within lane.port.samples sample borrowed)) k.extent;
      slots = k.slots;
      extent = k.extent;
    }
begun_within sizes lane moment (call.Release sample) fit k
    = release_within sizes lane moment sample (place_of sample lane) (route_at (place_of sample lane) lane) refl k

pub subscribers_stay_within : SubscribersStayWithin
subscribers_stay_within sizes lane k = (
  λ moment c fit. begun_within sizes lane moment c fit k,
  λ answer. after_within sizes lane answer k,
  next_within sizes lane.port.routes lane.port.call k.routes k.call,
)
