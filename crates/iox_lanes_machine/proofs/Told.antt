-- What a step tells of its party's calls.
use Rattle.std.proofs.Common.{ℕ, ◌≡◌, Bool, true, false, List, [], ◌∷◌, ◌++◌, length, slice_get, Option, Some, None, is_some, refl, sym}
use Rattle.std.proofs.Common.{◌∙◌, ap, subst, append-nil}
use Rattle.iox_lanes_machine.specs.QueuesSteps.Access.{successor}
use Rattle.iox_lanes_machine.specs.QueuesSteps.declared.order.Placed.{Placed}
use Rattle.iox_lanes_machine.specs.QueuesSteps.declared.schedule.Stepped.{Stepped}
use Rattle.iox_lanes_machine.specs.QueuesSteps.declared.schedule.Stepped.TheVariants as stepped
use Rattle.iox_lanes_machine.specs.LanesBase.Publishing.{publisher_is_idle, publisher_is_over}
use Rattle.iox_lanes_machine.specs.LanesBase.Subscribing.{subscriber_is_idle, subscriber_is_over}
use Rattle.iox_lanes_machine.specs.LanesBase.declared.calls.route.Route.{Route}
use Rattle.iox_lanes_machine.specs.LanesParties.Parties.{PublisherLaneState, SubscriberLaneState, name_of, publisher_may, publisher_fits}
use Rattle.iox_lanes_machine.specs.LanesParties.Parties.{publisher_begun, publisher_after, subscriber_may, subscriber_fits}
use Rattle.iox_lanes_machine.specs.LanesParties.Parties.{subscriber_begun, subscriber_after, subscriber_answer, release_begun, is_route}
use Rattle.iox_lanes_machine.specs.LanesParties.Parties.{place_of, route_at}
use Rattle.iox_lanes_machine.specs.LanesParties.declared.call.Answer.{Answer}
use Rattle.iox_lanes_machine.specs.LanesParties.declared.call.Call.{Call}
use Rattle.iox_lanes_machine.specs.LanesParties.declared.call.Call.TheVariants as call
use Rattle.iox_lanes_machine.specs.LanesParties.declared.call.CallName.{CallName}
use Rattle.iox_lanes_machine.specs.LanesParties.declared.call.FinishedCall.{FinishedCall}
use Rattle.iox_lanes_machine.specs.LanesParties.declared.call.Move.{Move}
use Rattle.iox_lanes_machine.specs.LanesParties.declared.call.Move.TheVariants.{Begin, GoOn}
use Rattle.iox_lanes_machine.specs.LanesParties.declared.call.Party.{Party}
use Rattle.iox_lanes_machine.specs.LanesParties.declared.call.Party.TheVariants.{Publisher, Subscriber}
use Rattle.iox_lanes_machine.proofs.LanesParties.Rings.{and_right}
use Rattle.iox_lanes_machine.specs.Told.{BegunCall, begun, publisher_call, subscriber_call, call_of, CallTold, EndTold, Told}
use Rattle.iox_lanes_machine.specs.World.{World, ended, fits, ends, happens, publisher_fits_at, subscriber_fits_at, publisher_ends_at}
use Rattle.iox_lanes_machine.specs.World.{subscriber_ends_at, publisher_begins, publisher_goes_on, publisher_given, publisher_ending}
use Rattle.iox_lanes_machine.specs.World.{subscriber_begins, subscriber_goes_on, subscriber_given, StepsTo}
use Rattle.iox_lanes_machine.proofs.Apart.{publisher_answers, subscriber_answers}
use Rattle.iox_lanes_machine.proofs.Calls.{no_route, no_place}
use Rattle.iox_lanes_machine.proofs.Within.{set_same}

publisher_asked : (moment : ℕ) (c : Call) (lane : PublisherLaneState) → publisher_fits lane (Begin c) ≡ true
    → begun (publisher_begun moment c lane).call (publisher_begun moment c lane).first ≡ begun (name_of c) moment
publisher_asked moment call.LoanUninit lane fit = refl
publisher_asked moment (call.Write loan payload user_header) lane fit = refl
publisher_asked moment (call.Send loan) lane fit = refl
publisher_asked moment (call.DropLoan loan) lane fit = refl
publisher_asked moment call.Receive lane fit
    = absurd (cc (and_right (publisher_is_idle lane.port.call) (publisher_may lane call.Receive) fit))
publisher_asked moment (call.Read sample) lane fit
    = absurd (cc (and_right (publisher_is_idle lane.port.call) (publisher_may lane (call.Read sample)) fit))
publisher_asked moment (call.Release sample) lane fit
    = absurd (cc (and_right (publisher_is_idle lane.port.call) (publisher_may lane (call.Release sample)) fit))

release_asked : (moment sample : ℕ) (place : Option ℕ) (route : Option Route) (lane : SubscriberLaneState) → (route ≡ None → ⊥)
    → (place ≡ None → ⊥)
    → begun (release_begun moment sample place route lane).call (release_begun moment sample place route lane).first
    ≡ begun (name_of (call.Release sample)) moment
release_asked moment sample None route lane there at = absurd (at refl)
release_asked moment sample (Some place) None lane there at = absurd (there refl)
release_asked moment sample (Some place) (Some route) lane there at = refl

subscriber_asked : (moment : ℕ) (c : Call) (lane : SubscriberLaneState) → subscriber_fits lane (Begin c) ≡ true
    → begun (subscriber_begun moment c lane).call (subscriber_begun moment c lane).first ≡ begun (name_of c) moment
subscriber_asked moment call.LoanUninit lane fit
    = absurd (cc (and_right (subscriber_is_idle lane.port.call) (subscriber_may lane call.LoanUninit) fit))
subscriber_asked moment (call.Write loan payload user_header) lane fit
    = absurd (cc (and_right (subscriber_is_idle lane.port.call) (subscriber_may lane (call.Write loan payload user_header)) fit))
subscriber_asked moment (call.Send loan) lane fit
    = absurd (cc (and_right (subscriber_is_idle lane.port.call) (subscriber_may lane (call.Send loan)) fit))
subscriber_asked moment (call.DropLoan loan) lane fit
    = absurd (cc (and_right (subscriber_is_idle lane.port.call) (subscriber_may lane (call.DropLoan loan)) fit))
subscriber_asked moment call.Receive lane fit = refl
subscriber_asked moment (call.Read sample) lane fit = refl
subscriber_asked moment (call.Release sample) lane fit =
    let may : is_route (route_at (place_of sample lane) lane) ≡ true
    = and_right (subscriber_is_idle lane.port.call) (subscriber_may lane (call.Release sample)) fit in
    release_asked moment sample (place_of sample lane) (route_at (place_of sample lane) lane) lane
    (no_route (route_at (place_of sample lane) lane) may) (no_place (place_of sample lane) lane may)

-- the calls that ended after a step, by whether it was the last of its call
record Ends (last : Bool) (before after : List FinishedCall) (party : Party) (asked : Option BegunCall) (moment : ℕ) : Type 0 where
  none : last ≡ false → after ≡ before
  call : last ≡ true → (one : FinishedCall) × (after ≡ before ++ one ∷ []) × (one.party ≡ party)
      × (asked ≡ Some (begun one.call one.first)) × (one.last ≡ moment)

ends_by : (finished : List FinishedCall) (party : Party) (name : CallName) (first moment : ℕ) (a : Option Answer) (last : Bool)
    → is_some a ≡ last → Ends last finished (finished ++ ended party name first moment a) party (Some (begun name first)) moment
ends_by finished party name first moment None last e = record { none = λ h. append-nil finished; call = λ h. absurd (cc (e, h)) }
ends_by finished party name first moment (Some a) last e = record {
  none = λ h. absurd (cc (e, h));
  call = λ h. (record { party = party; call = name; answer = a; first = first; last = moment }, refl, refl, refl, refl);
}

-- what a step that is made tells
record IsTold (m : World) (party : Party) (step : Move) (n : World) : Type 0 where
  call : CallTold m party step n
  moments : n.moments ≡ successor m.moments
  ended_calls : Ends (ends m party step) m.finished n.finished party (call_of m party) m.moments

none_ends : (finished : List FinishedCall) (party : Party) (asked : Option BegunCall) (moment : ℕ)
    → Ends false finished finished party asked moment
none_ends finished party asked moment = record { none = λ h. refl; call = λ h. absurd (cc h) }

begun_publisher : (m : World) (place : ℕ) (c : Call) (at : Option PublisherLaneState) → slice_get m.publishers place ≡ at
    → publisher_fits_at at (Begin c) ≡ true → IsTold m (Publisher place) (Begin c) (publisher_begins m place c at)
begun_publisher m place c None e fit = absurd (cc)
begun_publisher m place c (Some lane) e fit = record {
  call = ap publisher_call (set_same m.publishers place (publisher_begun m.moments c lane) lane e) ∙ ap (λ (b : BegunCall). Some b)
      (publisher_asked m.moments c lane fit);
  moments = refl;
  ended_calls = none_ends m.finished (Publisher place) (call_of m (Publisher place)) m.moments;
}

begun_subscriber : (m : World) (place : ℕ) (c : Call) (at : Option SubscriberLaneState) → slice_get m.subscribers place ≡ at
    → subscriber_fits_at at (Begin c) ≡ true → IsTold m (Subscriber place) (Begin c) (subscriber_begins m place c at)
begun_subscriber m place c None e fit = absurd (cc)
begun_subscriber m place c (Some lane) e fit = record {
  call = ap subscriber_call (set_same m.subscribers place (subscriber_begun m.moments c lane) lane e) ∙ ap (λ (b : BegunCall). Some b)
      (subscriber_asked m.moments c lane fit);
  moments = refl;
  ended_calls = none_ends m.finished (Subscriber place) (call_of m (Subscriber place)) m.moments;
}

gone_publisher : (m : World) (place : ℕ) (orders : List (List Placed)) (at : Option PublisherLaneState)
    → slice_get m.publishers place ≡ at → publisher_fits_at at GoOn ≡ true
    → IsTold m (Publisher place) GoOn (publisher_goes_on (record m { orders = orders }) place at)
gone_publisher m place orders None e fit = absurd (cc)
gone_publisher m place orders (Some lane) e fit = record {
  call = ap publisher_call (set_same m.publishers place (publisher_after (publisher_given m.table lane) lane) lane e) ∙ sym
      (ap publisher_call e);
  moments = refl;
  ended_calls = subst (λ (at : Option PublisherLaneState). Ends (publisher_ends_at at) m.finished
      (m.finished ++ ended (Publisher place) lane.call lane.first m.moments (publisher_ending m.table lane)) (Publisher place)
      (publisher_call at) m.moments) (sym e)
      (ends_by m.finished (Publisher place) lane.call lane.first m.moments (publisher_ending m.table lane)
      (publisher_is_over lane.port.call)
      (publisher_answers lane.fails lane.port.call (publisher_after (publisher_given m.table lane) lane).port.book.answer));
}

gone_subscriber : (m : World) (place : ℕ) (orders : List (List Placed)) (at : Option SubscriberLaneState)
    → slice_get m.subscribers place ≡ at → subscriber_fits_at at GoOn ≡ true
    → IsTold m (Subscriber place) GoOn (subscriber_goes_on (record m { orders = orders }) place at)
gone_subscriber m place orders None e fit = absurd (cc)
gone_subscriber m place orders (Some lane) e fit = record {
  call = ap subscriber_call (set_same m.subscribers place (subscriber_after (subscriber_given m.table lane) lane) lane e) ∙ sym
      (ap subscriber_call e);
  moments = refl;
  ended_calls = subst (λ (at : Option SubscriberLaneState). Ends (subscriber_ends_at at) m.finished
      (m.finished ++ ended (Subscriber place) lane.call lane.first m.moments (subscriber_answer lane.port.call (length m.read)))
      (Subscriber place) (subscriber_call at) m.moments) (sym e)
      (ends_by m.finished (Subscriber place) lane.call lane.first m.moments (subscriber_answer lane.port.call (length m.read))
      (subscriber_is_over lane.port.call) (subscriber_answers lane.port.call (length m.read)));
}

happens_told : (m : World) (party : Party) (step : Move) → fits m party step ≡ true → IsTold m party step (happens m party step)
happens_told m (Publisher place) (Begin c) fit = begun_publisher m place c (slice_get m.publishers place) refl fit
happens_told m (Subscriber place) (Begin c) fit = begun_subscriber m place c (slice_get m.subscribers place) refl fit
happens_told m (Publisher place) GoOn fit = gone_publisher m place _ (slice_get m.publishers place) refl fit
happens_told m (Subscriber place) GoOn fit = gone_subscriber m place _ (slice_get m.subscribers place) refl fit

ended_told : (m : World) (party : Party) (step : Move) (n : World) → ends m party step ≡ true → IsTold m party step n → EndTold m party n
ended_told m party step n last g =
    let one = (g.ended_calls).call last in
    record { call = one.0; more = one.1; own = one.2; of = one.3; last = one.4 }

pub steps_told : (m : World) (party : Party) (step : Move) (r : Stepped) (n : World) → StepsTo m party step r n → Told m party step r n
steps_told m party step stepped.Went n h = subst (Told m party step stepped.Went) (sym h.2)
    (let g = happens_told m party step h.0 in (g.call, g.moments, (g.ended_calls).none h.1))
steps_told m party step stepped.Finished n h = subst (Told m party step stepped.Finished) (sym h.2)
    (let g = happens_told m party step h.0 in (g.call, g.moments, ended_told m party step (happens m party step) h.1 g))
steps_told m party step stepped.Skipped n h = h.1
steps_told m party step stepped.NoMemory n h = h.2
