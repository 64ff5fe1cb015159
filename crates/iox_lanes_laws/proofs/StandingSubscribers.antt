-- No run changes a subscriber's connections, nor how many samples it may borrow.
use Rattle.std.proofs.Common.{ℕ, ◌≡◌, Bool, true, false, [], ◌∷◌, slice_get, Option, Some, None, refl, sym, ◌∙◌, subst, inl, inr}
use Rattle.iox_lanes_machine.specs.LanesBase.Subscribing.{subscriber_change}
use Rattle.iox_lanes_machine.specs.LanesBase.declared.calls.route.Route.{Route}
use Rattle.iox_lanes_machine.specs.LanesParties.Parties.{SubscriberLaneState, place_of, release_begun, route_at, subscriber_after}
use Rattle.iox_lanes_machine.specs.LanesParties.Parties.{subscriber_begun}
use Rattle.iox_lanes_machine.specs.LanesParties.declared.call.Call.{Call}
use Rattle.iox_lanes_machine.specs.LanesParties.declared.call.Call.TheVariants as call
use Rattle.iox_lanes_machine.specs.LanesParties.declared.call.Entry.{Entry}
use Rattle.iox_lanes_machine.specs.LanesParties.declared.call.Move.{Move}
use Rattle.iox_lanes_machine.specs.LanesParties.declared.call.Party.{Party}
use Rattle.iox_lanes_machine.specs.Paces.{after_entry, led}
use Rattle.iox_lanes_machine.specs.World.{World, fits, happens, subscriber_given}
use Rattle.iox_lanes_machine.proofs.BorrowCounts.{numbers_are}
use Rattle.iox_lanes_machine.proofs.Within.{changed_routes, subscriber_routes}
use Rattle.iox_lanes_laws.specs.Payloads.{SubscriberStays}
use Rattle.iox_lanes_laws.specs.StandingSubscribers.{StaysThere, SubscribersStayThere, RunsKeepLimits, EntriesKeepLimits}
use Rattle.iox_lanes_laws.proofs.SubscriberCourses.{turn}

same_there : (at : Option SubscriberLaneState) → StaysThere at at
same_there None = tt
same_there (Some lane) = record { routes = refl; most_borrowed = refl }

there_on : (first middle last : Option SubscriberLaneState) → StaysThere first middle → StaysThere middle last → StaysThere first last
there_on None None last h g = g
there_on None (Some lane) last h g = absurd h
there_on (Some lane) None last h g = absurd h
there_on (Some before) (Some between) None h g = absurd g
there_on (Some before) (Some between) (Some after) h g =
    record { routes = g.routes ∙ h.routes; most_borrowed = g.most_borrowed ∙ h.most_borrowed }

-- a call that begins
released_most : (moment sample : ℕ) (at : Option ℕ) (route : Option Route) (lane : SubscriberLaneState)
    → (release_begun moment sample at route lane).port.most_borrowed ≡ lane.port.most_borrowed
released_most moment sample None route lane = refl
released_most moment sample (Some place) None lane = refl
released_most moment sample (Some place) (Some route) lane = refl

begun_most : (moment : ℕ) (c : Call) (lane : SubscriberLaneState)
    → (subscriber_begun moment c lane).port.most_borrowed ≡ lane.port.most_borrowed
begun_most moment call.LoanUninit lane = refl
begun_most moment (call.Write loan payload user_header) lane = refl
begun_most moment (call.Send loan) lane = refl
begun_most moment (call.DropLoan loan) lane = refl
begun_most moment call.Receive lane = refl
begun_most moment (call.Read sample) lane = refl
begun_most moment (call.Release sample) lane
    = released_most moment sample (place_of sample lane) (route_at (place_of sample lane) lane) lane

begun_stays : (moment : ℕ) (c : Call) (lane : SubscriberLaneState) → SubscriberStays lane (subscriber_begun moment c lane)
begun_stays moment c lane = record { routes = subscriber_routes moment c lane; most_borrowed = begun_most moment c lane }

-- and one that goes on
gone_stays : (given : ℕ) (lane : SubscriberLaneState) → SubscriberStays lane (subscriber_after given lane)
gone_stays given lane = record {
  routes = (changed_routes (subscriber_change lane.port.call given) _).0;
  most_borrowed = (numbers_are (subscriber_change lane.port.call given) _).1;
}

at_both : (first last : Option SubscriberLaneState) (before after : SubscriberLaneState) → first ≡ Some before → last ≡ Some after
    → SubscriberStays before after → StaysThere first last
at_both first last before after e f h =
    subst (λ (o : Option SubscriberLaneState). StaysThere o last) (sym e) (subst (StaysThere (Some before)) (sym f) h)

step_there : (m : World) (party : Party) (step : Move) → fits m party step ≡ true → SubscribersStayThere m (happens m party step)
step_there m party step fit place = elim (turn m party step place fit) [
  | inl same ↦ subst (StaysThere (slice_get m.subscribers place)) (sym same.0) (same_there (slice_get m.subscribers place))
  | inr (inl began) ↦ at_both (slice_get m.subscribers place) (slice_get (happens m party step).subscribers place) began.1
      (subscriber_begun m.moments began.0 began.1) began.2 began.4 (begun_stays m.moments began.0 began.1)
  | inr (inr went) ↦ at_both (slice_get m.subscribers place) (slice_get (happens m party step).subscribers place) went.0
      (subscriber_after (subscriber_given m.table went.0) went.0) went.1 went.3 (gone_stays (subscriber_given m.table went.0) went.0)
]

entry_there : (m : World) (entry : Entry) (b : Bool) → fits m entry.party entry.step ≡ b → SubscribersStayThere m (after_entry b m entry)
entry_there m entry true e = step_there m entry.party entry.step e
entry_there m entry false e = λ place. same_there (slice_get m.subscribers place)

all_on : (m n o : World) → SubscribersStayThere m n → SubscribersStayThere n o → SubscribersStayThere m o
all_on m n o h g = λ place. there_on (slice_get m.subscribers place) (slice_get n.subscribers place) (slice_get o.subscribers place)
    (h place) (g place)

pub entries_keep_limits : EntriesKeepLimits
entries_keep_limits m [] = λ place. same_there (slice_get m.subscribers place)
entries_keep_limits m (entry ∷ entries) =
    let next : World = after_entry (fits m entry.party entry.step) m entry in
    all_on m next (led next entries) (entry_there m entry (fits m entry.party entry.step) refl) (entries_keep_limits next entries)

pub runs_keep_limits : RunsKeepLimits
runs_keep_limits m [] made n h = subst (SubscribersStayThere m) (sym h.1) (λ place. same_there (slice_get m.subscribers place))
runs_keep_limits m (entry ∷ entries) made n (inl h) = runs_keep_limits m entries made n h.1
runs_keep_limits m (entry ∷ entries) made n (inr (inl h)) =
    let next : World = happens m entry.party entry.step in
    all_on m next n (step_there m entry.party entry.step h.0) (runs_keep_limits next entries (h.1).0 n (h.1).2)
runs_keep_limits m (entry ∷ entries) made n (inr (inr h)) = runs_keep_limits m entries made n h.2
