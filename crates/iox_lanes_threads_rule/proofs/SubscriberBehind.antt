-- The lanes that words and ports represent go on as a subscriber does: by begins and steps on no shared word, and by one access.
use Rattle.std.proofs.Common.{ℕ, ◌≡◌, ◌<◌, ◌^◌, Bool, true, false, not, ◌&&◌, slice_get, Option, None, Some, refl, sym, ◌∙◌, ap, subst}
use Rattle.iox_lanes_machine.specs.LanesBase.Table.{shared_answer, after_shared}
use Rattle.iox_lanes_machine.specs.LanesBase.Subscribing.{subscriber_next, subscriber_take, subscriber_change, subscriber_is_idle}
use Rattle.iox_lanes_machine.specs.LanesBase.declared.calls.route.Route.{Route}
use Rattle.iox_lanes_machine.specs.LanesBase.declared.calls.subscriber.SubscriberCall.{SubscriberCall}
use Rattle.iox_lanes_machine.specs.LanesBase.declared.calls.subscriber.SubscriberCall.TheVariants as subscribing
use Rattle.iox_lanes_machine.specs.LanesParties.Keeping as subscribers
use Rattle.iox_lanes_machine.specs.LanesParties.Parties.{SubscriberLaneState, subscriber_fits, subscriber_begun, subscriber_after}
use Rattle.iox_lanes_machine.specs.LanesParties.Parties.{place_of, route_at, is_route, release_begun}
use Rattle.iox_lanes_machine.specs.LanesBase.declared.words.access.SharedAccess.{SharedAccess}
use Rattle.iox_lanes_machine.specs.LanesBase.declared.words.access.SharedAccess.TheVariants.{Local}
use Rattle.iox_lanes_machine.specs.LanesParties.declared.call.Call.{Call}
use Rattle.iox_lanes_machine.specs.LanesParties.declared.call.Call.TheVariants as call
use Rattle.iox_lanes_machine.specs.LanesParties.declared.call.Move.TheVariants.{Begin, GoOn}
use Rattle.iox_lanes_machine.specs.LanesParties.declared.call.Party.TheVariants.{Subscriber}
use Rattle.iox_lanes_machine.specs.Rooms.{RoomsKept}
use Rattle.iox_lanes_machine.specs.Together.{HoldTogether}
use Rattle.iox_lanes_machine.specs.World.{World, fits, happens, placed, subscriber_fits_at, subscriber_begins, subscriber_goes_on}
use Rattle.iox_lanes_machine.proofs.Within.{set_same}
use Rattle.iox_lanes_threads_rule.specs.Lanes.{SubscriberLeads, IsEarly, HasSubscriber}
use Rattle.iox_lanes_threads_rule.specs.Lanes.SubscriberLeads.{stays, begins, goes}
use Rattle.iox_lanes_threads_rule.proofs.Anew.{retimed}
use Rattle.iox_lanes_threads_rule.proofs.Behind.{AfterAccess, went_on, went_nowhere, stepped_anew}

-- a call that is idle stands where it stood
idle_subscriber : (lane : SubscriberLaneState) (c : SubscriberCall) → lane.port.call ≡ c → subscriber_is_idle c ≡ true
    → subscriber_after 0 lane ≡ lane
idle_subscriber lane subscribing.Idle e h =
    ap (λ (c : SubscriberCall). record lane {
      port = subscribers.changed (subscriber_change c 0) (record lane.port
          { call = subscriber_take lane.port.routes lane.port.borrowed lane.port.most_borrowed c 0 });
    }) e
    ∙ ap (λ (c : SubscriberCall). record lane { port = record lane.port { call = c } }) (sym e)
idle_subscriber lane (subscribing.Receiving place route pop waits) e h = absurd (cc h)
idle_subscriber lane (subscribing.Received receipt) e h = absurd (cc h)
idle_subscriber lane (subscribing.Reading slot word extent) e h = absurd (cc h)
idle_subscriber lane (subscribing.WasRead slot) e h = absurd (cc h)
idle_subscriber lane (subscribing.Releasing place route push) e h = absurd (cc h)
idle_subscriber lane (subscribing.Released done) e h = absurd (cc h)

pub same_route : (first : ℕ) (at : Option ℕ) (lane : SubscriberLaneState) → route_at at (record lane { first = first }) ≡ route_at at lane
same_route first None lane = refl
same_route first (Some place) lane = refl

-- a begin at another moment differs by that moment alone
begun_subscriber : (moment other first : ℕ) (c : Call) (lane : SubscriberLaneState) → (then : ℕ)
    × (subscriber_begun moment c (record lane { first = first }) ≡ record (subscriber_begun other c lane) { first = then })
begun_subscriber moment other first call.LoanUninit lane = (first, refl)
begun_subscriber moment other first (call.Write loan payload user_header) lane = (first, refl)
begun_subscriber moment other first (call.Send loan) lane = (first, refl)
begun_subscriber moment other first (call.DropLoan loan) lane = (first, refl)
begun_subscriber moment other first call.Receive lane = (moment, refl)
begun_subscriber moment other first (call.Read sample) lane = (moment, refl)
begun_subscriber moment other first (call.Release sample) lane =
    subst (λ (r : Option Route). (then : ℕ) × (release_begun moment sample (place_of sample lane) r (record lane { first = first })
    ≡ record (release_begun other sample (place_of sample lane) (route_at (place_of sample lane) lane) lane) { first = then }))
    (sym (same_route first (place_of sample lane) lane)) (released (place_of sample lane) (route_at (place_of sample lane) lane))
  where
    released : (place : Option ℕ) (route : Option Route) → (then : ℕ)
        × (release_begun moment sample place route (record lane { first = first })
        ≡ record (release_begun other sample place route lane) { first = then })
    released None route = (first, refl)
    released (Some place) None = (first, refl)
    released (Some place) (Some route) = (moment, refl)

-- what fits does not depend on when the last call began
fits_same : (first : ℕ) (c : Call) (lane : SubscriberLaneState) → subscriber_fits (record lane { first = first }) (Begin c)
    ≡ subscriber_fits lane (Begin c)
fits_same first call.LoanUninit lane = refl
fits_same first (call.Write loan payload user_header) lane = refl
fits_same first (call.Send loan) lane = refl
fits_same first (call.DropLoan loan) lane = refl
fits_same first call.Receive lane = refl
fits_same first (call.Read sample) lane = refl
fits_same first (call.Release sample) lane =
    ap (λ (r : Option Route). subscriber_is_idle lane.port.call && is_route r) (same_route first (place_of sample lane) lane)

-- the lanes after the next access of a subscriber
gone : (m : World) (place first : ℕ) (now : SubscriberLaneState) → slice_get m.subscribers place ≡ Some (record now { first = first })
    → (fits m (Subscriber place) GoOn ≡ not (subscriber_is_idle now.port.call))
    × ((happens m (Subscriber place) GoOn).table ≡ after_shared m.table (subscriber_next now.port.call))
    × HasSubscriber (happens m (Subscriber place) GoOn) place (subscriber_after (shared_answer m.table (subscriber_next now.port.call)) now)
gone m place first now e = (
  ap (λ (at : Option SubscriberLaneState). subscriber_fits_at at GoOn) e,
  ap (λ (at : Option SubscriberLaneState). (subscriber_goes_on (placed m (Subscriber place)) place at).table) e,
  (
    first,
    ap (λ (at : Option SubscriberLaneState). slice_get (subscriber_goes_on (placed m (Subscriber place)) place at).subscribers place) e
        ∙ set_same m.subscribers place
        (subscriber_after (shared_answer m.table (subscriber_next now.port.call)) (record now { first = first }))
        (record now { first = first }) e,
  ),
)

-- the next access of a subscriber
pub subscriber_steps : (m : World) (place : ℕ) (now : SubscriberLaneState) (access : SharedAccess) → HoldTogether m → RoomsKept m
    → m.moments < 2 ^ 63 → HasSubscriber m place now → subscriber_is_idle now.port.call ≡ false → subscriber_next now.port.call ≡ access
    → IsEarly (after_shared m.table access)
    → (n : World) × AfterAccess m (Subscriber place) access n × HasSubscriber n place (subscriber_after (shared_answer m.table access) now)
subscriber_steps m place now access k rooms few has busy next early =
    let g = gone m place has.0 now has.1 in
    let fit : fits m (Subscriber place) GoOn ≡ true = g.0 ∙ ap not busy in (
      retimed (happens m (Subscriber place) GoOn),
      stepped_anew m (Subscriber place) GoOn access fit few k rooms (g.1 ∙ ap (after_shared m.table) next) early,
      subst (λ (b : SharedAccess). HasSubscriber (happens m (Subscriber place) GoOn) place
          (subscriber_after (shared_answer m.table b) now)) next
          g.2,
    )

-- lanes in which a subscriber stands somewhere, and is reached by no access
abbrev ReachedStage : World → ℕ → SubscriberLaneState → Type 0
ReachedStage m place now = (n : World) × AfterAccess m (Subscriber place) Local n × HasSubscriber n place now

reach_begin : (m : World) (place moment : ℕ) (now : SubscriberLaneState) (c : Call) → subscriber_fits now (Begin c) ≡ true → IsEarly m.table
    → ReachedStage m place now → ReachedStage m place (subscriber_begun moment c now)
reach_begin m place moment now c fit early r =
    let n : World = r.0 in
    let first : ℕ = (r.2).0 in
    let e : slice_get n.subscribers place ≡ Some (record now { first = first }) = (r.2).1 in
    let b = begun_subscriber n.moments moment first c now in
    let fits' : fits n (Subscriber place) (Begin c) ≡ true
    = ap (λ (at : Option SubscriberLaneState). subscriber_fits_at at (Begin c)) e ∙ fits_same first c now ∙ fit in
    let table : (happens n (Subscriber place) (Begin c)).table ≡ after_shared n.table Local
    = ap (λ (at : Option SubscriberLaneState). (subscriber_begins n place c at).table) e in
    let still : IsEarly (after_shared n.table Local) = subst IsEarly (sym (r.1).table) early in (
      retimed (happens n (Subscriber place) (Begin c)),
      went_on m n (retimed (happens n (Subscriber place) (Begin c))) (Subscriber place) Local r.1
          (stepped_anew n (Subscriber place) (Begin c) Local fits' (r.1).few (r.1).together (r.1).rooms table still),
      (
        b.0,
        ap (λ (at : Option SubscriberLaneState). slice_get (subscriber_begins n place c at).subscribers place) e
            ∙ set_same n.subscribers place (subscriber_begun n.moments c (record now { first = first })) (record now { first = first }) e
            ∙ ap (λ (l : SubscriberLaneState). Some l) b.1,
      ),
    )

reach_step : (m : World) (place : ℕ) (now : SubscriberLaneState) → subscriber_next now.port.call ≡ Local → IsEarly m.table
    → ReachedStage m place now
    → (idle : Bool) → subscriber_is_idle now.port.call ≡ idle → ReachedStage m place (subscriber_after 0 now)
reach_step m place now local early r true h
    = (r.0, r.1, subst (HasSubscriber r.0 place) (sym (idle_subscriber now now.port.call refl h)) r.2)
reach_step m place now local early r false h =
    let s = subscriber_steps r.0 place now Local (r.1).together (r.1).rooms (r.1).few r.2 h local (subst IsEarly (sym (r.1).table) early) in
    (s.0, went_on m r.0 s.0 (Subscriber place) Local r.1 s.1, s.2)

-- so lanes go on to where a subscriber comes
pub subscriber_reaches : (m : World) (place : ℕ) (lane now : SubscriberLaneState) → HoldTogether m → RoomsKept m → m.moments < 2 ^ 63
    → IsEarly m.table → HasSubscriber m place lane → SubscriberLeads lane now
    → (n : World) × AfterAccess m (Subscriber place) Local n × HasSubscriber n place now
subscriber_reaches m place lane _ k rooms few early has stays = (m, went_nowhere m (Subscriber place) k rooms few, has)
subscriber_reaches m place lane _ k rooms few early has (begins now moment c run fit) =
    reach_begin m place moment now c fit early (subscriber_reaches m place lane now k rooms few early has run)
subscriber_reaches m place lane _ k rooms few early has (goes now run local) =
    reach_step m place now local early (subscriber_reaches m place lane now k rooms few early has run)
    (subscriber_is_idle now.port.call) refl
