-- The lanes that words and ports represent go on as a publisher does: by begins and steps on no shared word, and by one access.
use Rattle.std.proofs.Common.{ℕ, ◌≡◌, ◌<◌, ◌^◌, Bool, true, false, not, slice_get, Option, Some, refl, sym, ◌∙◌, ap, subst}
use Rattle.iox_lanes_machine.specs.LanesBase.Table.{shared_answer, after_shared}
use Rattle.iox_lanes_machine.specs.LanesBase.Publishing.{publisher_next, publisher_take, publisher_change, publisher_is_idle}
use Rattle.iox_lanes_machine.specs.LanesBase.declared.calls.publisher.PublisherCall.{PublisherCall}
use Rattle.iox_lanes_machine.specs.LanesBase.declared.calls.publisher.PublisherCall.TheVariants as publishing
use Rattle.iox_lanes_machine.specs.LanesParties.PublisherKeeping as books
use Rattle.iox_lanes_machine.specs.LanesParties.Publishers.{words_of}
use Rattle.iox_lanes_machine.specs.LanesParties.Parties.{PublisherLaneState, publisher_fits, publisher_begun, publisher_after}
use Rattle.iox_lanes_machine.specs.LanesBase.declared.words.access.SharedAccess.{SharedAccess}
use Rattle.iox_lanes_machine.specs.LanesBase.declared.words.access.SharedAccess.TheVariants.{Local}
use Rattle.iox_lanes_machine.specs.LanesParties.declared.call.Call.{Call}
use Rattle.iox_lanes_machine.specs.LanesParties.declared.call.Call.TheVariants as call
use Rattle.iox_lanes_machine.specs.LanesParties.declared.call.Move.TheVariants.{Begin, GoOn}
use Rattle.iox_lanes_machine.specs.LanesParties.declared.call.Party.TheVariants.{Publisher}
use Rattle.iox_lanes_machine.specs.Rooms.{RoomsKept}
use Rattle.iox_lanes_machine.specs.Together.{HoldTogether}
use Rattle.iox_lanes_machine.specs.World.{World, fits, happens, placed, publisher_fits_at, publisher_begins, publisher_goes_on}
use Rattle.iox_lanes_machine.proofs.Within.{set_same}
use Rattle.iox_lanes_threads_rule.specs.Lanes.{PublisherLeads, IsEarly, HasPublisher}
use Rattle.iox_lanes_threads_rule.specs.Lanes.PublisherLeads.{stays, begins, goes}
use Rattle.iox_lanes_threads_rule.proofs.Anew.{retimed}
use Rattle.iox_lanes_threads_rule.proofs.Behind.{AfterAccess, went_on, went_nowhere, stepped_anew}

-- a call that is idle stands where it stood
idle_publisher : (lane : PublisherLaneState) (c : PublisherCall) → lane.port.call ≡ c → publisher_is_idle c ≡ true
    → publisher_after 0 lane ≡ lane
idle_publisher lane publishing.Idle e h =
    ap (λ (c : PublisherCall). record lane {
      port = record lane.port {
        call = publisher_take lane.port.routes (words_of lane.port) c 0;
        book = books.changed (publisher_change c 0) lane.port.book;
      };
    }) e ∙ ap (λ (c : PublisherCall). record lane { port = record lane.port { call = c } }) (sym e)
idle_publisher lane (publishing.LoanReclaims place route pop) e h = absurd (cc h)
idle_publisher lane publishing.Lending e h = absurd (cc h)
idle_publisher lane (publishing.Writing slot word value) e h = absurd (cc h)
idle_publisher lane (publishing.Written slot) e h = absurd (cc h)
idle_publisher lane (publishing.Heading slot word value) e h = absurd (cc h)
idle_publisher lane (publishing.Remembering slot) e h = absurd (cc h)
idle_publisher lane (publishing.SendReclaims slot place route pop) e h = absurd (cc h)
idle_publisher lane (publishing.Pushing slot place route push delivery) e h = absurd (cc h)
idle_publisher lane (publishing.Sent slot delivery) e h = absurd (cc h)
idle_publisher lane (publishing.Dropping slot) e h = absurd (cc h)

-- a begin at another moment differs by that moment alone
begun_publisher : (moment other first : ℕ) (c : Call) (lane : PublisherLaneState) → (then : ℕ)
    × (publisher_begun moment c (record lane { first = first }) ≡ record (publisher_begun other c lane) { first = then })
begun_publisher moment other first call.LoanUninit lane = (moment, refl)
begun_publisher moment other first (call.Write loan payload user_header) lane = (moment, refl)
begun_publisher moment other first (call.Send loan) lane = (moment, refl)
begun_publisher moment other first (call.DropLoan loan) lane = (moment, refl)
begun_publisher moment other first call.Receive lane = (first, refl)
begun_publisher moment other first (call.Read sample) lane = (first, refl)
begun_publisher moment other first (call.Release sample) lane = (first, refl)

-- what fits does not depend on when the last call began
fits_same : (first : ℕ) (c : Call) (lane : PublisherLaneState) → publisher_fits (record lane { first = first }) (Begin c)
    ≡ publisher_fits lane (Begin c)
fits_same first call.LoanUninit lane = refl
fits_same first (call.Write loan payload user_header) lane = refl
fits_same first (call.Send loan) lane = refl
fits_same first (call.DropLoan loan) lane = refl
fits_same first call.Receive lane = refl
fits_same first (call.Read sample) lane = refl
fits_same first (call.Release sample) lane = refl

-- the lanes after the next access of a publisher
gone : (m : World) (place first : ℕ) (now : PublisherLaneState) → slice_get m.publishers place ≡ Some (record now { first = first })
    → (fits m (Publisher place) GoOn ≡ not (publisher_is_idle now.port.call))
    × ((happens m (Publisher place) GoOn).table ≡ after_shared m.table (publisher_next now.port.call))
    × HasPublisher (happens m (Publisher place) GoOn) place (publisher_after (shared_answer m.table (publisher_next now.port.call)) now)
gone m place first now e = (
  ap (λ (at : Option PublisherLaneState). publisher_fits_at at GoOn) e,
  ap (λ (at : Option PublisherLaneState). (publisher_goes_on (placed m (Publisher place)) place at).table) e,
  (
    first,
    ap (λ (at : Option PublisherLaneState). slice_get (publisher_goes_on (placed m (Publisher place)) place at).publishers place) e
        ∙ set_same m.publishers place
        (publisher_after (shared_answer m.table (publisher_next now.port.call)) (record now { first = first }))
        (record now { first = first }) e,
  ),
)

-- the next access of a publisher
pub publisher_steps : (m : World) (place : ℕ) (now : PublisherLaneState) (access : SharedAccess) → HoldTogether m → RoomsKept m
    → m.moments < 2 ^ 63 → HasPublisher m place now → publisher_is_idle now.port.call ≡ false → publisher_next now.port.call ≡ access
    → IsEarly (after_shared m.table access)
    → (n : World) × AfterAccess m (Publisher place) access n × HasPublisher n place (publisher_after (shared_answer m.table access) now)
publisher_steps m place now access k rooms few has busy next early =
    let g = gone m place has.0 now has.1 in
    let fit : fits m (Publisher place) GoOn ≡ true = g.0 ∙ ap not busy in (
      retimed (happens m (Publisher place) GoOn),
      stepped_anew m (Publisher place) GoOn access fit few k rooms (g.1 ∙ ap (after_shared m.table) next) early,
      subst (λ (b : SharedAccess). HasPublisher (happens m (Publisher place) GoOn) place (publisher_after (shared_answer m.table b) now))
          next
          g.2,
    )

-- lanes in which a publisher stands somewhere, and is reached by no access
abbrev ReachedStage : World → ℕ → PublisherLaneState → Type 0
ReachedStage m place now = (n : World) × AfterAccess m (Publisher place) Local n × HasPublisher n place now

reach_begin : (m : World) (place moment : ℕ) (now : PublisherLaneState) (c : Call) → publisher_fits now (Begin c) ≡ true → IsEarly m.table
    → ReachedStage m place now → ReachedStage m place (publisher_begun moment c now)
reach_begin m place moment now c fit early r =
    let n : World = r.0 in
    let first : ℕ = (r.2).0 in
    let e : slice_get n.publishers place ≡ Some (record now { first = first }) = (r.2).1 in
    let b = begun_publisher n.moments moment first c now in
    let fits' : fits n (Publisher place) (Begin c) ≡ true
    = ap (λ (at : Option PublisherLaneState). publisher_fits_at at (Begin c)) e ∙ fits_same first c now ∙ fit in
    let table : (happens n (Publisher place) (Begin c)).table ≡ after_shared n.table Local
    = ap (λ (at : Option PublisherLaneState). (publisher_begins n place c at).table) e in
    let still : IsEarly (after_shared n.table Local) = subst IsEarly (sym (r.1).table) early in (
      retimed (happens n (Publisher place) (Begin c)),
      went_on m n (retimed (happens n (Publisher place) (Begin c))) (Publisher place) Local r.1
          (stepped_anew n (Publisher place) (Begin c) Local fits' (r.1).few (r.1).together (r.1).rooms table still),
      (
        b.0,
        ap (λ (at : Option PublisherLaneState). slice_get (publisher_begins n place c at).publishers place) e
            ∙ set_same n.publishers place (publisher_begun n.moments c (record now { first = first })) (record now { first = first }) e
            ∙ ap (λ (l : PublisherLaneState). Some l) b.1,
      ),
    )

reach_step : (m : World) (place : ℕ) (now : PublisherLaneState) → publisher_next now.port.call ≡ Local → IsEarly m.table
    → ReachedStage m place now
    → (idle : Bool) → publisher_is_idle now.port.call ≡ idle → ReachedStage m place (publisher_after 0 now)
reach_step m place now local early r true h
    = (r.0, r.1, subst (HasPublisher r.0 place) (sym (idle_publisher now now.port.call refl h)) r.2)
reach_step m place now local early r false h =
    let s = publisher_steps r.0 place now Local (r.1).together (r.1).rooms (r.1).few r.2 h local (subst IsEarly (sym (r.1).table) early) in
    (s.0, went_on m r.0 s.0 (Publisher place) Local r.1 s.1, s.2)

-- so lanes go on to where a publisher comes
pub publisher_reaches : (m : World) (place : ℕ) (lane now : PublisherLaneState) → HoldTogether m → RoomsKept m → m.moments < 2 ^ 63
    → IsEarly m.table → HasPublisher m place lane → PublisherLeads lane now
    → (n : World) × AfterAccess m (Publisher place) Local n × HasPublisher n place now
publisher_reaches m place lane _ k rooms few early has stays = (m, went_nowhere m (Publisher place) k rooms few, has)
publisher_reaches m place lane _ k rooms few early has (begins now moment c run fit) =
    reach_begin m place moment now c fit early (publisher_reaches m place lane now k rooms few early has run)
publisher_reaches m place lane _ k rooms few early has (goes now run local) =
    reach_step m place now local early (publisher_reaches m place lane now k rooms few early has run) (publisher_is_idle now.port.call) refl
