-- Each step of lanes that hold together leaves them so.
use Rattle.std.proofs.Common.{ℕ, ◌≡◌, ◌<◌, ◌^◌, true, List, slice_get, set, Option, None, Some, refl, sym, ◌∙◌, ap, subst, inl, inr}
use Rattle.std.proofs.Common.{arith}
use Rattle.std.proofs.lemmas.Bool.Decides.{eqb_tells}
use Rattle.iox_lanes_machine.specs.QueuesSteps.Access.{successor}
use Rattle.iox_lanes_machine.specs.LanesBase.declared.calls.route.Route.{Route}
use Rattle.iox_lanes_machine.specs.LanesParties.Parties.{PublisherLaneState, publisher_begun}
use Rattle.iox_lanes_machine.specs.LanesParties.declared.call.Call.{Call}
use Rattle.iox_lanes_machine.specs.LanesParties.declared.call.Call.TheVariants as call
use Rattle.iox_lanes_machine.specs.LanesParties.declared.call.Move.{Move}
use Rattle.iox_lanes_machine.specs.LanesParties.declared.call.Move.TheVariants.{Begin, GoOn}
use Rattle.iox_lanes_machine.specs.LanesParties.declared.call.Party.{Party}
use Rattle.iox_lanes_machine.specs.LanesParties.declared.call.Party.TheVariants.{Publisher, Subscriber}
use Rattle.iox_lanes_machine.specs.Apart.{OthersStay}
use Rattle.iox_lanes_machine.specs.Links.{LinkState}
use Rattle.iox_lanes_machine.specs.Sends.{HasConnections, AreConnected}
use Rattle.iox_lanes_machine.specs.Together.{HoldTogether}
use Rattle.iox_lanes_machine.specs.World.{World, fits, ends, happens, publisher_begins, publisher_goes_on}
use Rattle.iox_lanes_machine.proofs.Alone.{uses_stay}
use Rattle.iox_lanes_machine.proofs.Apart.{steps_apart}
use Rattle.iox_lanes_machine.proofs.Calls.{set_is}
use Rattle.iox_lanes_machine.proofs.Fixed.{steps_fixed}
use Rattle.iox_lanes_machine.proofs.Held.{happens_held}
use Rattle.iox_lanes_machine.proofs.ReadWords.{happens_reads}
use Rattle.iox_lanes_machine.proofs.ReturnSteps.{happens_returns}
use Rattle.iox_lanes_machine.proofs.Slots.{happens_loans, slots_stay}
use Rattle.iox_lanes_machine.proofs.Steps.{happens_rings, happens_moments}
use Rattle.iox_lanes_machine.proofs.UsesSteps.{happens_uses}
use Rattle.iox_lanes_machine.proofs.Whole.{step_made}
use Rattle.iox_lanes_machine.proofs.Within.{set_other, happens_within}

-- a begin leaves a publisher its connections
begun_routes : (moment : ℕ) (c : Call) (lane : PublisherLaneState) → (publisher_begun moment c lane).port.routes ≡ lane.port.routes
begun_routes moment call.LoanUninit lane = refl
begun_routes moment (call.Write loan payload user_header) lane = refl
begun_routes moment (call.Send loan) lane = refl
begun_routes moment (call.DropLoan loan) lane = refl
begun_routes moment call.Receive lane = refl
begun_routes moment (call.Read sample) lane = refl
begun_routes moment (call.Release sample) lane = refl

same_connected : (m n : World) → n.links ≡ m.links → n.publishers ≡ m.publishers → AreConnected m → AreConnected n
same_connected m n links are k who lane there =
    subst (λ (x : List LinkState). HasConnections x who lane.port.routes) (sym links)
    (k who lane (ap (λ (xs : List PublisherLaneState). slice_get xs who) (sym are) ∙ there))

set_connected : (m n : World) (place : ℕ) (lane after : PublisherLaneState) → slice_get m.publishers place ≡ Some lane
    → n.links ≡ m.links → n.publishers ≡ set m.publishers place after → after.port.routes ≡ lane.port.routes → AreConnected m
    → AreConnected n
set_connected m n place lane after e links are routes k who own there = elim (eqb_tells who place) [
  | inl same ↦
      let got : slice_get (set m.publishers place after) who ≡ Some own
      = ap (λ (xs : List PublisherLaneState). slice_get xs who) (sym are) ∙ there in
      let now : own ≡ after = set_is m.publishers place who lane after own e same.1 got in
      let theirs : own.port.routes ≡ lane.port.routes = ap (λ (l : PublisherLaneState). l.port.routes) now ∙ routes in
      let is : HasConnections m.links who lane.port.routes = k who lane (ap (slice_get m.publishers) same.1 ∙ e) in
      subst (λ (z : List LinkState × List Route). HasConnections z.0 who z.1) (λ i. (sym links i, sym theirs i)) is
  | inr other ↦
      let got : slice_get (set m.publishers place after) who ≡ Some own
      = ap (λ (xs : List PublisherLaneState). slice_get xs who) (sym are) ∙ there in
      subst (λ (x : List LinkState). HasConnections x who own.port.routes) (sym links)
      (k who own (sym (set_other m.publishers place who after other.1) ∙ got))
]

begun_connected : (m : World) (place : ℕ) (c : Call) (at : Option PublisherLaneState) → slice_get m.publishers place ≡ at
    → AreConnected m → AreConnected (publisher_begins m place c at)
begun_connected m place c None e k = k
begun_connected m place c (Some lane) e k =
    set_connected m (publisher_begins m place c (Some lane)) place lane (publisher_begun m.moments c lane) e refl refl
    (begun_routes m.moments c lane) k

gone_connected : (m n : World) (place : ℕ) (at : Option PublisherLaneState) → slice_get m.publishers place ≡ at → n.links ≡ m.links
    → n.publishers ≡ (publisher_goes_on m place at).publishers → AreConnected m → AreConnected n
gone_connected m n place None e links are k = same_connected m n links are k
gone_connected m n place (Some lane) e links are k = set_connected m n place lane _ e links are refl k

went_same : (m n : World) (place : ℕ) (at : Option PublisherLaneState) → n.publishers ≡ m.publishers → n.table ≡ m.table
    → (publisher_goes_on n place at).publishers ≡ (publisher_goes_on m place at).publishers
went_same m n place None are table = are
went_same m n place (Some lane) are table = cc (are, table)

happens_connected : (m : World) (party : Party) (step : Move) → (happens m party step).links ≡ m.links
    → OthersStay m party (happens m party step) → AreConnected m → AreConnected (happens m party step)
happens_connected m (Publisher place) (Begin c) links stay k = begun_connected m place c (slice_get m.publishers place) refl k
happens_connected m (Publisher place) GoOn links stay k =
    gone_connected m (happens m (Publisher place) GoOn) place (slice_get m.publishers place) refl links
    (went_same m _ place (slice_get m.publishers place) refl refl) k
happens_connected m (Subscriber place) step links stay k = same_connected m (happens m (Subscriber place) step) links stay.0 k

-- the lanes hold together, the other parties stay, and so do the connections
pub happens_together : (m : World) (party : Party) (step : Move) → fits m party step ≡ true → m.moments < 2 ^ 63 → HoldTogether m
    → HoldTogether (happens m party step) × OthersStay m party (happens m party step) × ((happens m party step).links ≡ m.links)
happens_together m party step fit bound k =
    let made = step_made m party step fit (ends m party step) refl in
    let apart = steps_apart m party step made.0 (happens m party step) made.1 k.within in
    let fixed = steps_fixed m party step made.0 (happens m party step) made.1 in
    let next : (happens m party step).moments ≡ successor m.moments = happens_moments m party step fit in (
      record {
        few = omega (arith, next, bound);
        within = happens_within m party step fit k.within;
        rings = happens_rings m party step fit bound k.within k.rings;
        returns = happens_returns m party step fit (λ few. bound) k.within k.returns;
        connections = happens_connected m party step fixed.links apart.parties k.connections;
        loans = happens_loans m party step fit k.loans;
        uses = happens_uses m party step fit bound k.within k.rings k.returns (k.returns.rings k.few) k.connections k.loans k.uses;
        reads = happens_reads m party step k.reads;
        held = happens_held m party step k.within k.uses k.reads
            (uses_stay m party (happens m party step) k.connections k.loans k.uses
            (slots_stay m party step made.0 (happens m party step) k.loans apart)) k.few k.held;
      },
      apart.parties,
      fixed.links,
    )
