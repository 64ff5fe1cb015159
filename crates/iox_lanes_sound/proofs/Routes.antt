-- A publisher of lanes has its connections in the order of the subscribers, whatever was found.
use Rattle.std.proofs.Common.{ℕ, ◌≡◌, ◌+◌, ◌*◌, true, List, [], ◌∷◌, length, get_or, slice_get, Option, Some, None, refl, sym, ◌∙◌, ap}
use Rattle.std.proofs.Common.{subst}
use Rattle.std.proofs.Common.{arith}
use Rattle.std.proofs.lemmas.Option.{slice_get_within, slice_get-get_or}
use Rattle.iox_lanes.specs.Finding.{WasFound}
use Rattle.iox_lanes_machine.proofs.Ends.{some_is}
use Rattle.iox_lanes_machine.proofs.FoundKeptWhole.{all_found}
use Rattle.iox_lanes_machine.proofs.Start.{listed_is}
use Rattle.iox_lanes_machine.proofs.StartUses.{start_kept}
use Rattle.iox_lanes_machine.proofs.TakenInPlaces.{takes_in}
use Rattle.iox_lanes_machine.specs.Findings.{AreFound, with_found}
use Rattle.iox_lanes_machine.specs.Kept.{IsKept}
use Rattle.iox_lanes_machine.specs.LanesBase.declared.calls.route.Route.{Route}
use Rattle.iox_lanes_machine.specs.LanesParties.Parties.{PublisherLaneState}
use Rattle.iox_lanes_machine.specs.Made.{publisher_at, route_to, sending_routes, start}
use Rattle.iox_lanes_machine.specs.TakenIn.{IsTakenIn, new_buffer, route_with}
use Rattle.iox_lanes_machine.specs.World.{World}
use Rattle.iox_lanes_machine.specs.declared.found.Found.{Found}
use Rattle.iox_lanes_machine.specs.declared.sizes.LaneSizes.{LaneSizes}

-- each connection of a publisher has the number of its place, publisher by publisher, for n subscribers
abbrev pub InPlaceOrder : ℕ → World → Type 0
InPlaceOrder subscribers m = (place : ℕ) (lane : PublisherLaneState) → slice_get m.publishers place ≡ Some lane → (index : ℕ)
    (route : Route) → slice_get lane.port.routes index ≡ Some route → route.connection ≡ place * subscribers + index

start_ordered : (sizes : LaneSizes) → InPlaceOrder sizes.subscribers (start sizes)
start_ordered sizes = λ place lane found index route is.
    let own = listed_is (publisher_at sizes) sizes.publishers place lane found in
    let there : slice_get (sending_routes sizes place sizes.subscribers) index ≡ Some route =
    ap (λ (l : PublisherLaneState). slice_get l.port.routes index) (sym own.1) ∙ is in
    ap (λ (r : Route). r.connection)
    (listed_is (λ subscriber. route_to sizes (place * sizes.subscribers + subscriber)) sizes.subscribers index route there).1

stood : {X : Type 0} (xs ys : List X) (index : ℕ) (y : X) → length ys ≡ length xs → slice_get ys index ≡ Some y
    → slice_get xs index ≡ Some (get_or xs index y)
stood xs ys index y as_many is = slice_get-get_or xs index y (omega (arith, slice_get_within ys index y is, as_many))

leads_on : (buffer : Option ℕ) (route : Route) → (route_with buffer route).connection ≡ route.connection
leads_on None route = refl
leads_on (Some messages) route = refl

taken_ordered : (subscribers : ℕ) (m : World) (f : Found) (n : World) → IsTakenIn m f n → InPlaceOrder subscribers m
    → InPlaceOrder subscribers n
taken_ordered subscribers m f n taken order = λ place lane found index route is.
    let before : PublisherLaneState = get_or m.publishers place lane in
    let was = stood m.publishers n.publishers place lane taken.as_many found in
    let knows = (taken.publishers place before lane was found).routes in
    let old : Route = get_or before.port.routes index route in
    let there = stood before.port.routes lane.port.routes index route knows.as_many is in
    let same : route ≡ route_with (new_buffer m f old.connection) old =
    some_is route (route_with (new_buffer m f old.connection) old) (sym is ∙ knows.each index old there) in
    ap (λ (r : Route). r.connection) same ∙ leads_on (new_buffer m f old.connection) old ∙ order place before was index old there

found_ordered : (subscribers : ℕ) (m : World) (fs : List Found) (n : World) → AreFound m fs n → IsKept m → InPlaceOrder subscribers m
    → InPlaceOrder subscribers n
found_ordered subscribers m [] n finds kept order = subst (InPlaceOrder subscribers) (sym finds) order
found_ordered subscribers m (f ∷ fs) n finds kept order =
    found_ordered subscribers (with_found m f) fs n finds.1 (all_found m (f ∷ []) (with_found m f) (finds.0, refl) kept)
    (taken_ordered subscribers m f (with_found m f) (takes_in m f true (with_found m f) (finds.0, refl) kept).1 order)

pub routes_ordered : (sizes : LaneSizes) (m : World) → WasFound sizes m → InPlaceOrder sizes.subscribers m
routes_ordered sizes m w =
    found_ordered sizes.subscribers (start sizes) w.found m w.finds (start_kept sizes w.some w.ports w.small) (start_ordered sizes)
