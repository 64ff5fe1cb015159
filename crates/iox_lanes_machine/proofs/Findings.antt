-- What is found before the first step fits the words of the service.
use Rattle.std.proofs.Common.{ℕ, ◌≡◌, ◌+◌, ◌-◌, ◌<◌, if◌then◌else◌, Bool, true, false, nat_lt, List, length, get_or, slice_get, Option}
use Rattle.std.proofs.Common.{Some, None, refl, sym, ◌∙◌, ap, subst, arith}
use Rattle.std.proofs.lemmas.Bool.{ltb-true, ltb-false}
use Rattle.std.proofs.lemmas.Option.{slice_get-get_or}
use Rattle.iox_lanes_machine.specs.QueuesSteps.Ends.{cells_of}
use Rattle.iox_lanes_machine.specs.QueuesSteps.declared.rings.ends.RingKind.{RingKind}
use Rattle.iox_lanes_machine.specs.QueuesSteps.declared.rings.ends.RingKind.TheVariants as kind
use Rattle.iox_lanes_machine.specs.LanesBase.declared.calls.route.Route.{Route}
use Rattle.iox_lanes_machine.specs.LanesParties.PublisherKeeping.{may_have}
use Rattle.iox_lanes_machine.specs.LanesParties.Parties.{PublisherLaneState}
use Rattle.iox_lanes_machine.proofs.LanesParties.Rings.{and_left, and_right}
use Rattle.iox_lanes_machine.specs.Findings.{back_found, takes_more, may_wait, may_be_back, waits_at, waits_of, back_at, back_of}
use Rattle.iox_lanes_machine.specs.Kept.{IsWithin}
use Rattle.iox_lanes_machine.specs.Links.{LinkState}
use Rattle.iox_lanes_machine.specs.World.{World}
use Rattle.iox_lanes_machine.proofs.Ends.{some_is}
use Rattle.iox_lanes_machine.proofs.RestingRings.{cells_fit, some_cells}

-- a connection that there is has its words
pub link_there : (m : World) (connection : ℕ) (link : LinkState) → IsWithin m → slice_get m.links connection ≡ Some link
    → connection < m.table.sizes.connections
link_there m connection link w found = (w.links connection link found).connection_is

-- where the message of a position lies
pub ruleset message_words = (cells_fit, some_cells, link_there)

-- a slot that may be found to wait, and where
pub record MayWait (m : World) (place slot : ℕ) (lane : PublisherLaneState) : Type 0 where
  pub route : Route
  pub at : slice_get lane.port.routes place ≡ Some route
  pub lacks : may_have place slot lane.port.book ≡ true
  pub link : LinkState
  pub found : slice_get m.links route.connection ≡ Some link
  pub room : length link.found < link.limit
  pub few : length link.found + back_found m.table route.connection < m.table.sizes.completion_cells

pub may_wait_is : (m : World) (place slot : ℕ) (lane : PublisherLaneState) → waits_of m place slot (Some lane) ≡ true
    → MayWait m place slot lane
may_wait_is m place slot lane h = by_route (slice_get lane.port.routes place) refl h
  where
    by_link : (route : Route) (at : Option LinkState) → slice_get lane.port.routes place ≡ Some route
        → slice_get m.links route.connection ≡ at → may_have place slot lane.port.book ≡ true → may_wait m route.connection at ≡ true
        → MayWait m place slot lane
    by_link route None here there lacks h = absurd (cc (h))
    by_link route (Some link) here there lacks h =
        let room = ltb-true (length link.found) link.limit
        (and_left (nat_lt (length link.found) link.limit) (takes_more m route.connection link) h) in
        let few = ltb-true (length link.found) (m.table.sizes.completion_cells - back_found m.table route.connection)
        (and_right (nat_lt (length link.found) link.limit) (takes_more m route.connection link) h) in
        record { route = route; at = here; lacks = lacks; link = link; found = there; room = room; few = omega (arith, few) }

    by_route : (r : Option Route) → slice_get lane.port.routes place ≡ r → waits_at m place slot lane r ≡ true → MayWait m place slot lane
    by_route None e h = absurd (cc (h))
    by_route (Some route) e h = by_link route (slice_get m.links route.connection) e refl
        (and_left (may_have place slot lane.port.book) (may_wait m route.connection (slice_get m.links route.connection)) h)
        (and_right (may_have place slot lane.port.book) (may_wait m route.connection (slice_get m.links route.connection)) h)

-- a slot that may be found given back, and where
pub record MayBeBack (m : World) (place slot : ℕ) (lane : PublisherLaneState) : Type 0 where
  pub route : Route
  pub at : slice_get lane.port.routes place ≡ Some route
  pub lacks : may_have place slot lane.port.book ≡ true
  pub link : LinkState
  pub found : slice_get m.links route.connection ≡ Some link
  pub few : length link.found + back_found m.table route.connection < m.table.sizes.completion_cells

pub may_be_back_is : (m : World) (place slot : ℕ) (lane : PublisherLaneState) → back_of m place slot (Some lane) ≡ true
    → MayBeBack m place slot lane
may_be_back_is m place slot lane h = by_route (slice_get lane.port.routes place) refl h
  where
    by_link : (route : Route) (at : Option LinkState) → slice_get lane.port.routes place ≡ Some route
        → slice_get m.links route.connection ≡ at → may_have place slot lane.port.book ≡ true → may_be_back m route.connection at ≡ true
        → MayBeBack m place slot lane
    by_link route None here there lacks h = absurd (cc (h))
    by_link route (Some link) here there lacks h =
        let few = ltb-true (length link.found) (m.table.sizes.completion_cells - back_found m.table route.connection) h in
        record { route = route; at = here; lacks = lacks; link = link; found = there; few = omega (arith, few) }

    by_route : (r : Option Route) → slice_get lane.port.routes place ≡ r → back_at m place slot lane r ≡ true → MayBeBack m place slot lane
    by_route None e h = absurd (cc (h))
    by_route (Some route) e h = by_link route (slice_get m.links route.connection) e refl
        (and_left (may_have place slot lane.port.book) (may_be_back m route.connection (slice_get m.links route.connection)) h)
        (and_right (may_have place slot lane.port.book) (may_be_back m route.connection (slice_get m.links route.connection)) h)

-- the cell for a message more
pub cell_below : (k : RingKind) (limit n : ℕ) → n < limit → n < cells_of k limit
cell_below kind.Overflowing limit n h = omega (arith, h)
cell_below kind.Refusing limit n h = by_test (nat_lt 0 limit) refl
  where
    by_test : (b : Bool) → nat_lt 0 limit ≡ b → n < (if b then limit else 1)
    by_test true e = h
    by_test false e = absurd (omega (arith, h, ltb-false 0 limit e))

pub waiting_cell : (m : World) (place slot : ℕ) (lane : PublisherLaneState) (route : Route) (link : LinkState) → IsWithin m
    → waits_of m place slot (Some lane) ≡ true → slice_get lane.port.routes place ≡ Some route
    → slice_get m.links route.connection ≡ Some link
    → (route.connection < m.table.sizes.connections) × (length link.found < m.table.sizes.submission_cells)
waiting_cell m place slot lane route link w fits here there =
    let is = may_wait_is m place slot lane fits in
    let same : is.route ≡ route = some_is is.route route (sym is.at ∙ here) in
    let link_is : is.link ≡ link = some_is is.link link (sym is.found ∙ ap (λ (r : Route). slice_get m.links r.connection) same ∙ there) in
    let room : length link.found < link.limit = subst (λ (l : LinkState). length l.found < l.limit) link_is is.room in
    let own = w.links route.connection link there in
    (own.connection_is, omega (arith, cell_below link.kind link.limit (length link.found) room, own.cells))

-- the cell for a sample more that was given back
pub back_cell : (m : World) (place slot : ℕ) (lane : PublisherLaneState) (route : Route) → IsWithin m
    → back_of m place slot (Some lane) ≡ true → slice_get lane.port.routes place ≡ Some route
    → (route.connection < m.table.sizes.connections) × (back_found m.table route.connection < m.table.sizes.completion_cells)
back_cell m place slot lane route w fits here =
    let is = may_be_back_is m place slot lane fits in
    let same : is.route ≡ route = some_is is.route route (sym is.at ∙ here) in
    let few : back_found m.table is.route.connection < m.table.sizes.completion_cells = omega (arith, is.few) in
    subst (λ (r : Route). (r.connection < m.table.sizes.connections)
    × (back_found m.table r.connection < m.table.sizes.completion_cells)) same
    (link_there m is.route.connection is.link w is.found, few)

-- what a list has at a place
pub get_is : {X : Type 0} (xs : List X) (at : ℕ) (x : X) → at < length xs → x ≡ get_or xs at x → slice_get xs at ≡ Some x
get_is {X} xs at x below e = slice_get-get_or xs at x below ∙ ap (λ (y : X). Some y) (sym e)
