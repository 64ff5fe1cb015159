-- Lanes that are built of a domain go over the connections of each subscriber in the order of its keys.
use Rattle.std.proofs.Common.{arith, ℕ, zero, suc, ◌≡◌, ◌+◌, ◌-◌, ◌*◌, ◌^◌, ◌<◌, ◌≤◌, ◌==◌, Bool, true, false, nat_lt, List, [], ◌∷◌}
use Rattle.std.proofs.Common.{length, set, take}
use Rattle.std.proofs.Common.{get_or, slice_get, is_some, cond, count_by, unwrap_or, if◌then◌else◌, Option, None, Some, refl, sym, ap, ◌∙◌}
use Rattle.std.proofs.Common.{subst, inl, inr}
use Rattle.std.specs.List.{position, position_or_len, swap}
use Rattle.std.proofs.lemmas.Bool.{cond-true, cond-false, eqb-true, eqb-false, lt-ltb}
use Rattle.std.proofs.lemmas.Bool.Decides.{eqb_tells}
use Rattle.std.proofs.lemmas.List.Sums.{fails_before_first, passes_at_first, sum_by-cons}
use Rattle.std.proofs.lemmas.Option.{get_or_from_slice_get, slice_get-get_or, slice_get_within}
use Rattle.iox_domain.specs.DomainPorts.Subscribing.{attached_at}
use Rattle.iox_domain.specs.DomainPorts.declared.attached.Attached.{Attached}
use Rattle.iox_domain.specs.DomainPorts.declared.subscriber_port.SubscriberPort.{SubscriberPort}
use Rattle.iox_lanes_machine.specs.LanesBase.declared.calls.route.Route.{Route}
use Rattle.iox_lanes_machine.specs.LanesBase.declared.words.sizes.TableSizes.{TableSizes}
use Rattle.iox_lanes_machine.specs.LanesParties.Parties.{SubscriberLaneState, receiver_swapped}
use Rattle.iox_lanes_machine.specs.Findings.{swapped_of}
use Rattle.iox_lanes_machine.specs.Links.{LinkState}
use Rattle.iox_lanes_machine.specs.TakenIn.{other_place}
use Rattle.iox_lanes_machine.specs.World.{World}
use Rattle.iox_lanes_machine.specs.declared.found.Found.TheVariants as found
use Rattle.iox_lanes_machine.proofs.Ends.{some_is}
use Rattle.iox_lanes_machine.proofs.Swaps.{swapped_at, swapped_there}
use Rattle.iox_lanes_opening.specs.Soundness.{attaches_twice, comes_again, share_publisher}
use Rattle.iox_lanes_opening.proofs.Again.{none_below}
use Rattle.iox_lanes.specs.Behind.{behind_finding}
use Rattle.iox_lanes.specs.Holding.{IsRouteIf, IsRouteOf, LeadsFrom}
use Rattle.iox_lanes.specs.Ordered.{comes_from, is_this_number, keys_behind, leads_here, route_place, swap_behind}
use Rattle.iox_lanes.proofs.Apart.{not_same}
use Rattle.iox_lanes.proofs.Booked.{itself}
use Rattle.iox_lanes.proofs.Moving.{behind_fits}
use Rattle.iox_lanes.proofs.Settling.{set_there}
use Rattle.iox_lanes.proofs.Wording.{accepted, steady_on, AreSteady}

-- where one stands of two that changed places
place_one : (one other : ℕ) → other_place one other one ≡ other
place_one one other = cond-true (one == one) other (if one == other then one else one) (itself one)

place_off : (one other k : ℕ) → (k ≡ one → ⊥) → (k ≡ other → ⊥) → other_place one other k ≡ k
place_off one other k apart beside = cond-false (k == one) other (if k == other then one else k) (not_same k one apart)
    ∙ cond-false (k == other) one k (not_same k other beside)

count_step : {X : Type 0} (value : Option X) (rest : List (Option X)) (limit : ℕ)
    → count_by is_some (take (suc limit) (value ∷ rest)) ≡ cond (is_some value) 1 0 + count_by is_some (take limit rest)
count_step {X} value rest limit = sum_by-cons (λ (o : Option X). cond (is_some o) 1 0) value (take limit rest)

count_some : {X : Type 0} (x : X) (rest : List (Option X)) (limit : ℕ)
    → count_by is_some (take (suc limit) (Some x ∷ rest)) ≡ 1 + count_by is_some (take limit rest)
count_some x rest limit = count_step (Some x) rest limit

count_none : {X : Type 0} (rest : List (Option X)) (limit : ℕ)
    → count_by is_some (take (suc limit) (None ∷ rest)) ≡ 0 + count_by is_some (take limit rest)
count_none rest limit = count_step None rest limit

-- fewer values stand before one than before a later place
count_less : {X : Type 0} (values : List (Option X)) (key limit : ℕ) (x : X) → key < limit → get_or values key None ≡ Some x
    → count_by is_some (take key values) < count_by is_some (take limit values)
count_less [] key limit x less is = absurd (cc is)
count_less (value ∷ rest) key zero x less is = absurd (omega (arith, less))
count_less (None ∷ rest) zero (suc limit) x less is = absurd (cc is)
count_less (Some y ∷ rest) zero (suc limit) x less is = omega (arith, count_some y rest limit)
count_less (None ∷ rest) (suc key) (suc limit) x less is =
    omega (arith, count_none rest key, count_none rest limit, count_less rest key limit x (omega (arith, less)) is)
count_less (Some y ∷ rest) (suc key) (suc limit) x less is =
    omega (arith, count_some y rest key, count_some y rest limit, count_less rest key limit x (omega (arith, less)) is)

-- a value that as many stand before as this, if more do before a later place
count_reached : {X : Type 0} (values : List (Option X)) (limit n : ℕ) → n < count_by is_some (take limit values)
    → (key : ℕ) × (x : X) × (key < limit) × (get_or values key None ≡ Some x) × (count_by is_some (take key values) ≡ n)
count_reached [] zero n less = absurd (omega (arith, less))
count_reached [] (suc limit) n less = absurd (omega (arith, less))
count_reached (value ∷ rest) zero n less = absurd (omega (arith, less))
count_reached (None ∷ rest) (suc limit) n less =
    let later = count_reached rest limit n (omega (arith, less, count_none rest limit)) in
    (suc later.0, later.1, omega (arith, later.2), later.3, count_none rest later.0 ∙ omega (arith, later.4))
count_reached (Some y ∷ rest) (suc limit) zero less = (zero, y, omega arith, refl, refl)
count_reached (Some y ∷ rest) (suc limit) (suc n) less =
    let later = count_reached rest limit n (omega (arith, less, count_some y rest limit)) in
    (suc later.0, later.1, omega (arith, later.2), later.3, count_some y rest later.0 ∙ omega (arith, later.4))

-- a place that passes is, or comes after, the first that does
some_position : {X : Type 0} (test : X → Bool) (xs : List X) (at : ℕ) (x : X) → slice_get xs at ≡ Some x → test x ≡ true
    → (from : ℕ) × (y : X) × (position test xs ≡ Some from) × (slice_get xs from ≡ Some y) × (test y ≡ true)
some_position {X} test xs at x there passes = (
  from,
  get_or xs from x,
  cond-true (nat_lt from (length xs)) (Some from) None (lt-ltb from (length xs) below),
  slice_get-get_or xs from x below,
  passes_at_first test xs x below,
)
  where
    from : ℕ
    from = position_or_len test xs

    few : (later : Bool) → nat_lt at from ≡ later → from ≤ at
    few true later = absurd (cc (sym passes ∙ ap test (sym (get_or_from_slice_get xs at x x there))
        ∙ fails_before_first test xs at x (grind (arith, later))))
    few false later = grind (arith, later)

    below : from < length xs
    below = omega (arith, few (nat_lt at from) refl, slice_get_within xs at x there)

module _ (table : TableSizes) (publishers : List ℕ) (readers who : ℕ) (lanes : World)
    (linked : (place : ℕ) → place < length publishers → (link : LinkState) × (slice_get lanes.links (place * readers + who) ≡ Some link)
    × (link.publisher ≡ place) × (link.subscriber ≡ who)) where
  -- routes are those of the connections from all publishers
  pub record AreAll (routes : List Route) : Type 0 where
    pub only : (at : ℕ) (route : Route) → slice_get routes at ≡ Some route
        → (place : ℕ) × (place < length publishers) × (route.connection ≡ place * readers + who)
    pub has : (place : ℕ) → place < length publishers
        → (at : ℕ) × (route : Route) × (slice_get routes at ≡ Some route) × (route.connection ≡ place * readers + who)

  module _ (port : SubscriberPort) (once : attaches_twice port ≡ false)
      (comes : (key : ℕ) (attached : Attached) → attached_at key port ≡ Some attached
      → (place : ℕ) × (slice_get publishers place ≡ Some attached.publisher)) where
    abbrev values : List (Option Attached)
    values = port.connections.values

    abbrev before : ℕ → ℕ
    before key = count_by is_some (take key values)

    -- the first n keys have their connections in their order
    abbrev FollowTo : List Route → ℕ → Type 0
    FollowTo routes reached = (key : ℕ) → key < reached
        → IsRouteIf lanes publishers who (attached_at key port) (slice_get routes (before key))

    -- the subscriber goes over all its connections, and over those of the first keys in their order
    pub record IsOrdered (reached : ℕ) (m : World) : Type 0 where
      pub steady : AreSteady table m
      pub links : m.links ≡ lanes.links
      pub lane : SubscriberLaneState
      pub there : slice_get m.subscribers who ≡ Some lane
      pub all : AreAll lane.port.routes
      pub follows : FollowTo lane.port.routes reached

    -- two publishers' numbers at one link are one
    came : (number : ℕ) (link : Option LinkState) → comes_from publishers number link ≡ true
        → (own : LinkState) × (link ≡ Some own) × (slice_get publishers own.publisher ≡ Some number)
    came number None is = absurd (cc is)
    came number (Some own) is = (own, refl, by (slice_get publishers own.publisher) refl is)
      where
        by : (at : Option ℕ) → slice_get publishers own.publisher ≡ at → is_this_number number at ≡ true
            → slice_get publishers own.publisher ≡ Some number
        by None there passes = absurd (cc passes)
        by (Some other) there passes = there ∙ ap Some (eqb-true other number passes)

    leads_to : (number : ℕ) (link : LinkState) → slice_get publishers link.publisher ≡ Some number
        → comes_from publishers number (Some link) ≡ true
    leads_to number link there = ap (is_this_number number) there ∙ itself number

    apart_keys : (key other : ℕ) (one two : Attached) → key < other → other < length values → attached_at key port ≡ Some one
        → attached_at other port ≡ Some two → one.publisher ≡ two.publisher → ⊥
    apart_keys key other one two less within is too same =
        let again = none_below (comes_again port) (length values) other once within in
        let apart = none_below (λ k. share_publisher (attached_at k port) (attached_at other port)) other key again less in
        let unshared : (one.publisher == two.publisher) ≡ false =
        ap (λ a. share_publisher a (Some two)) (sym is) ∙ ap (share_publisher (attached_at key port)) (sym too) ∙ apart in
        eqb-false one.publisher two.publisher unshared same

    -- a swap keeps all
    all_swapped : (routes : List Route) (one other : ℕ) → one < length routes → other < length routes → AreAll routes
        → AreAll (swap routes one other)
    all_swapped routes one other low high all = record {
      only = λ at route is. all.only (other_place one other at) route (sym (swapped_at routes one other at low high) ∙ is);
      has = λ place below.
          let own = all.has place below in
          (other_place one other own.0, own.1, swapped_there routes one other own.0 low high ∙ own.2, own.3);
    }

    -- what a swap makes of the lanes
    swapped : (m : World) (one other : ℕ) (lane : SubscriberLaneState) → slice_get m.subscribers who ≡ Some lane
        → one < length lane.port.routes → other < length lane.port.routes → AreSteady table m
        → behind_finding m (found.Swapped who one other)
        ≡ record m { subscribers = set m.subscribers who (receiver_swapped one other lane) }
    swapped m one other lane there low high steady =
        behind_fits m (found.Swapped who one other) (accepted m (found.Swapped who one other) steady.kept (record {
          first = steady.moments;
          may = record { lane = lane; subscriber = there; has_one = low; has_other = high };
        })) ∙ ap (swapped_of m who one other) there

    one_key : (m : World) (key : ℕ) (at : Option Attached) → key < length values → get_or values key None ≡ at → IsOrdered key m
        → IsOrdered (suc key) (swap_behind publishers who (before key) m at)
    one_key m key None within is ordered = record {
      steady = ordered.steady;
      links = ordered.links;
      lane = ordered.lane;
      there = ordered.there;
      all = ordered.all;
      follows = λ other less. elim (eqb_tells other key) [
        | inl same ↦ subst (λ a. IsRouteIf lanes publishers who a (slice_get (ordered.lane).port.routes (before other)))
            (sym (ap (λ k. attached_at k port) same.1 ∙ is)) tt
        | inr apart ↦ ordered.follows other (omega (arith, less, apart.1))
      ];
    }
    one_key m key (Some attached) within is ordered =
        subst (λ n. IsOrdered (suc key) (behind_finding m (found.Swapped who to n))) (sym place_is)
        (record {
          steady = steady_on table m (found.Swapped who to from) ordered.steady;
          links = ap (λ (w : World). w.links) now ∙ ordered.links;
          lane = receiver_swapped to from lane;
          there = ap (λ (w : World). slice_get w.subscribers who) now
              ∙ set_there m.subscribers who lane (receiver_swapped to from lane) ordered.there;
          all = all_swapped routes to from low high ordered.all;
          follows = λ other less. elim (eqb_tells other key) [
            | inl same ↦ subst (λ k. IsRouteIf lanes publishers who (attached_at k port) (slice_get (swap routes to from) (before k)))
                (sym same.1) here
            | inr apart ↦ earlier other (omega (arith, less, apart.1)) (attached_at other port) refl
                (ordered.follows other (omega (arith, less, apart.1)))
          ];
        })
      where
        lane : SubscriberLaneState
        lane = ordered.lane

        routes : List Route
        routes = lane.port.routes

        to : ℕ
        to = before key

        number : ℕ
        number = attached.publisher

        test : Route → Bool
        test = leads_here m publishers number

        source : (place : ℕ) × (slice_get publishers place ≡ Some number)
        source = comes key attached is

        has : (at : ℕ) × (route : Route) × (slice_get routes at ≡ Some route) × (route.connection ≡ source.0 * readers + who)
        has = (ordered.all).has source.0 (slice_get_within publishers source.0 number source.1)

        leads : test has.1 ≡ true
        leads =
            let link = linked source.0 (slice_get_within publishers source.0 number source.1) in
            ap (λ ls. comes_from publishers number (slice_get ls (has.1).connection)) ordered.links
            ∙ ap (λ c. comes_from publishers number (slice_get lanes.links c)) has.3
            ∙ ap (comes_from publishers number) link.1
            ∙ leads_to number link.0 (ap (slice_get publishers) link.2 ∙ source.1)

        first : (from : ℕ) × (y : Route) × (position test routes ≡ Some from) × (slice_get routes from ≡ Some y) × (test y ≡ true)
        first = some_position test routes has.0 has.1 has.2 leads

        from : ℕ
        from = first.0

        route : Route
        route = first.1

        place_is : route_place m publishers number (slice_get m.subscribers who) ≡ from
        place_is = ap (route_place m publishers number) ordered.there ∙ ap (λ o. unwrap_or o (2 ^ 64 - 1)) first.2

        own : (link : LinkState) × (slice_get lanes.links route.connection ≡ Some link)
            × (slice_get publishers link.publisher ≡ Some number)
        own = came number (slice_get lanes.links route.connection)
            (ap (λ ls. comes_from publishers number (slice_get ls route.connection)) (sym ordered.links) ∙ first.4)

        high : from < length routes
        high = slice_get_within routes from route first.3

        behind : (less : Bool) → nat_lt from to ≡ less → to ≤ from
        behind false less = grind (arith, less)
        behind true less =
            let reached = count_reached values key from (grind (arith, less)) in
            let follows = ordered.follows reached.0 reached.2 in
            absurd (no_earlier reached.0 reached.1 reached.2 reached.3 (subst (λ n. IsRouteIf lanes publishers who
            (attached_at reached.0 port) (slice_get routes n)) reached.4 follows))
          where
            no_earlier : (other : ℕ) (two : Attached) → other < key → attached_at other port ≡ Some two
                → IsRouteIf lanes publishers who (attached_at other port) (slice_get routes from) → ⊥
            no_earlier other two less there is_route =
                let route_of : IsRouteOf lanes publishers who two (Some route) =
                subst (IsRouteOf lanes publishers who two) first.3
                (subst (λ a. IsRouteIf lanes publishers who a (slice_get routes from)) there is_route) in
                let leads_from : LeadsFrom publishers who two.publisher (Some own.0) =
                subst (LeadsFrom publishers who two.publisher) own.1 route_of in
                apart_keys other key two attached less within there is
                (some_is two.publisher number (sym leads_from.1 ∙ own.2))

        low_from : to ≤ from
        low_from = behind (nat_lt from to) refl

        low : to < length routes
        low = omega (arith, low_from, high)

        now : behind_finding m (found.Swapped who to from)
            ≡ record m { subscribers = set m.subscribers who (receiver_swapped to from lane) }
        now = swapped m to from lane ordered.there low high ordered.steady

        here : IsRouteIf lanes publishers who (attached_at key port) (slice_get (swap routes to from) (before key))
        here =
            let at_place = (ordered.all).only from route first.3 in
            let link = linked at_place.0 at_place.1 in
            let same : own.0 ≡ link.0 = some_is own.0 link.0 (sym own.1 ∙ ap (slice_get lanes.links) at_place.2 ∙ link.1) in
            let stands : slice_get (swap routes to from) to ≡ Some route =
            swapped_at routes to from to low high ∙ ap (slice_get routes) (place_one to from) ∙ first.3 in
            subst (λ a. IsRouteIf lanes publishers who a (slice_get (swap routes to from) to)) (sym is)
            (subst (IsRouteOf lanes publishers who attached) (sym stands)
            (subst (LeadsFrom publishers who number) (sym own.1) (ap (λ (l : LinkState). l.subscriber) same ∙ link.3, own.2)))

        earlier : (other : ℕ) → other < key → (at : Option Attached) → attached_at other port ≡ at
            → IsRouteIf lanes publishers who (attached_at other port) (slice_get routes (before other))
            → IsRouteIf lanes publishers who (attached_at other port) (slice_get (swap routes to from) (before other))
        earlier other less None there follows
            = subst (λ a. IsRouteIf lanes publishers who a (slice_get (swap routes to from) (before other))) (sym there) tt
        earlier other less (Some two) there follows =
            let fewer = count_less values other key two less there in
            let same : slice_get (swap routes to from) (before other) ≡ slice_get routes (before other) =
            swapped_at routes to from (before other) low high
            ∙ ap (slice_get routes) (place_off to from (before other) (λ equal. absurd (omega (arith, fewer, equal)))
            (λ equal. absurd (omega (arith, fewer, equal, low_from)))) in
            subst (IsRouteIf lanes publishers who (attached_at other port)) (sym same) follows

    -- all keys
    pub all_ordered : (m : World) (reached : ℕ) → reached ≤ length values → IsOrdered 0 m
        → IsOrdered reached (keys_behind publishers who values m reached)
    all_ordered m zero few ordered = ordered
    all_ordered m (suc reached) few ordered =
        one_key (keys_behind publishers who values m reached) reached (get_or values reached None) (omega (arith, few)) refl
        (all_ordered m reached (omega (arith, few)) ordered)
