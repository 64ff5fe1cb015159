-- A publisher has no more connections than its service.
use Rattle.std.proofs.Common.{ℕ, suc, ◌≡◌, ◌+◌, ◌*◌, ◌<◌, ◌≤◌, ◌^◌, ◌||◌, Bool, true, false, List, [], ◌∷◌, length, map, slice_get, Some}
use Rattle.std.proofs.Common.{eqb, refl, sym, inl, inr, arith}
use Rattle.std.specs.List.{All, AllByRecursion, IsDistinct, list_any}
use Rattle.std.proofs.lemmas.Bool.{eqb-true}
use Rattle.std.proofs.lemmas.Bool.Decides.{eqb_tells}
use Rattle.std.proofs.lemmas.List.{length-map}
use Rattle.std.proofs.lemmas.List.Elements.{All-head, All-tail}
use Rattle.std.proofs.lemmas.Map.Steps.{length-le_from_distinct_below}
use Rattle.std.proofs.Math.Nat.{mul-le-mul_left}
use Rattle.iox_lanes_machine.specs.LanesBase.Numbers.{connection_words, slot_words, IsSmall}
use Rattle.iox_lanes_machine.specs.LanesBase.declared.words.sizes.TableSizes.{TableSizes}
use Rattle.iox_lanes_machine.specs.LanesBase.declared.calls.route.Route.{Route}
use Rattle.iox_lanes_machine.specs.LanesParties.Within.{IsRoute}
use Rattle.iox_lanes_threads_ports.specs.Ports.{EachOnce}

abbrev connection_of : Route → ℕ
connection_of route = route.connection

none_later : (x : ℕ) (routes : List Route) → ((i : ℕ) (route : Route) → slice_get routes i ≡ Some route → route.connection ≡ x → ⊥)
    → AllByRecursion (λ y. eqb x y ≡ false) (map connection_of routes)
none_later x [] off = tt
none_later x (route ∷ routes) off = (
  elim (eqb_tells x route.connection) [
    | inl same ↦ absurd (off 0 route refl (sym same.1))
    | inr other ↦ other.0
  ],
  none_later x routes (λ i r found e. off (suc i) r found e),
)

distinct : (routes : List Route) → EachOnce routes → IsDistinct eqb (map connection_of routes)
unfolding IsDistinct
distinct [] once = tt
distinct (route ∷ routes) once = (
  none_later route.connection routes (λ i r found e. absurd (cc (once (suc i) 0 r route found refl e))),
  distinct routes (λ i j one other a b e. let same : suc i ≡ suc j = once (suc i) (suc j) one other a b e in omega (arith, same)),
)

below : (sizes : TableSizes) (routes : List Route) → All (IsRoute sizes) routes → (q : ℕ)
    → list_any (eqb q) (map connection_of routes) ≡ true → q < sizes.connections
below sizes [] all q e = absurd (cc e)
below sizes (route ∷ routes) all q e
    = by_test (eqb q route.connection) refl e (below sizes routes (All-tail (IsRoute sizes) route routes all) q)
  where
    by_test : (b : Bool) → eqb q route.connection ≡ b → (b || list_any (eqb q) (map connection_of routes)) ≡ true
        → (list_any (eqb q) (map connection_of routes) ≡ true → q < sizes.connections) → q < sizes.connections
    by_test true same f rest =
        let is : q ≡ route.connection = eqb-true q route.connection same in
        let there : route.connection < sizes.connections = (All-head (IsRoute sizes) route routes all).connection in
        omega (arith, is, there)
    by_test false same f rest = rest f

pub few_connections : (sizes : TableSizes) (routes : List Route) → EachOnce routes → All (IsRoute sizes) routes
    → length routes ≤ sizes.connections
few_connections sizes routes once all =
    let few : length (map connection_of routes) ≤ sizes.connections
    = length-le_from_distinct_below (map connection_of routes) sizes.connections (distinct routes once) (below sizes routes all) in
    omega (arith, few, length-map routes connection_of)

-- and far fewer than numbers have
pub small_connections : (sizes : TableSizes) → IsSmall sizes → sizes.connections < 2 ^ 62
small_connections sizes small =
    let least : 4 ≤ connection_words sizes = omega arith in
    let all : sizes.connections * 4 ≤ sizes.connections * connection_words sizes = mul-le-mul_left sizes.connections least in
    let whole : 1 + sizes.connections * connection_words sizes + sizes.slots * slot_words sizes < 2 ^ 64 = small.all in
    omega (arith, all, whole)
