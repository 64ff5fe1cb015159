-- The routes of a subscriber, by the keys of its connections.
use Rattle.std.proofs.Common.{arith, ℕ, zero, suc, ◌≡◌, ◌+◌, ◌<◌, ◌≤◌, ◌∷◌, [], Bool, true, false, nat_lt, cond, is_some, count_by, List}
use Rattle.std.proofs.Common.{take, get_or, slice_get, Option, None, Some, refl, sym, subst}
use Rattle.std.proofs.lemmas.List.Sums.{sum_by-cons}
use Rattle.iox_domain.specs.DomainPorts.declared.attached.Attached.{Attached}
use Rattle.iox_lanes_machine.specs.World.{World}
use Rattle.iox_lanes_machine.specs.LanesBase.declared.calls.route.Route.{Route}
use Rattle.iox_lanes.specs.Holding.{IsRouteIf}

-- a value more, and what it adds to those that are there
counted_cons : {A : Type 0} (value : Option A) (values : List (Option A))
    → count_by is_some (value ∷ values) ≡ cond (is_some value) 1 0 + count_by is_some values
counted_cons value values = sum_by-cons (λ v. cond (is_some v) 1 0) value values

counted_more : {A : Type 0} (values : List (Option A)) (k : ℕ)
    → count_by is_some (take (suc k) values) ≡ count_by is_some (take k values) + cond (is_some (get_or values k None)) 1 0
counted_more [] zero = refl
counted_more [] (suc k) = refl
counted_more (None ∷ rest) zero = refl
counted_more (Some a ∷ rest) zero = refl
counted_more (value ∷ rest) (suc k) =
    let more = counted_more rest k in
    let longer = counted_cons value (take (suc k) rest) in
    let shorter = counted_cons value (take k rest) in
    omega (arith, more, longer, shorter)

-- the next key's connection has its route at the place after those of the keys before it
pub follows_next : (lanes : World) (publishers : List ℕ) (subscriber : ℕ) (values : List (Option Attached)) (routes : List Route)
    (key at next : ℕ) → at ≡ count_by is_some (take key values)
    → next ≡ at + cond (is_some (get_or values key None)) 1 0 → next ≡ count_by is_some (take (key + 1) values)
follows_next lanes publishers subscriber values routes key at next sofar is = let next_key : suc key ≡ key + 1 = omega arith in
    let more = counted_more values key in
    subst (λ n. next ≡ count_by is_some (take n values)) next_key (omega (arith, more, sofar, is))

-- all keys that are reached have their routes, and the others hold nothing
pub follows_all : (lanes : World) (publishers : List ℕ) (subscriber : ℕ) (values : List (Option Attached)) (routes : List Route)
    (reached : ℕ) → ((key : ℕ) → reached ≤ key → get_or values key None ≡ None)
    → ((key : ℕ) → key < reached → IsRouteIf lanes publishers subscriber (get_or values key None)
    (slice_get routes (count_by is_some (take key values))))
    → (key : ℕ) → IsRouteIf lanes publishers subscriber (get_or values key None) (slice_get routes (count_by is_some (take key values)))
follows_all lanes publishers subscriber values routes reached behind below key = by (nat_lt key reached) refl
  where
    by : (less : Bool) → nat_lt key reached ≡ less
        → IsRouteIf lanes publishers subscriber (get_or values key None) (slice_get routes (count_by is_some (take key values)))
    by true less = below key (grind (arith, less))
    by false less = subst (λ at. IsRouteIf lanes publishers subscriber at (slice_get routes (count_by is_some (take key values))))
        (sym (behind key (grind (arith, less)))) tt
