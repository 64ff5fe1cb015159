-- The slots that are taken at a connection are part of those that were put there, in the order of the puts, and each put is taken at most
-- once.
use Rattle.std.specs.Prelude.{ℕ, ◌≡◌, ◌≤◌, ◌^◌, ◌⊎◌, List, [], ◌∷◌, ◌++◌, map, slice_get, Some}
use Rattle.iox_lanes_machine.specs.QueuesSteps.Order.{puts}
use Rattle.iox_lanes_machine.specs.QueuesSteps.declared.order.Placed.{Placed}
use Rattle.iox_lanes_machine.specs.Rings.{waiting}
use Rattle.iox_lanes_machine.specs.Receipts.{slots_taken}
use Rattle.iox_lanes_machine.specs.World.{World}
use Rattle.iox_lanes_machine.specs.Links.{LinkState}

-- The first list is what remains of the second after some of its values are removed.
abbrev pub IsPartOf : List ℕ → List ℕ → Type 0
IsPartOf [] ys = Unit {0}
IsPartOf (x ∷ xs) [] = ⊥
IsPartOf (x ∷ xs) (y ∷ ys) = ((x ≡ y) × IsPartOf xs ys) ⊎ IsPartOf (x ∷ xs) ys

-- The slots put at a connection, by its order.
abbrev pub slots_put : List Placed → List ℕ
slots_put order = map (λ put. put.value) (puts order)

-- The slots taken at a connection, followed by those that wait there, are part of those that waited before the first step, followed by
-- those that were put.
abbrev pub SlotsArrive : LinkState → List Placed → Type 0
SlotsArrive link order = IsPartOf (slots_taken order ++ waiting link order) (link.found ++ slots_put order)

-- What was taken and waits at this connection is part of what waited and was put there (`SlotsArrive`), as long as at most 2^63 steps were
-- made.
abbrev pub OrderArrives : World → ℕ → List Placed → Type 0
OrderArrives m connection order = m.moments ≤ 2 ^ 63 → (link : LinkState) → slice_get m.links connection ≡ Some link
    → SlotsArrive link order
