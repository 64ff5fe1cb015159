-- A port that doesn't come for want of memory is refused, if its domain is here, and nothing changes.
use Rattle.std.proofs.Common.{◌≡◌, ℕ, Option, None, Some, Result, Err, option_map, refl}
use Rattle.iox_delivery.specs.Domain.AtHomes.{MakesAt}
use Rattle.iox_hub_commands.specs.Making.{MakesNumbered}
use Rattle.iox_hub_commands.specs.declared.ports.made.Made.{Made}

-- a port that is refused as its domain tells
pub refused : {P H E : Type 0} (with_ports : P → H) (keeping : ℕ → H → H) (step : P → ℕ → P → Type 0) (refusal : P → E)
    (found : Option P) (numbered : ℕ → Made → Made) (made : Made) (home : H) (answer : Option (Result ℕ E))
    → (next : ℕ) → answer ≡ option_map (λ ports. Err (refusal ports)) found
    → MakesNumbered (MakesAt with_ports keeping step refusal found) numbered next made home answer made home
refused with_ports keeping step refusal None numbered made home answer next is = rw is (None, (refl, refl), (refl, refl))
refused with_ports keeping step refusal (Some ports) numbered made home answer next is
    = rw is (Some (Err (refusal ports)), (refl, refl), (refl, refl))
