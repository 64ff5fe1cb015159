-- The ports of all open services of a hub, and what a machine has under a number in any of its services.
use Rattle.std.specs.Prelude.{ℕ, ◌≡◌, true, List, [], ◌∷◌, is_some, Option, None}
use Rattle.std.specs.Option.{option_or}
use Rattle.iox_domain.specs.declared.ports.service_ports.ServicePorts.{ServicePorts}
use Rattle.iox_hub_base.specs.Open.{here}
use Rattle.iox_hub_base.specs.declared.presence.Presence.{Presence}
use Rattle.iox_hub_base.specs.declared.presence.Presence.TheVariants.{Here, Out}
use Rattle.iox_machine.specs.Service.{Service}
use Rattle.iox_machine.specs.Table.{at}

module _ {T U B D : Type 0} where
  -- The ports of a service in front of those of others, if the service's domain is in the hub.
  abbrev pub ports_beside : ℕ → Presence T U B D → List (ℕ × ServicePorts T U) → List (ℕ × ServicePorts T U)
  ports_beside number (Here domain) more = (number, domain.state.ports) ∷ more
  ports_beside number (Out agreed) more = more

  -- The ports of all services whose domains are in the hub, by the services' numbers.
  abbrev pub ports_here : List (ℕ × Presence T U B D) → List (ℕ × ServicePorts T U)
  ports_here [] = []
  ports_here (service ∷ services) = ports_beside service.0 service.1 (ports_here services)

  -- The domain of each open service is in the hub.
  abbrev pub AreHere : List (ℕ × Presence T U B D) → Type 0
  AreHere [] = Unit {0}
  AreHere (service ∷ services) = (is_some (here service.1) ≡ true) × AreHere services

-- The value of a number in a table that each service has, from the first service that has the number.
abbrev pub among : {T V : Type 0} → (Service T → List (ℕ × V)) → ℕ → List (Service T) → Option V
among table number [] = None
among table number (service ∷ services) = option_or (at number (table service)) (among table number services)
