-- Which services of the machine several domains represent, whose loans and samples are numbered together.
use Rattle.std.specs.Prelude.{ℕ, ◌==◌, ◌≡◌, ◌≢◌, ◌≤◌, List, [], ◌∷◌, filter, map}
use Rattle.std.specs.Map.{keys_of}
use Rattle.iox_domain.specs.DomainPorts.declared.attached.Taken.{Taken}
use Rattle.iox_domain.specs.Tries.{how_often}
use Rattle.iox_domain.specs.declared.ports.service_ports.ServicePorts.{ServicePorts}
use Rattle.iox_domain_machine.specs.Naming.{Naming}
use Rattle.iox_domain_machine.specs.Standing.{StandsFor}
use Rattle.iox_domain_machine.specs.Tables.{LentSlot}
use Rattle.iox_machine.specs.Service.{Service}

-- The entries of this domain in a table of loans or samples with their numbers.
abbrev pub those_of : {V : Type 0} → ℕ → List (ℕ × (ℕ × V)) → List (ℕ × V)
those_of domain table = map (λ entry. (entry.0, entry.1.1)) (filter (λ entry. entry.1.0 == domain) table)

-- No port of one domain has the name of a port of another.
abbrev pub AreNamedApart : (ℕ → ℕ → ℕ) → Type 0
AreNamedApart name = (one other port another : ℕ) → name one port ≢ 0 → name one port ≡ name other another → one ≡ other

-- Each number is in the table at most once.
abbrev pub ComesOnce : {V : Type 0} → List (ℕ × V) → Type 0
ComesOnce table = (number : ℕ) → how_often number (keys_of table) ≤ 1

module _ {T U : Type 0} (names : ℕ → Naming) (lent : List (ℕ × (ℕ × LentSlot))) (held : List (ℕ × (ℕ × Taken))) (buffer : ℕ) where
  -- The domains represent the services, each the one at its place, with its own loans and samples.
  abbrev pub StandInTurn : List (ℕ × ServicePorts T U) → List (Service T) → Type 0
  StandInTurn [] services = services ≡ []
  StandInTurn (domain ∷ domains) [] = ⊥
  StandInTurn (domain ∷ domains) (service ∷ services) =
      StandsFor (names domain.0) (those_of domain.0 lent) (those_of domain.0 held) buffer domain.1 service × StandInTurn domains services

  -- The domains represent all services of a machine. No two domains, loans or samples have the same number, and no ports of two
  -- domains have the same name.
  pub record DomainsStandFor (domains : List (ℕ × ServicePorts T U)) (services : List (Service T)) : Type 0 where
    pub each : StandInTurn domains services
    pub once : ComesOnce domains
    pub loans : ComesOnce lent
    pub samples : ComesOnce held
    pub publishers : AreNamedApart (λ domain. (names domain).publisher)
    pub subscribers : AreNamedApart (λ domain. (names domain).subscriber)
