-- Theorems about every service that was opened.
use Rattle.std.specs.Prelude.{◌≡◌, ℕ, List, ◌⊎◌, Option, None, Result, Ok}
use Rattle.iox_negotiate_base.specs.DescribeBase.declared.hash.ServiceHash.{ServiceHash}
use Rattle.iox_negotiate_base.specs.DescribeSettings.Agreement.{Agreement}
use Rattle.iox_negotiate_base.specs.Describe.Within.{IsWithinLimits}
use Rattle.iox_negotiate_base.specs.Access.{Access}
use Rattle.iox_negotiate_base.specs.Opening.{Opens, OpensOrCreates}
use Rattle.iox_negotiate_base.specs.declared.request.Opened.{Opened}
use Rattle.iox_negotiate_base.specs.declared.failure.CreateFailure.{CreateFailure}

-- The service has the requested hash, meets the requirement, and is within the limits of a description.
abbrev pub IsMet : {V : Type 0} → ServiceHash → (Agreement → Result (Unit {0}) V) → Opened → Type 0
IsMet hash verdict service = (service.description.service_hash ≡ hash) × (verdict service.description ≡ Ok tt)
    × IsWithinLimits service.description

-- A service that is opened has the requested hash, meets the requirement, and is within the limits of a description.
abbrev pub OpenedIsMet : Type 0 → Type 0
OpenedIsMet V = (hash : ServiceHash) (node : ℕ) (verdict : Agreement → Result (Unit {0}) V) (made : List Access) (service : Opened)
    → Opens hash node verdict made (Ok service) → IsMet hash verdict service

-- A service that is opened or created has the requested hash, meets the requirement and is within the limits; or it is what was to be
-- agreed, and its settings weren't refused.
abbrev pub EitherIsMet : Type 0 → Type 0
EitherIsMet V = (hash : ServiceHash) (node : ℕ) (verdict : Agreement
    → Result (Unit {0}) V) (agreed : Agreement) (refusal : Option CreateFailure)
    (made : List Access) (service : Opened) → OpensOrCreates hash node verdict agreed refusal made (Ok service)
    → IsMet hash verdict service ⊎ ((service.description ≡ agreed) × (refusal ≡ None))
