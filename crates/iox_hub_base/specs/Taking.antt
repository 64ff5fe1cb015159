-- How a domain is taken out of the hub and put back.
use Rattle.std.specs.Prelude.{ℕ, ◌≡◌, Some, None, Result, Ok, Err}
use Rattle.iox_domain.specs.declared.domain.Domain.{Domain}
use Rattle.iox_hub_base.specs.Open.{OpenServices, presence_of, domain_of, with_presence, with_domain}
use Rattle.iox_hub_base.specs.declared.presence.Presence.TheVariants.{Here, Out}
use Rattle.iox_hub_base.specs.declared.taking.TakeError.{TakeError}
use Rattle.iox_hub_base.specs.declared.taking.TakeError.TheVariants.{DomainIsOut}
use Rattle.iox_hub_base.specs.declared.taking.DomainIsForeign.{DomainIsForeign}

-- The domain of a service is taken out, and its agreement stays in its place. If the domain isn't in the hub the call is refused, and
-- nothing changes.
abbrev pub Takes : {T U B D : Type 0} → ℕ → OpenServices T U B D → Result (Domain T U B D) TakeError → OpenServices T U B D → Type 0
Takes number old (Ok domain) new =
    (presence_of number old.domains ≡ Some (Here domain))
    × (new ≡ record old { domains = with_presence number old.domains (Out domain.agreed) })
Takes number old (Err error) new = (error ≡ DomainIsOut) × (domain_of number old.domains ≡ None) × (new ≡ old)

-- The domain is awaited: it is of this hub, and the domain of its service's number is out with exactly its agreement.
abbrev pub IsAwaited : {T U B D : Type 0} → Domain T U B D → OpenServices T U B D → Type 0
IsAwaited domain services = (domain.id.hub ≡ services.hub) × (presence_of domain.id.service services.domains ≡ Some (Out domain.agreed))

-- A domain that was awaited is put back. Any other domain is handed back, and nothing changes.
abbrev pub Puts : {T U B D : Type 0} → Domain T U B D → OpenServices T U B D → Result (Unit {0}) (DomainIsForeign (Domain T U B D))
    → OpenServices T U B D → Type 0
Puts domain old (Ok done) new = IsAwaited domain old × (new ≡ record old { domains = with_domain domain.id.service old.domains domain })
Puts domain old (Err refused) new = (refused.domain ≡ domain) × (IsAwaited domain old → ⊥) × (new ≡ old)
