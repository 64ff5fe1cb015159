-- How a service opens and closes.
use Rattle.std.specs.Prelude.{ℕ, ◌≡◌, ◌⊎◌, Bool, true, false, is_some, Result, Ok, Err}
use Rattle.iox_domain.specs.DescribeBase.Detail.{Detail}
use Rattle.iox_domain.specs.DescribeSettings.declared.static_config.Settings.{Settings}
use Rattle.iox_domain.specs.Domains.{IsNewDomain}
use Rattle.iox_domain.specs.declared.domain.Domain.{Domain}
use Rattle.iox_domain.specs.declared.domain_id.DomainId.{DomainId}
use Rattle.iox_domain.specs.Fitting.{Fits}
use Rattle.iox_domain.specs.DomainValues.declared.create_error.DomainError.{DomainError}
use Rattle.iox_domain.specs.DomainValues.declared.create_error.DomainError.TheVariants.{OutOfMemory}
use Rattle.iox_hub_base.specs.Open.{OpenServices, presence_of, opened, closed}
use Rattle.iox_hub_base.specs.declared.presence.Presence.{Presence}
use Rattle.iox_hub_base.specs.declared.presence.Presence.TheVariants.{Here}

-- Whether a service of this number is open; its domain may be in the hub or out.
abbrev pub is_open : {T U B D : Type 0} → ℕ → OpenServices T U B D → Bool
is_open number services = is_some (presence_of number services.domains)

-- A new domain of this hub and number, with these settings, is in the hub under the number.
abbrev pub HasNew : {T U B D : Type 0} → ℕ → ℕ → Settings → OpenServices T U B D → OpenServices T U B D → Type 0
HasNew {T} {U} {B} {D} buffer number settings old new =
    (domain : Domain T U B D) × IsNewDomain (record { hub = old.hub; service = number }) buffer settings domain
    × (new ≡ record old { domains = opened number (Here domain) old.domains })

-- A service opens. If one of this number is open, or the settings don't fit, nothing happens; otherwise a new domain is in the hub under
-- the number. The call is refused only if memory runs out for a new domain, and then nothing changes.
abbrev pub Opens : {T U B D : Type 0} → Detail → Detail → ℕ → ℕ → Settings → OpenServices T U B D → Result (Unit {0}) DomainError
    → OpenServices T U B D → Type 0
Opens payload user_header buffer number settings old (Ok done) new =
    (((is_open number old ≡ true) ⊎ (Fits payload user_header settings → ⊥)) × (new ≡ old))
    ⊎ ((is_open number old ≡ false) × Fits payload user_header settings × HasNew buffer number settings old new)
Opens payload user_header buffer number settings old (Err error) new =
    (error ≡ OutOfMemory) × (is_open number old ≡ false) × Fits payload user_header settings × (new ≡ old)

-- A new domain of this id, with these settings, is in the hub.
abbrev pub IsNewHere : {T U B D : Type 0} → DomainId → ℕ → Settings → Presence T U B D → Type 0
IsNewHere {T} {U} {B} {D} id buffer settings presence =
    (domain : Domain T U B D) × IsNewDomain id buffer settings domain × (presence ≡ Here domain)

-- Services that were taken out of the hub for a call are returned with one more that was opened, or as they were if memory ran out for the
-- new domain.
abbrev pub OpensLent : {T U B D : Type 0} → Detail → Detail → ℕ → ℕ → Settings → OpenServices T U B D
    → Result (OpenServices T U B D) (OpenServices T U B D) → Type 0
OpensLent payload user_header buffer number settings old (Ok new) = Opens payload user_header buffer number settings old (Ok tt) new
OpensLent payload user_header buffer number settings old (Err new)
    = Opens payload user_header buffer number settings old (Err OutOfMemory) new

-- The services without the one of this number.
abbrev pub without_service : {T U B D : Type 0} → ℕ → OpenServices T U B D → OpenServices T U B D
without_service number services = record services { domains = closed number services.domains }
