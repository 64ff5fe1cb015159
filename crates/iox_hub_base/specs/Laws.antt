-- Theorems about the services of a hub: consequences of the contracts of their calls.
use Rattle.std.specs.Prelude.{ℕ, ◌≡◌, true, [], None, Some, Result, Ok, Err}
use Rattle.iox_domain.specs.DescribeBase.Detail.{Detail}
use Rattle.iox_domain.specs.DescribeSettings.declared.static_config.Settings.{Settings}
use Rattle.iox_domain.specs.declared.domain.Domain.{Domain}
use Rattle.iox_domain.specs.Fitting.{Fits}
use Rattle.iox_hub_base.specs.ServicesAsHome.{ports_at}
use Rattle.iox_hub_base.specs.Open.{OpenServices, AreOwn, presence_of, domain_of, with_domain}
use Rattle.iox_hub_base.specs.ServicesOpening.{is_open, Opens}
use Rattle.iox_hub_base.specs.Taking.{Takes, IsAwaited, Puts}
use Rattle.iox_hub_base.specs.declared.taking.DomainIsForeign.{DomainIsForeign}
use Rattle.iox_hub_base.specs.declared.taking.TakeError.{TakeError}
use Rattle.iox_hub_base.specs.declared.taking.TakeError.TheVariants.{DomainIsOut}

-- The services of the other numbers are as they were, in the same hub.
abbrev pub OthersStay : {T U B D : Type 0} → ℕ → OpenServices T U B D → OpenServices T U B D → Type 0
OthersStay number old new = (new.hub ≡ old.hub)
    × ((other : ℕ) → (number ≡ other → ⊥) → presence_of other new.domains ≡ presence_of other old.domains)

-- If the settings fit, a service that was opened is open, with the domain that it had if it was open before. The other services stay.
abbrev pub OpenedIsFound : (T U B D : Type 0) → Type 0
OpenedIsFound T U B D =
    (payload user_header : Detail) (buffer number : ℕ) (settings : Settings) (old new : OpenServices T U B D)
    → Opens payload user_header buffer number settings old (Ok tt) new → Fits payload user_header settings
    → (is_open number new ≡ true) × (is_open number old ≡ true → presence_of number new.domains ≡ presence_of number old.domains)
    × OthersStay number old new

-- The domain has this hub's and this service's id, no port and no handler.
abbrev pub IsBlank : {T U B D : Type 0} → ℕ → ℕ → Domain T U B D → Type 0
IsBlank hub number domain =
    (domain.id ≡ record { hub = hub; service = number }) × (domain.state.ports.service ≡ number) × (domain.state.ports.publishers ≡ [])
    × (domain.state.ports.subscribers ≡ []) × (domain.state.publisher_handlers ≡ []) × (domain.state.subscriber_handlers ≡ [])

-- A service that opens where nothing was open under its number has a blank domain, whatever was open there earlier.
abbrev pub BeginsAnew : (T U B D : Type 0) → Type 0
BeginsAnew T U B D =
    (payload user_header : Detail) (buffer number : ℕ) (settings : Settings) (old new : OpenServices T U B D)
    → presence_of number old.domains ≡ None → Opens payload user_header buffer number settings old (Ok tt) new
    → Fits payload user_header settings
    → (domain : Domain T U B D) × (domain_of number new.domains ≡ Some domain) × IsBlank old.hub number domain

-- A domain that is taken and put back is accepted, and all is as it was before. While it is out, its service is open, its ports can't be
-- borrowed, and it can't be taken again. The other services stay.
abbrev pub GivesBack : (T U B D : Type 0) → Type 0
GivesBack T U B D =
    (number : ℕ) (old between new : OpenServices T U B D) (domain : Domain T U B D)
    (answer : Result (Unit {0}) (DomainIsForeign (Domain T U B D))) → AreOwn old.hub old.domains
    → Takes number old (Ok domain) between → Puts domain between answer new
    → (answer ≡ Ok tt) × (new ≡ old) × (is_open number between ≡ true)
    × (ports_at (record { hub = old.hub; service = number }) between ≡ None) × OthersStay number old between
    × ((again : Result (Domain T U B D) TakeError) (after : OpenServices T U B D) → Takes number between again after
    → (again ≡ Err DomainIsOut) × (after ≡ between))

-- A domain that was taken is awaited as long as its id and its agreement stay as they were, whatever else of it changes. When it is put
-- back it is accepted, and all is as it was before, except that the domain is the changed one.
abbrev pub ChangedIsPutBack : (T U B D : Type 0) → Type 0
ChangedIsPutBack T U B D =
    (number : ℕ) (old between : OpenServices T U B D) (domain changed : Domain T U B D)
    → domain.id ≡ record { hub = old.hub; service = number } → changed.id ≡ domain.id → changed.agreed ≡ domain.agreed
    → Takes number old (Ok domain) between
    → IsAwaited changed between
    × ((answer : Result (Unit {0}) (DomainIsForeign (Domain T U B D))) (new : OpenServices T U B D) → Puts changed between answer new
    → (answer ≡ Ok tt) × (new ≡ record old { domains = with_domain number old.domains changed }))
