-- Each service has one agreement: its factories carry it, and its domain has its settings.
use Rattle.std.specs.Prelude.{ℕ, ◌≡◌, List}
use Rattle.std.specs.List.{AllByRecursion}
use Rattle.iox_delivery.specs.DescribeSettings.Agreement.{Agreement}
use Rattle.iox_delivery.specs.DescribeSettings.declared.static_config.Settings.TheVariants.{PublishSubscribe}
use Rattle.iox_delivery.specs.DescribeSettings.declared.static_config.publish_subscribe.StaticConfig.{StaticConfig}
use Rattle.iox_hub_base.specs.declared.hub.Hub.{Hub}
use Rattle.iox_hub_base.specs.declared.presence.Presence.{Presence}
use Rattle.iox_hub_base.specs.declared.presence.Presence.TheVariants.{Here, Out}
use Rattle.iox_hub_commands.specs.ServicesTables.{FactoryTable, parts_of}
use Rattle.iox_negotiate.specs.Agreements.{WasAgreed}
use Rattle.iox_negotiate.specs.Histories.{IsReached}

-- The settings of a domain, which is in the hub or out.
abbrev pub agreed_in : {T U B D : Type 0} → Presence T U B D → StaticConfig
agreed_in (Here domain) = domain.agreed
agreed_in (Out agreed) = agreed

-- `P` holds of each service's number and the settings of its domain.
abbrev pub HoldsOfDomains : {T U B D : Type 0} → (ℕ → StaticConfig → Type 0) → List (ℕ × Presence T U B D) → Type 0
HoldsOfDomains P domains = AllByRecursion (λ service. P service.0 (agreed_in service.1)) domains

-- `P` holds of the number of each factory's service and the agreement that the factory carries.
abbrev pub HoldsOfFactories : (ℕ → Agreement → Type 0) → FactoryTable → Type 0
HoldsOfFactories P table = AllByRecursion
    (λ factory. P (parts_of factory.1).0.service.number (parts_of factory.1).0.service.description) table.entries

-- This is the agreement of the service with this number: it was published under the number, each factory of the service carries exactly
-- this agreement, and the service's domain, if it has one, has exactly its settings.
pub record IsAgreement {T U B D : Type 0} (number : ℕ) (agreed : Agreement) (made : FactoryTable) (hub : Hub T U B D) : Type 0 where
  pub was : WasAgreed number agreed hub.table
  pub carried : HoldsOfFactories (λ other carries. other ≡ number → carries ≡ agreed) made
  pub served : HoldsOfDomains (λ other config. other ≡ number → agreed.settings ≡ PublishSubscribe config) hub.services.domains

-- Each factory carries the agreement of its service, and each domain has the settings of its service's agreement. The table of services
-- became what it is by storage operations and actions of other nodes.
pub record AreOfOneAgreement {T U B D : Type 0} (made : FactoryTable) (hub : Hub T U B D) : Type 0 where
  pub is_reached : IsReached hub.table
  pub of_factories : HoldsOfFactories (λ number agreed. IsAgreement number agreed made hub) made
  pub of_domains : HoldsOfDomains (λ number config. (agreed : Agreement) × IsAgreement number agreed made hub
      × (agreed.settings ≡ PublishSubscribe config)) hub.services.domains
