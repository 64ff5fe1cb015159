-- What follows if each service has one agreement.
use Rattle.std.specs.Prelude.{ℕ, ◌≡◌, Some}
use Rattle.iox_delivery.specs.DescribeSettings.Agreement.{Agreement}
use Rattle.iox_delivery.specs.DescribeSettings.declared.static_config.Settings.TheVariants.{PublishSubscribe}
use Rattle.iox_hub_base.specs.declared.hub.Hub.{Hub}
use Rattle.iox_hub_base.specs.Open.{presence_of}
use Rattle.iox_hub_base.specs.declared.presence.Presence.{Presence}
use Rattle.iox_delivery.specs.Container.NumberTable.{value_at}
use Rattle.iox_hub_commands.specs.ServicesTables.{FactoryTable, parts_of}
use Rattle.iox_hub_commands.specs.declared.services.made.MadeFactory.{MadeFactory}
use Rattle.iox_hub_commands.specs.Agreements.{AreOfOneAgreement, agreed_in}

-- The number of the factory's service.
abbrev pub service_of : MadeFactory → ℕ
service_of made = (parts_of made).0.service.number

-- The agreement that the factory carries.
abbrev pub carried_by : MadeFactory → Agreement
carried_by made = (parts_of made).0.service.description

-- Factories of the same service carry the same agreement, whatever their numbers are.
abbrev pub FactoriesAgree : FactoryTable → Type 0
FactoriesAgree table = (one other : ℕ) (first second : MadeFactory) → value_at table one ≡ Some first → value_at table other ≡ Some second
    → service_of first ≡ service_of second → carried_by first ≡ carried_by second

-- The domain of a service, in the hub or out, has the settings that each factory of the service carries.
abbrev pub DomainsServe : {T U B D : Type 0} → FactoryTable → Hub T U B D → Type 0
DomainsServe {T} {U} {B} {D} table hub = (one : ℕ) (factory : MadeFactory) (presence : Presence T U B D) → value_at table one ≡ Some factory
    → presence_of (service_of factory) hub.services.domains ≡ Some presence
    → (carried_by factory).settings ≡ PublishSubscribe (agreed_in presence)

-- If each service has one agreement, its factories agree, and its domain has their settings.
abbrev pub AgreementIsOne : Type 0 → Type 0 → Type 0 → Type 0 → Type 0
AgreementIsOne T U B D = (table : FactoryTable) (hub : Hub T U B D) → AreOfOneAgreement table hub → FactoriesAgree table
    × DomainsServe table hub
