-- Which state of the machine a hub represents: its nodes, the table of its services, its factories, and its open services with their ports.
use Rattle.std.specs.Prelude.{ℕ, ◌+◌, ◌≡◌, true, List, [], ◌∷◌, map, Some}
use Rattle.std.specs.List.{IsAmong}
use Rattle.iox_command.specs.DomainValues.declared.backpressure.BackpressureDecision.{BackpressureDecision}
use Rattle.iox_command.specs.DomainValues.declared.backpressure.BackpressureInfo.{BackpressureInfo}
use Rattle.iox_command.specs.DomainValues.declared.degradation.DegradationAction.{DegradationAction}
use Rattle.iox_command.specs.DomainValues.declared.degradation.DegradationCause.{DegradationCause}
use Rattle.iox_command.specs.DomainValues.declared.degradation.DegradationInfo.{DegradationInfo}
use Rattle.iox_command.specs.NegotiateBase.DescribeBase.declared.pattern.MessagingPattern.{MessagingPattern}
use Rattle.iox_command.specs.NegotiateBase.DescribeBase.declared.pattern.MessagingPattern.TheVariants.{PublishSubscribe}
use Rattle.iox_command.specs.NegotiateBase.DescribeSettings.declared.static_config.Settings.TheVariants as settings
use Rattle.iox_container.specs.NumberTable.{value_at}
use Rattle.iox_domain.specs.Tries.{how_often}
use Rattle.iox_domain.specs.declared.domain.Domain.{Domain}
use Rattle.iox_domain.specs.declared.ports.service_ports.ServicePorts.{ServicePorts}
use Rattle.iox_domain_machine.specs.Naming.{Naming}
use Rattle.iox_hub_base.specs.Hubs.{factories_of}
use Rattle.iox_hub_base.specs.Open.{OpenServices, domain_of}
use Rattle.iox_hub_base.specs.ServicesOpening.{is_open}
use Rattle.iox_hub_commands.specs.AgreementLaws.{service_of, carried_by}
use Rattle.iox_hub_commands.specs.ServicesTables.{FactoryTable, parts_of, pattern_in}
use Rattle.iox_hub_commands.specs.declared.numbered_hub.NumberedHub.{NumberedHub}
use Rattle.iox_hub_commands.specs.declared.services.made.MadeFactory.{MadeFactory}
use Rattle.iox_hub_machine.specs.Seats.{seats_in, seats_for, factories_of_node}
use Rattle.iox_hub_machine.specs.Standing.{PortsStandFor}
use Rattle.iox_machine.specs.Choices.{Choices}
use Rattle.iox_machine.specs.Service.{Service}
use Rattle.iox_machine.specs.State.{State, Factory}
use Rattle.iox_negotiate_machine.specs.CallLaws.{IsServiceIn}
use Rattle.iox_negotiate_machine.specs.Standing.{TableStands}
use Rattle.iox_negotiate_table.specs.Contents.{Contents}

-- A factory of a hub, as the machine has it: the pattern and name of its service, and its node.
abbrev pub factory_as : MadeFactory → Factory
factory_as made = record { pattern = pattern_in made; name = (carried_by made).name; node = (parts_of made).0.node }

-- The factories of a hub by their numbers, as the machine has them.
abbrev pub factories_as : FactoryTable → List (ℕ × Factory)
factories_as table = map (λ entry. (entry.0, factory_as entry.1)) table.entries

-- The numbers of the factories' services, once for each factory.
abbrev pub services_in : FactoryTable → List ℕ
services_in table = map (λ entry. service_of entry.1) table.entries

-- A factory of a hub has its own number, and belongs to the hub's table. Its service has a name that is asked for, and is published under
-- the number that was taken last for it, with the description that the factory carries. The factory's node is in the service.
pub record FactoryStands {T : Type 0} (names : List (List ℕ)) (taken : MessagingPattern → List ℕ → List ℕ) (table : Contents)
    (state : State T) (number : ℕ) (made : MadeFactory) : Type 0 where
  pub asked : IsAmong names (carried_by made).name
  pub owner : (parts_of made).1 ≡ number
  pub storage : (parts_of made).0.storage ≡ table.id
  pub serves : IsServiceIn (parts_of made).0.node (pattern_in made) (carried_by made).name
      (state.phases (pattern_in made) (carried_by made).name) (taken (pattern_in made) (carried_by made).name)
      (parts_of made).0.service

module _ {T U B D : Type 0} where
  -- A domain of a hub and a service of the machine are of the same service: some publish-subscribe factory of the hub is of this domain,
  -- and carries the name and the settings of this service; the domain has the same settings.
  pub record IsServedBy (table : FactoryTable) (services : OpenServices T U B D) (number : ℕ) (service : Service T) : Type 0 where
    pub factory : ℕ
    pub made : MadeFactory
    pub found : value_at table factory ≡ Some made
    pub pattern : pattern_in made ≡ PublishSubscribe
    pub number_is : service_of made ≡ number
    pub name : service.name ≡ (carried_by made).name
    pub carried : (carried_by made).settings ≡ settings.PublishSubscribe service.settings
    pub agreed : (domain : Domain T U B D) → domain_of number services.domains ≡ Some domain → domain.agreed ≡ service.settings

  -- Each domain belongs to the same service as the machine's service at the same place of the list.
  abbrev pub AreServedInTurn : FactoryTable → OpenServices T U B D → List (ℕ × ServicePorts T U) → List (Service T) → Type 0
  AreServedInTurn table hub [] services = services ≡ []
  AreServedInTurn table hub (domain ∷ domains) [] = ⊥
  AreServedInTurn table hub (domain ∷ domains) (service ∷ services) =
      IsServedBy table hub domain.0 service × AreServedInTurn table hub domains services

  -- The factories of a hub are those of the machine.
  pub record FactoriesStandFor (names : List (List ℕ)) (taken : MessagingPattern → List ℕ → List ℕ) (hub : NumberedHub T U B D)
      (state : State T) : Type 0 where
    -- As many factories were made as the machine counts, both by the numbers of commands and by the hub's own numbers.
    pub numbers : hub.factories.made.next ≡ state.made.factories + 1
    pub owners : hub.hub.factories ≡ state.made.factories
    -- The same factories have numbers, each of an existing service.
    pub same : state.factories ≡ factories_as hub.factories.made
    pub each : (number : ℕ) (made : MadeFactory) → value_at hub.factories.made number ≡ Some made
        → FactoryStands names taken hub.hub.table state number made
    -- In each service, the machine counts for a node of the hub exactly the factories that the node has of this service.
    pub seats : (pattern : MessagingPattern) (name : List ℕ) (node : ℕ) → IsAmong names name
        → seats_in node (state.phases pattern name) ≡ seats_for (factories_of_node pattern name node state.factories)
    -- The hub counts how many factories each service has.
    pub counts : (service : ℕ) → factories_of service hub.hub.factory_counts ≡ how_often service (services_in hub.factories.made)
    -- The service of a publish-subscribe factory is open.
    pub opened : (number : ℕ) (made : MadeFactory) → value_at hub.factories.made number ≡ Some made → pattern_in made ≡ PublishSubscribe
        → is_open (service_of made) hub.hub.services ≡ true

  -- A hub represents a state of the machine, for the names that are asked for: the nodes, the phases of all services with these names, the
  -- factories, and the open publish-subscribe services with their ports are the same. The arguments are the choices, the numbers that were
  -- taken for the services of each name, what handlers of ports may answer, the names that the machine has for the ports of each service,
  -- and the order of its services.
  pub record HubStandsFor (choices : Choices T) (degrades : B → DegradationCause → DegradationInfo → DegradationAction → Type 0)
      (decides : B → BackpressureInfo → BackpressureDecision → Type 0)
      (reader_degrades : D → DegradationCause → DegradationInfo → DegradationAction → Type 0)
      (names : List (List ℕ)) (taken : MessagingPattern → List ℕ → List ℕ) (naming : ℕ → Naming)
      (order : List (ℕ × ServicePorts T U)) (hub : NumberedHub T U B D) (state : State T) : Type 0 where
    pub nodes : hub.hub.nodes ≡ state.made.nodes
    pub table : TableStands names taken hub.hub.table state
    pub id : hub.hub.services.hub ≡ hub.hub.table.id
    pub factories : FactoriesStandFor names taken hub state
    pub served : AreServedInTurn hub.factories.made hub.hub.services order state.services
    pub ports : PortsStandFor choices degrades decides reader_degrades naming order hub state
