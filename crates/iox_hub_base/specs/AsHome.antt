-- A hub as the home of the domains of its services.
use Rattle.std.specs.Prelude.{ℕ, Option}
use Rattle.iox_delivery_factories.specs.Domain.Homes as homes
use Rattle.iox_delivery_factories.specs.Domain.declared.state.DomainState.{DomainState}
use Rattle.iox_delivery_factories.specs.Domain.declared.domain_id.DomainId.{DomainId}
use Rattle.iox_delivery_factories.specs.Domain.declared.ports.service_ports.ServicePorts.{ServicePorts}
use Rattle.iox_hub_base.specs.ServicesAsHome.{state_at, changed_at}
use Rattle.iox_hub_base.specs.Open.{OpenServices}
use Rattle.iox_hub_base.specs.declared.hub.Hub.{Hub}

-- The hub with other services; all else is as it was.
abbrev pub with_services : {T U B D : Type 0} → Hub T U B D → OpenServices T U B D → Hub T U B D
with_services hub services = record hub { services = services }

-- The state of the domain with this id: its ports and their handlers. None if the domain isn't in the hub.
abbrev pub hub_state : {T U B D : Type 0} → DomainId → Hub T U B D → Option (DomainState T U B D)
hub_state id hub = state_at id hub.services

-- The hub after one step of the state of the domain with this id; nothing changes if the domain isn't in the hub.
abbrev pub hub_changed : {T U B D : Type 0} → DomainId → (DomainState T U B D → DomainState T U B D) → Hub T U B D → Hub T U B D
hub_changed id step hub = with_services hub (changed_at id step hub.services)

-- The ports of the domain with this id, if the domain is in the hub.
abbrev pub hub_ports : {T U B D : Type 0} → DomainId → Hub T U B D → Option (ServicePorts T U)
hub_ports id hub = homes.ports_of hub_state id hub

-- The hub with other ports in the domain with this id, if the domain is in the hub.
abbrev pub with_hub_ports : {T U B D : Type 0} → DomainId → ServicePorts T U → Hub T U B D → Hub T U B D
with_hub_ports id ports hub = homes.with_ports hub_changed id ports hub

-- The hub with these handlers for a publisher of the domain with this id.
abbrev pub with_hub_publisher : {T U B D : Type 0} → DomainId → ℕ → B → Hub T U B D → Hub T U B D
with_hub_publisher id number handlers hub = homes.with_publisher hub_changed id number handlers hub

-- The hub with this handler for a subscriber of the domain with this id.
abbrev pub with_hub_subscriber : {T U B D : Type 0} → DomainId → ℕ → D → Hub T U B D → Hub T U B D
with_hub_subscriber id number handler hub = homes.with_subscriber hub_changed id number handler hub

-- The hub without handlers for a publisher of the domain with this id.
abbrev pub without_hub_publisher : {T U B D : Type 0} → DomainId → ℕ → Hub T U B D → Hub T U B D
without_hub_publisher id number hub = homes.without_publisher hub_changed id number hub

-- The hub without a handler for a subscriber of the domain with this id.
abbrev pub without_hub_subscriber : {T U B D : Type 0} → DomainId → ℕ → Hub T U B D → Hub T U B D
without_hub_subscriber id number hub = homes.without_subscriber hub_changed id number hub
