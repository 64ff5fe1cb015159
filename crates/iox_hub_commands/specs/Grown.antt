-- How the domains of a hub became what they are: by calls of ports, one after the other.
use Rattle.std.specs.Prelude.{ℕ, ◌≡◌, List, [], ◌∷◌}
use Rattle.std.specs.List.{All}
use Rattle.iox_delivery.specs.DescribeSettings.declared.static_config.publish_subscribe.StaticConfig.{StaticConfig}
use Rattle.iox_delivery.specs.Domain.declared.domain_id.DomainId.{DomainId}
use Rattle.iox_delivery.specs.Domain.Calls.{PortCall}
use Rattle.iox_delivery.specs.Domain.Order.{Happen}
use Rattle.iox_delivery.specs.Domain.SizeLaws.{MadeFor, IsMadeFor}
use Rattle.iox_delivery.specs.Domain.Ports.{no_ports}
use Rattle.iox_delivery.specs.Domain.declared.ports.service_ports.ServicePorts.{ServicePorts}
use Rattle.iox_delivery.specs.Domain.Sizes.{sizes}
use Rattle.iox_command.specs.DomainValues.declared.backpressure.BackpressureDecision.{BackpressureDecision}
use Rattle.iox_command.specs.DomainValues.declared.backpressure.BackpressureInfo.{BackpressureInfo}
use Rattle.iox_command.specs.DomainValues.declared.degradation.DegradationAction.{DegradationAction}
use Rattle.iox_command.specs.DomainValues.declared.degradation.DegradationInfo.{DegradationInfo}
use Rattle.iox_hub_base.specs.declared.hub.Hub.{Hub}
use Rattle.iox_hub_base.specs.ServicesAsHome.{domain_at}
use Rattle.iox_hub_base.specs.declared.presence.Presence.{Presence}
use Rattle.iox_hub_base.specs.declared.presence.Presence.TheVariants.{Here, Out}

-- A publisher may have any number of slots.
abbrev pub AnySlots : ℕ → ℕ → Type 0
AnySlots needed given = Unit {0}

-- Any action may be answered at a failed connection.
abbrev pub AnyAction : DegradationInfo → DegradationAction → Type 0
AnyAction info action = Unit {0}

-- Anything may be decided at a full mailbox.
abbrev pub AnyDecision : BackpressureInfo → BackpressureDecision → Type 0
AnyDecision info decision = Unit {0}

-- Calls of ports, one after the other, lead from the first ports to the second, whatever handlers answered.
abbrev pub LeadsTo : {T U : Type 0} → ServicePorts T U → ServicePorts T U → Type 0
LeadsTo {T} {U} old new = (calls : List (PortCall T U × ServicePorts T U)) × Happen AnySlots AnyAction AnyDecision calls old new

-- The ports of a domain in the hub result, by calls of ports, from a service without ports, of its number and of the sizes in its
-- agreement.
abbrev pub HasGrown : {T U B D : Type 0} → ℕ → Presence T U B D → Type 0
HasGrown number (Here domain) = (expired_connection_buffer : ℕ)
    × LeadsTo (no_ports number (sizes expired_connection_buffer domain.agreed)) domain.state.ports
HasGrown number (Out agreed) = Unit {0}

-- The ports of each open service result from calls of ports (`HasGrown`).
abbrev pub HaveGrown : {T U B D : Type 0} → List (ℕ × Presence T U B D) → Type 0
HaveGrown [] = Unit {0}
HaveGrown (service ∷ services) = HasGrown service.0 service.1 × HaveGrown services

-- If the ports of all services resulted from calls of ports before, they still do afterwards.
abbrev pub GrowsOn : {T U B D : Type 0} → Hub T U B D → Hub T U B D → Type 0
GrowsOn old new = HaveGrown old.services.domains → HaveGrown new.services.domains

-- The domains of all other ids are as they were.
abbrev pub OthersStay : {T U B D : Type 0} → DomainId → Hub T U B D → Hub T U B D → Type 0
OthersStay id old new = (other : DomainId) → (id ≡ other → ⊥) → domain_at other new.services ≡ domain_at other old.services

-- At most one of the domains in the hub changes, is added or is removed; all others are as they were.
abbrev pub OneDomainMoves : {T U B D : Type 0} → Hub T U B D → Hub T U B D → Type 0
OneDomainMoves old new = (id : DomainId) × OthersStay id old new

-- What a service's settings say of its publishers and their connections.
abbrev pub agreed_on : StaticConfig → MadeFor
agreed_on agreed = record {
  overflows = agreed.enable_safe_overflow;
  history = agreed.history_size;
  most_waiting = agreed.subscriber_max_buffer_size;
  most_borrowed = agreed.subscriber_max_borrowed_samples;
  numbered = agreed.sequence_numbers;
}

-- Each publisher of a domain in the hub is made as the service's settings say.
abbrev pub IsAsAgreed : {T U B D : Type 0} → Presence T U B D → Type 0
IsAsAgreed (Here domain) = All (IsMadeFor (agreed_on domain.agreed)) domain.state.ports.publishers
IsAsAgreed (Out agreed) = Unit {0}

-- Each publisher of each open service is made as its service's settings say.
abbrev pub AreAsAgreed : {T U B D : Type 0} → List (ℕ × Presence T U B D) → Type 0
AreAsAgreed [] = Unit {0}
AreAsAgreed (service ∷ services) = IsAsAgreed service.1 × AreAsAgreed services
