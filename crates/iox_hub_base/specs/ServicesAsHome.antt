-- The services of a hub as a home of domains.
use Rattle.std.specs.Prelude.{ℕ, ◌==◌, Option, None, Some, if◌then◌else◌}
use Rattle.std.specs.Option.{option_map}
use Rattle.iox_domain.specs.Domains.{in_state}
use Rattle.iox_domain.specs.Homes as homes
use Rattle.iox_domain.specs.States as state
use Rattle.iox_domain.specs.declared.domain.Domain.{Domain}
use Rattle.iox_domain.specs.declared.state.DomainState.{DomainState}
use Rattle.iox_domain.specs.declared.domain_id.DomainId.{DomainId}
use Rattle.iox_domain.specs.declared.ports.service_ports.ServicePorts.{ServicePorts}
use Rattle.iox_hub_base.specs.Open.{OpenServices, domain_of, with_domain}

-- The domain with this id, if the id is of this hub and the domain is in the hub.
abbrev pub domain_at : {T U B D : Type 0} → DomainId → OpenServices T U B D → Option (Domain T U B D)
domain_at id services = if id.hub == services.hub then domain_of id.service services.domains else None

-- The state of a domain, if there is one.
abbrev pub state_if : {T U B D : Type 0} → Option (Domain T U B D) → Option (DomainState T U B D)
state_if found = option_map (λ domain. domain.state) found

-- The state of the domain with this id, if the domain is in the hub.
abbrev pub state_at : {T U B D : Type 0} → DomainId → OpenServices T U B D → Option (DomainState T U B D)
state_at id services = state_if (domain_at id services)

-- The ports of a domain, if there is one.
abbrev pub ports_if : {T U B D : Type 0} → Option (Domain T U B D) → Option (ServicePorts T U)
ports_if found = state.ports_in (state_if found)

-- The ports of the domain with this id, if the domain is in the hub.
abbrev pub ports_at : {T U B D : Type 0} → DomainId → OpenServices T U B D → Option (ServicePorts T U)
ports_at id services = ports_if (domain_at id services)

-- The services after one step of this domain, if there is one.
abbrev pub stepped_if : {T U B D : Type 0} → Option (Domain T U B D) → ℕ → (Domain T U B D → Domain T U B D) → OpenServices T U B D
    → OpenServices T U B D
stepped_if None number step services = services
stepped_if (Some domain) number step services = record services { domains = with_domain number services.domains (step domain) }

-- The services after one step of the domain with this id, if the domain is in the hub.
abbrev pub stepped : {T U B D : Type 0} → DomainId → (Domain T U B D → Domain T U B D) → OpenServices T U B D → OpenServices T U B D
stepped id step services = stepped_if (domain_at id services) id.service step services

-- The services after one step of the state of the domain with this id, if the domain is in the hub.
abbrev pub changed_at : {T U B D : Type 0} → DomainId → (DomainState T U B D → DomainState T U B D) → OpenServices T U B D
    → OpenServices T U B D
changed_at id step services = stepped id (in_state step) services

-- The services with other ports in the domain with this id, if the domain is in the hub.
abbrev pub with_ports_at : {T U B D : Type 0} → DomainId → ServicePorts T U → OpenServices T U B D → OpenServices T U B D
with_ports_at id ports services = homes.with_ports changed_at id ports services

-- The domain with these handlers for a publisher.
abbrev pub publisher_kept : {T U B D : Type 0} → ℕ → B → Domain T U B D → Domain T U B D
publisher_kept number handlers domain = in_state (state.publisher_kept number handlers) domain

-- The domain with this handler for a subscriber.
abbrev pub subscriber_kept : {T U B D : Type 0} → ℕ → D → Domain T U B D → Domain T U B D
subscriber_kept number handler domain = in_state (state.subscriber_kept number handler) domain

-- The domain without handlers for this publisher.
abbrev pub publisher_forgotten : {T U B D : Type 0} → ℕ → Domain T U B D → Domain T U B D
publisher_forgotten number domain = in_state (state.publisher_forgotten number) domain

-- The domain without a handler for this subscriber.
abbrev pub subscriber_forgotten : {T U B D : Type 0} → ℕ → Domain T U B D → Domain T U B D
subscriber_forgotten number domain = in_state (state.subscriber_forgotten number) domain

-- The handlers of a publisher of this domain, if the domain is in the hub and the publisher has handlers.
abbrev pub publisher_handlers_in : {T U B D : Type 0} → ℕ → Option (Domain T U B D) → Option B
publisher_handlers_in number found = state.publisher_handlers_in number (state_if found)

-- The handler of a subscriber of this domain, if the domain is in the hub and the subscriber has one.
abbrev pub subscriber_handler_in : {T U B D : Type 0} → ℕ → Option (Domain T U B D) → Option D
subscriber_handler_in number found = state.subscriber_handler_in number (state_if found)
