-- The state of a domain that the calls of its ports change: the ports, and their handlers.
use Rattle.std.specs.Prelude.{ℕ, Option, None, Some}
use Rattle.std.specs.Option.{option_map}
use Rattle.iox_domain.specs.declared.ports.service_ports.ServicePorts.{ServicePorts}
use Rattle.iox_domain.specs.Kept.{kept_under, kept, forgotten}
use Rattle.iox_domain.specs.declared.state.DomainState.{DomainState}

-- The state with these ports, and otherwise unchanged.
abbrev pub with_ports : {T U B D : Type 0} → ServicePorts T U → DomainState T U B D → DomainState T U B D
with_ports ports domain = record domain { ports = ports }

-- The ports of a domain, if the home contains it.
abbrev pub ports_in : {T U B D : Type 0} → Option (DomainState T U B D) → Option (ServicePorts T U)
ports_in found = option_map (λ domain. domain.ports) found

-- The state in which these handlers are stored for the publisher.
abbrev pub publisher_kept : {T U B D : Type 0} → ℕ → B → DomainState T U B D → DomainState T U B D
publisher_kept number handlers domain = record domain { publisher_handlers = kept number handlers domain.publisher_handlers }

-- The state in which this handler is stored for the subscriber.
abbrev pub subscriber_kept : {T U B D : Type 0} → ℕ → D → DomainState T U B D → DomainState T U B D
subscriber_kept number handler domain = record domain { subscriber_handlers = kept number handler domain.subscriber_handlers }

-- The state in which no handlers are stored any longer for the publisher.
abbrev pub publisher_forgotten : {T U B D : Type 0} → ℕ → DomainState T U B D → DomainState T U B D
publisher_forgotten number domain = record domain { publisher_handlers = forgotten number domain.publisher_handlers }

-- The state in which no handler is stored any longer for the subscriber.
abbrev pub subscriber_forgotten : {T U B D : Type 0} → ℕ → DomainState T U B D → DomainState T U B D
subscriber_forgotten number domain = record domain { subscriber_handlers = forgotten number domain.subscriber_handlers }

-- The handlers that are stored for the publisher of a domain, if the home contains that.
abbrev pub publisher_handlers_in : {T U B D : Type 0} → ℕ → Option (DomainState T U B D) → Option B
publisher_handlers_in number None = None
publisher_handlers_in number (Some domain) = kept_under number domain.publisher_handlers

-- The handler that is stored for the subscriber of a domain, if the home contains that.
abbrev pub subscriber_handler_in : {T U B D : Type 0} → ℕ → Option (DomainState T U B D) → Option D
subscriber_handler_in number None = None
subscriber_handler_in number (Some domain) = kept_under number domain.subscriber_handlers
