-- What a home has under the ids of domains: `domain_of` is the state of a domain, and `changed` is one step of that state.
use Rattle.std.specs.Prelude.{ℕ, Option}
use Rattle.iox_domain.specs.declared.domain_id.DomainId.{DomainId}
use Rattle.iox_domain.specs.declared.ports.service_ports.ServicePorts.{ServicePorts}
use Rattle.iox_domain.specs.DomainValues.declared.backpressure.BackpressureDecision.{BackpressureDecision}
use Rattle.iox_domain.specs.DomainValues.declared.backpressure.BackpressureInfo.{BackpressureInfo}
use Rattle.iox_domain.specs.DomainValues.declared.degradation.DegradationAction.{DegradationAction}
use Rattle.iox_domain.specs.DomainValues.declared.degradation.DegradationCause.{DegradationCause}
use Rattle.iox_domain.specs.DomainValues.declared.degradation.DegradationInfo.{DegradationInfo}
use Rattle.iox_domain.specs.Handling.{kept_degrades, kept_decides}
use Rattle.iox_domain.specs.States as state
use Rattle.iox_domain.specs.declared.state.DomainState.{DomainState}

module _ {T U B D H : Type 0} where
  -- The ports of the domain with this id, if the home contains it.
  abbrev pub ports_of : (DomainId → H → Option (DomainState T U B D)) → DomainId → H → Option (ServicePorts T U)
  ports_of domain_of id home = state.ports_in (domain_of id home)

  -- The home with these ports in the domain with this id, if the home contains it.
  abbrev pub with_ports : (DomainId → (DomainState T U B D → DomainState T U B D) → H → H) → DomainId → ServicePorts T U → H → H
  with_ports changed id ports home = changed id (state.with_ports ports) home

  -- The home in which these handlers are stored for a publisher of a domain.
  abbrev pub with_publisher : (DomainId → (DomainState T U B D → DomainState T U B D) → H → H) → DomainId → ℕ → B → H → H
  with_publisher changed id number handlers home = changed id (state.publisher_kept number handlers) home

  -- The home in which this handler is stored for a subscriber of a domain.
  abbrev pub with_subscriber : (DomainId → (DomainState T U B D → DomainState T U B D) → H → H) → DomainId → ℕ → D → H → H
  with_subscriber changed id number handler home = changed id (state.subscriber_kept number handler) home

  -- The home in which no handlers are stored any longer for a publisher of a domain.
  abbrev pub without_publisher : (DomainId → (DomainState T U B D → DomainState T U B D) → H → H) → DomainId → ℕ → H → H
  without_publisher changed id number home = changed id (state.publisher_forgotten number) home

  -- The home in which no handler is stored any longer for a subscriber of a domain.
  abbrev pub without_subscriber : (DomainId → (DomainState T U B D → DomainState T U B D) → H → H) → DomainId → ℕ → H → H
  without_subscriber changed id number home = changed id (state.subscriber_forgotten number) home

  -- What may be answered if a connection of this publisher failed.
  abbrev pub publisher_degrades : (B → DegradationCause → DegradationInfo → DegradationAction → Type 0)
      → (DomainId → H → Option (DomainState T U B D)) → DomainId → ℕ → H → DegradationInfo → DegradationAction → Type 0
  publisher_degrades degrades domain_of id number home = kept_degrades degrades (state.publisher_handlers_in number (domain_of id home))

  -- What may be decided at a full mailbox of this publisher.
  abbrev pub publisher_decides : (B → BackpressureInfo → BackpressureDecision → Type 0) → (DomainId → H → Option (DomainState T U B D))
      → DomainId → ℕ → H → BackpressureInfo → BackpressureDecision → Type 0
  publisher_decides decides domain_of id number home = kept_decides decides (state.publisher_handlers_in number (domain_of id home))

  -- What may be answered if a connection of this subscriber failed.
  abbrev pub subscriber_degrades : (D → DegradationCause → DegradationInfo → DegradationAction → Type 0)
      → (DomainId → H → Option (DomainState T U B D)) → DomainId → ℕ → H → DegradationInfo → DegradationAction → Type 0
  subscriber_degrades degrades domain_of id number home = kept_degrades degrades (state.subscriber_handler_in number (domain_of id home))
