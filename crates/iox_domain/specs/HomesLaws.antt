-- A theorem about every home.
use Rattle.std.specs.Prelude.{ℕ, ◌≡◌, Option}
use Rattle.iox_domain.specs.declared.domain_id.DomainId.{DomainId}
use Rattle.iox_domain.specs.declared.ports.service_ports.ServicePorts.{ServicePorts}
use Rattle.iox_domain.specs.Homes.{ports_of, with_ports, with_publisher, with_subscriber, without_publisher, without_subscriber}
use Rattle.iox_domain.specs.States.{publisher_handlers_in, subscriber_handler_in}
use Rattle.iox_domain.specs.declared.state.DomainState.{DomainState}

-- Storing and removing a port's handlers changes the ports of no domain, and other ports in one domain change no stored
-- handlers.
pub record AreApart {T U B D H : Type 0} (domain_of : DomainId → H → Option (DomainState T U B D)) (changed : DomainId
    → (DomainState T U B D → DomainState T U B D) → H → H) : Type 0 where
  pub ports_with_publisher : (id other : DomainId) (number : ℕ) (handlers : B) (home : H)
      → ports_of domain_of other (with_publisher changed id number handlers home) ≡ ports_of domain_of other home
  pub ports_with_subscriber : (id other : DomainId) (number : ℕ) (handler : D) (home : H)
      → ports_of domain_of other (with_subscriber changed id number handler home) ≡ ports_of domain_of other home
  pub ports_without_publisher : (id other : DomainId) (number : ℕ) (home : H)
      → ports_of domain_of other (without_publisher changed id number home) ≡ ports_of domain_of other home
  pub ports_without_subscriber : (id other : DomainId) (number : ℕ) (home : H)
      → ports_of domain_of other (without_subscriber changed id number home) ≡ ports_of domain_of other home
  pub same_publisher : (id other : DomainId) (number : ℕ) (ports : ServicePorts T U) (home : H)
      → publisher_handlers_in number (domain_of other (with_ports changed id ports home))
      ≡ publisher_handlers_in number (domain_of other home)
  pub same_subscriber : (id other : DomainId) (number : ℕ) (ports : ServicePorts T U) (home : H)
      → subscriber_handler_in number (domain_of other (with_ports changed id ports home))
      ≡ subscriber_handler_in number (domain_of other home)
