-- The ports of a service.
use Rattle.std.specs.Prelude.{ℕ, ◌≡◌, List, [], Option, None, Some}
use Rattle.iox_domain_ports.specs.DomainValues.declared.service_sizes.ServiceSizes.{ServiceSizes}
use Rattle.iox_domain_ports.specs.declared.publisher_port.PublisherPort.{PublisherPort}
use Rattle.iox_domain_ports.specs.Publishers.{with_port}
use Rattle.iox_domain_ports.specs.Publishers as publishers
use Rattle.iox_domain_ports.specs.declared.subscriber_port.SubscriberPort.{SubscriberPort}
use Rattle.iox_domain.specs.Rolls.{new_roll}
use Rattle.iox_domain.specs.Subscribers.{with_subscriber}
use Rattle.iox_domain.specs.declared.ports.service_ports.ServicePorts.{ServicePorts}

-- A service without ports; its first port gets number 1.
abbrev pub no_ports : {T U : Type 0} → ℕ → ServiceSizes → ServicePorts T U
no_ports service sizes = record {
  service = service;
  sizes = sizes;
  next_port = 1;
  publisher_list = new_roll sizes.max_publishers;
  subscriber_list = new_roll sizes.max_subscribers;
  publishers = [];
  subscribers = [];
}

-- The ports with this publisher under its number, which is removed if it is over.
abbrev pub with_publisher : {T U : Type 0} → ℕ → PublisherPort T U → ServicePorts T U → ServicePorts T U
with_publisher number port ports = record ports { publishers = publishers.settled number (with_port number ports.publishers port) }

-- The ports with this subscriber under its number, and these publishers.
abbrev pub with_both : {T U : Type 0} → ℕ → SubscriberPort → List (ℕ × PublisherPort T U) → ServicePorts T U → ServicePorts T U
with_both number port publishers_after ports
    = record ports { subscribers = with_subscriber number ports.subscribers port; publishers = publishers_after }

-- What a call answers and changes at a publisher: if there is no publisher, or the call answers None, nothing changes.
abbrev pub AtPublisher : {T U A : Type 0} → ℕ → (PublisherPort T U → Option A → PublisherPort T U → Type 0) → Option (PublisherPort T U)
    → ServicePorts T U → Option A → ServicePorts T U → Type 0
AtPublisher number step None old answer new = (answer ≡ None) × (new ≡ old)
AtPublisher {T} {U} number step (Some port) old None new = (after : PublisherPort T U) × step port None after × (new ≡ old)
AtPublisher {T} {U} number step (Some port) old (Some value) new = (after : PublisherPort T U) × step port (Some value) after
    × (new ≡ with_publisher number after old)

-- What a call answers and changes at a subscriber, and at the publishers: if there is no subscriber, or the call answers None,
-- nothing changes.
abbrev pub AtSubscriber : {T U A : Type 0} → ℕ
    → (SubscriberPort → List (ℕ × PublisherPort T U) → Option A → SubscriberPort → List (ℕ × PublisherPort T U) → Type 0)
    → Option SubscriberPort → ServicePorts T U → Option A → ServicePorts T U → Type 0
AtSubscriber number step None old answer new = (answer ≡ None) × (new ≡ old)
AtSubscriber {T} {U} number step (Some port) old None new =
    (after : SubscriberPort) × (publishers_after : List (ℕ × PublisherPort T U)) × step port old.publishers None after publishers_after
    × (new ≡ old)
AtSubscriber {T} {U} number step (Some port) old (Some value) new =
    (after : SubscriberPort) × (publishers_after : List (ℕ × PublisherPort T U))
    × step port old.publishers (Some value) after publishers_after × (new ≡ with_both number after publishers_after old)
