-- Which service of the machine the ports of a domain represent.
use Rattle.std.specs.Prelude.{ℕ, ◌≡◌, ◌≤◌, true, false, List, get_or, is_some, Option, None, Some}
use Rattle.std.specs.Map.{keys_of}
use Rattle.iox_domain.specs.Container.declared.container.Member.{Member}
use Rattle.iox_domain.specs.DomainPorts.Publishers.{port_of}
use Rattle.iox_domain.specs.DomainPorts.declared.attached.Taken.{Taken}
use Rattle.iox_domain.specs.DomainPorts.declared.publisher_entry.PublisherEntry.{PublisherEntry}
use Rattle.iox_domain.specs.DomainPorts.declared.publisher_port.PublisherPort.{PublisherPort}
use Rattle.iox_domain.specs.DomainPorts.declared.subscriber_entry.SubscriberEntry.{SubscriberEntry}
use Rattle.iox_domain.specs.DomainPorts.declared.subscriber_port.SubscriberPort.{SubscriberPort}
use Rattle.iox_domain.specs.Sizes.{sizes}
use Rattle.iox_domain.specs.Subscribers.{subscriber_of}
use Rattle.iox_domain.specs.Tries.{how_often}
use Rattle.iox_domain.specs.declared.ports.service_ports.ServicePorts.{ServicePorts}
use Rattle.iox_domain_machine.specs.Mailboxes.{MailboxesStandFor, IsKeyed}
use Rattle.iox_domain_machine.specs.Naming.{Naming, NamesPorts, list_as}
use Rattle.iox_domain_machine.specs.Publishers.{PublisherStandsFor}
use Rattle.iox_domain_machine.specs.Subscribers.{SubscriberStandsFor}
use Rattle.iox_domain_machine.specs.Tables.{LentSlot, LoansStandFor, SamplesStandFor}
use Rattle.iox_machine.specs.Service.{Publisher, Subscriber, Service}
use Rattle.iox_machine.specs.Table.{at}

-- The publisher with this number in a domain represents the machine's publisher under its name, with its mailboxes.
abbrev pub PublisherIs : {T U : Type 0} → Naming → ServicePorts T U → Service T → ℕ → PublisherPort T U → Type 0
PublisherIs {T} names ports service number port =
    (publisher : Publisher T) × (at (names.publisher number) service.publishers ≡ Some publisher)
    × PublisherStandsFor (names.message number) (names.reader number) ports.sizes.max_subscribers port publisher
    × MailboxesStandFor (names.message number) (names.reader number) names.subscriber port (service.mailboxes (names.publisher number))
    service.subscribers

-- The publisher, if it is open, is listed at its place.
abbrev pub IsListedAt : {T U : Type 0} → List (Option (Member PublisherEntry)) → ℕ → PublisherPort T U → Type 0
IsListedAt places number port =
    port.stands ≡ true
    → (member : Member PublisherEntry) × (get_or places port.place None ≡ Some member) × (member.value.publisher ≡ number)

-- The subscriber, if it is open, is listed at its place.
abbrev pub IsSubscriberListedAt : List (Option (Member SubscriberEntry)) → ℕ → SubscriberPort → Type 0
IsSubscriberListedAt places number port =
    port.stands ≡ true
    → (member : Member SubscriberEntry) × (get_or places port.place None ≡ Some member) × (member.value.subscriber ≡ number)

-- The subscriber with this number in a domain represents the machine's subscriber under its name.
abbrev pub SubscriberIs : {T U : Type 0} → Naming → ServicePorts T U → Service T → ℕ → SubscriberPort → Type 0
SubscriberIs names ports service number port =
    (subscriber : Subscriber) × (at (names.subscriber number) service.subscribers ≡ Some subscriber)
    × SubscriberStandsFor names.publisher ports.sizes.max_publishers ports.sizes.expired_connections port subscriber

-- The ports of a domain, with the numbered loans and samples, represent this service of the machine, by these names. Each
-- subscriber keeps at least `buffer` connections of closed publishers.
pub record StandsFor {T U : Type 0} (names : Naming) (lent : List (ℕ × LentSlot)) (held : List (ℕ × Taken)) (buffer : ℕ)
    (ports : ServicePorts T U) (service : Service T) : Type 0 where
  -- The limits are those that the settings of the service say.
  pub sizes : ports.sizes ≡ sizes buffer service.settings
  -- The same ports are listed.
  pub publisher_list : service.publisher_list ≡ list_as (λ (entry : PublisherEntry). names.publisher entry.publisher) ports.publisher_list
  pub subscriber_list : service.subscriber_list ≡ list_as (λ (entry : SubscriberEntry). names.subscriber entry.subscriber)
      ports.subscriber_list
  -- Each port that was ever created has a name, and nothing else has one.
  pub named_publishers : NamesPorts names.publisher service.publishers
  pub named_subscribers : NamesPorts names.subscriber service.subscribers
  pub unnamed : (number : ℕ) → ports.next_port ≤ number → (names.publisher number ≡ 0) × (names.subscriber number ≡ 0)
  -- Each publisher represents one of the machine. Exactly the open ones are listed, each at its place; one that was removed is
  -- closed in the machine.
  pub publishers : (number : ℕ) (port : PublisherPort T U) → port_of number ports.publishers ≡ Some port
      → PublisherIs names ports service number port
  pub listed : (number : ℕ) (port : PublisherPort T U) → port_of number ports.publishers ≡ Some port
      → IsListedAt ports.publisher_list.places number port
  pub present : (place : ℕ) (member : Member PublisherEntry) → get_or ports.publisher_list.places place None ≡ Some member
      → (port : PublisherPort T U) × (port_of member.value.publisher ports.publishers ≡ Some port) × (port.stands ≡ true)
      × (port.place ≡ place)
  pub gone_publishers : (number : ℕ) (publisher : Publisher T) → port_of number ports.publishers ≡ None
      → at (names.publisher number) service.publishers ≡ Some publisher → publisher.stands ≡ false
  -- Each publisher has the number under which it is stored, and no two ports have the same number.
  pub numbered : (number : ℕ) (port : PublisherPort T U) → port_of number ports.publishers ≡ Some port → port.number ≡ number
  pub once : (number : ℕ) → how_often number (keys_of ports.publishers) ≤ 1
  pub once_subscribers : (number : ℕ) → how_often number (keys_of ports.subscribers) ≤ 1
  -- A subscriber that reads from a connection is open, and has a key for it.
  pub keyed : (number : ℕ) (port : PublisherPort T U) → port_of number ports.publishers ≡ Some port → IsKeyed number port ports.subscribers
  -- Each subscriber represents one of the machine; one that was removed is closed there.
  pub subscribers : (number : ℕ) (port : SubscriberPort) → subscriber_of number ports.subscribers ≡ Some port
      → SubscriberIs names ports service number port
  pub gone_subscribers : (number : ℕ) (subscriber : Subscriber) → subscriber_of number ports.subscribers ≡ None
      → at (names.subscriber number) service.subscribers ≡ Some subscriber → subscriber.stands ≡ false
  -- Exactly the open subscribers are listed, each at its place.
  pub listed_subscribers : (number : ℕ) (port : SubscriberPort) → subscriber_of number ports.subscribers ≡ Some port
      → IsSubscriberListedAt ports.subscriber_list.places number port
  pub present_subscribers : (place : ℕ) (member : Member SubscriberEntry) → get_or ports.subscriber_list.places place None ≡ Some member
      → (port : SubscriberPort) × (subscriber_of member.value.subscriber ports.subscribers ≡ Some port)
      × (port.stands ≡ true) × (port.place ≡ place)
  -- A listed subscriber is open in the machine, with the buffer size that the list says, which the service allows.
  pub sized : (place : ℕ) (member : Member SubscriberEntry) → get_or ports.subscriber_list.places place None ≡ Some member
      → (subscriber : Subscriber) × (at (names.subscriber member.value.subscriber) service.subscribers ≡ Some subscriber)
      × (subscriber.stands ≡ true) × (subscriber.buffer_size ≡ member.value.buffer_size)
      × (member.value.buffer_size ≤ ports.sizes.subscriber_max_buffer_size)
  -- Each mailbox is that of a publisher and a subscriber that were created.
  pub joined : (one other : ℕ) → is_some (service.mailboxes one other) ≡ true
      → (is_some (at one service.publishers) ≡ true) × (is_some (at other service.subscribers) ≡ true)
  -- Loans and samples are the same.
  pub loans : LoansStandFor names ports lent service.loans
  pub samples : SamplesStandFor names ports held service.samples
