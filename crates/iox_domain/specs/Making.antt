-- A publisher and a subscriber are created.
use Rattle.std.specs.Prelude.{ℕ, ◌≡◌, ◌+◌, ◌^◌, ◌||◌, max, nat_lt, is_none, is_err, Bool, List, Option, None, Some, Result, Ok, Err}
use Rattle.std.specs.Prelude.{if◌then◌else◌}
use Rattle.std.specs.declared.alloc.AllocError.{AllocError}
use Rattle.iox_domain_ports.specs.Container.declared.container.Member.{Member}
use Rattle.iox_domain_ports.specs.DomainValues.OverrideAnswers.{places}
use Rattle.iox_domain_ports.specs.DomainValues.Sequences.{before_first}
use Rattle.iox_domain_ports.specs.DomainValues.Sizes.{worst_case, within, buffer_of}
use Rattle.iox_domain_ports.specs.DomainValues.declared.connection_failure.ConnectionFailure.{ConnectionFailure}
use Rattle.iox_domain_ports.specs.DomainValues.declared.create_error.PublisherCreateError.{PublisherCreateError}
use Rattle.iox_domain_ports.specs.DomainValues.declared.create_error.PublisherCreateError.TheVariants as publishing
use Rattle.iox_domain_ports.specs.DomainValues.declared.create_error.SubscriberCreateError.{SubscriberCreateError}
use Rattle.iox_domain_ports.specs.DomainValues.declared.create_error.SubscriberCreateError.TheVariants as subscribing
use Rattle.iox_domain_ports.specs.DomainValues.declared.data_segment.AllocationStrategy.{AllocationStrategy}
use Rattle.iox_domain_ports.specs.DomainValues.declared.data_segment.AllocationStrategy.TheVariants as allocation
use Rattle.iox_domain_ports.specs.DomainValues.declared.degradation.DegradationAction.{DegradationAction}
use Rattle.iox_domain_ports.specs.DomainValues.declared.degradation.DegradationInfo.{DegradationInfo}
use Rattle.iox_domain_ports.specs.DomainValues.declared.port_owner.PortIdentity.{PortIdentity}
use Rattle.iox_domain_ports.specs.DomainValues.declared.port_owner.PortOwner.{PortOwner}
use Rattle.iox_domain_ports.specs.declared.messages.sender_config.SenderConfig.{SenderConfig}
use Rattle.iox_domain_ports.specs.Leaving.{new_port}
use Rattle.iox_domain_ports.specs.PublisherUpdating as publisher
use Rattle.iox_domain_ports.specs.declared.publisher_port.PublisherPort.{PublisherPort}
use Rattle.iox_domain_ports.specs.declared.subscriber_entry.SubscriberEntry.{SubscriberEntry}
use Rattle.iox_domain_ports.specs.Publishers.{added}
use Rattle.iox_domain_ports.specs.Arriving.{new_subscriber}
use Rattle.iox_domain_ports.specs.SubscriberUpdating as subscriber
use Rattle.iox_domain_ports.specs.declared.publisher_entry.PublisherEntry.{PublisherEntry}
use Rattle.iox_domain_ports.specs.declared.subscriber_port.SubscriberPort.{SubscriberPort}
use Rattle.iox_domain.specs.Ports.{with_both}
use Rattle.iox_domain.specs.Rolls.{IsListOf, free_place, entered}
use Rattle.iox_domain.specs.Subscribers.{subscriber_added}
use Rattle.iox_domain.specs.declared.ports.making.PublisherConfig.{PublisherConfig}
use Rattle.iox_domain.specs.declared.ports.service_ports.ServicePorts.{ServicePorts}

-- How many slots a publisher needs in the worst case; None if that is 2^32 or more, or if a slot needs capacity for 2^32 values or
-- more.
abbrev pub slots_needed : {T U : Type 0} → PublisherConfig → ServicePorts T U → Option ℕ
slots_needed config ports = if nat_lt config.values (2 ^ 32) then within (worst_case ports.sizes config.max_loaned_samples) else None

-- The place, if the port may get the next number: ports are numbered up to 2^64 - 2.
abbrev pub numbered : {T U : Type 0} → Option ℕ → ServicePorts T U → Option ℕ
numbered place ports = if nat_lt (ports.next_port + 1) (2 ^ 64) then place else None

-- The place that the next publisher gets.
abbrev pub publisher_place : {T U : Type 0} → ServicePorts T U → Option ℕ
publisher_place ports = numbered (free_place ports.publisher_list) ports

-- The place that the next subscriber gets.
abbrev pub subscriber_place : {T U : Type 0} → ServicePorts T U → Option ℕ
subscriber_place ports = numbered (free_place ports.subscriber_list) ports

-- The maximum number of segments of a publisher.
abbrev pub segments_of : AllocationStrategy → ℕ
segments_of allocation.Static = 1
segments_of allocation.BestFit = 255
segments_of allocation.PowerOfTwo = 255

-- The capacities of a publisher and of its connections.
abbrev pub sender_config : {T U : Type 0} → PublisherConfig → ℕ → ServicePorts T U → SenderConfig
sender_config config slots ports = record {
  overflows = ports.sizes.enable_safe_overflow;
  slots = slots;
  most_segments = segments_of config.allocation;
  room = config.values;
  most_loans = config.max_loaned_samples;
  history = ports.sizes.history_size;
  most_waiting = ports.sizes.subscriber_max_buffer_size;
  most_borrowed = ports.sizes.subscriber_max_borrowed_samples;
}

-- The identity of the next port.
abbrev pub identity_of : {T U : Type 0} → PortOwner → ℕ → ServicePorts T U → PortIdentity
identity_of owner place ports = record { service = ports.service; number = ports.next_port; owner = owner; place = place }

-- The sequence number before the first message of a publisher with this config; None if the service doesn't number messages.
abbrev pub sequence_before : {T U : Type 0} → PublisherConfig → ServicePorts T U → Option ℕ
sequence_before config ports = before_first ports.sizes.sequence_numbers config.first_sequence

-- A publisher with `slots` slots is created at this place, after it followed the list of subscribers. If an allocation fails
-- nothing changes.
abbrev pub AddsPublisher : {T U : Type 0} → (DegradationInfo → DegradationAction → Type 0) → PublisherConfig → U → ℕ → ℕ
    → ServicePorts T U → Result ℕ AllocError → ServicePorts T U → Type 0
AddsPublisher may config user_header place slots old (Err error) new = new ≡ old
AddsPublisher {T} {U} may config user_header place slots old (Ok number) new =
    (listed : List (Option (Member SubscriberEntry))) × IsListOf listed old.subscriber_list
    × (outcome : Result (Unit {0}) ConnectionFailure) × (port : PublisherPort T U)
    × publisher.Updates may listed old.subscriber_list.changes
    (new_port (identity_of config.owner place old) old.sizes.max_subscribers config.allocation config.unit
    (sequence_before config old) (sender_config config slots old) user_header) outcome port
    × (number ≡ old.next_port)
    × (new ≡ record old {
      next_port = old.next_port + 1;
      publisher_list = entered place (record { publisher = old.next_port }) old.publisher_list;
      publishers = added old.next_port port old.publishers;
    })

-- What is answered after a publisher was created, or an allocation failed.
abbrev pub publisher_answer : Result ℕ AllocError → Result ℕ PublisherCreateError
publisher_answer (Ok number) = Ok number
publisher_answer (Err error) = Err publishing.UnableToCreateDataSegment

-- The error of a publisher, by the number of slots that it needs and the place that it gets: `UnableToCreateDataSegment` for too many
-- slots, `ExceedsMaxSupportedPublishers` without a place, and `UnableToCreateDataSegment` otherwise, since an allocation failed.
abbrev pub publisher_refusal : Option ℕ → Option ℕ → PublisherCreateError
publisher_refusal None place = publishing.UnableToCreateDataSegment
publisher_refusal (Some needed) None = publishing.ExceedsMaxSupportedPublishers
publisher_refusal (Some needed) (Some place) = publishing.UnableToCreateDataSegment

-- Whether a publisher is refused however much memory there is: the number of slots that it needs isn't allowed, or no place is free.
abbrev pub refuses_publisher : {T U : Type 0} → PublisherConfig → ServicePorts T U → Bool
refuses_publisher config ports = is_none (slots_needed config ports) || is_none (publisher_place ports)

-- What the call answers and changes: a publisher is created if the number of slots that it needs is allowed, and a place is
-- free. It gets as many slots as the override answers, but at least 1 and at most the worst case.
abbrev pub CreatesPublisher : {T U : Type 0} → (ℕ → ℕ → Type 0) → (DegradationInfo → DegradationAction → Type 0) → PublisherConfig → U
    → Option ℕ → Option ℕ → ServicePorts T U → Result ℕ PublisherCreateError → ServicePorts T U → Type 0
CreatesPublisher overrides may config user_header None place old answer new = (answer ≡ Err publishing.UnableToCreateDataSegment)
    × (new ≡ old)
CreatesPublisher overrides may config user_header (Some needed) None old answer new
    = (answer ≡ Err publishing.ExceedsMaxSupportedPublishers) × (new ≡ old)
CreatesPublisher overrides may config user_header (Some needed) (Some place) old answer new =
    (slots : ℕ) × overrides (max needed 1) slots × (outcome : Result ℕ AllocError)
    × AddsPublisher may config user_header place (places (max needed 1) slots) old outcome new × (answer ≡ publisher_answer outcome)

-- The subscriber, if there is one, follows the list of publishers.
abbrev pub FollowsFirst : {T U : Type 0} → (DegradationInfo → DegradationAction → Type 0) → ℕ → Option SubscriberPort → ServicePorts T U
    → ServicePorts T U → Type 0
FollowsFirst may number None old new = new ≡ old
FollowsFirst {T} {U} may number (Some port) old new =
    (listed : List (Option (Member PublisherEntry))) × IsListOf listed old.publisher_list × (outcome : Result (Unit {0}) ConnectionFailure)
    × (after : SubscriberPort) × (publishers_after : List (ℕ × PublisherPort T U))
    × subscriber.Updates may listed old.publisher_list.changes port old.publishers outcome after publishers_after
    × (new ≡ with_both number after publishers_after old)

-- The ports after a subscriber was added under the next number.
abbrev pub with_new : {T U : Type 0} → SubscriberPort → ServicePorts T U → ServicePorts T U
with_new port ports = record ports { subscribers = subscriber_added ports.next_port port ports.subscribers }

-- A subscriber is created at this place, and follows the list of publishers. If an allocation fails nothing changes.
abbrev pub AddsSubscriber : {T U : Type 0} → (DegradationInfo → DegradationAction → Type 0) → PortOwner → ℕ → ℕ → ServicePorts T U
    → Result ℕ AllocError → ServicePorts T U → Type 0
AddsSubscriber may owner place buffer_size old (Err error) new = new ≡ old
AddsSubscriber {T} {U} may owner place buffer_size old (Ok number) new =
    (between : ServicePorts T U)
    × FollowsFirst may old.next_port (Some
    (new_subscriber (identity_of owner place old) buffer_size old.sizes.max_publishers old.sizes.expired_connections))
    (with_new (new_subscriber (identity_of owner place old) buffer_size old.sizes.max_publishers old.sizes.expired_connections) old) between
    × (number ≡ old.next_port)
    × (new ≡ record between {
      next_port = old.next_port + 1;
      subscriber_list
          = entered place (record { subscriber = old.next_port; buffer_size = buffer_size }) old.subscriber_list;
    })

-- What is answered after a subscriber was created, or an allocation failed.
abbrev pub subscriber_answer : Result ℕ AllocError → Result ℕ SubscriberCreateError
subscriber_answer (Ok number) = Ok number
subscriber_answer (Err error) = Err subscribing.OutOfMemory

-- The error of a subscriber, by its buffer size (or the error of that) and the place that it gets: the error of the buffer size,
-- `ExceedsMaxSupportedSubscribers` without a place, and `OutOfMemory` otherwise, since an allocation failed.
abbrev pub subscriber_refusal : Result ℕ SubscriberCreateError → Option ℕ → SubscriberCreateError
subscriber_refusal (Err refusal) place = refusal
subscriber_refusal (Ok buffer_size) None = subscribing.ExceedsMaxSupportedSubscribers
subscriber_refusal (Ok buffer_size) (Some place) = subscribing.OutOfMemory

-- Whether a subscriber is refused however much memory there is: the service doesn't allow the buffer size, or no place is free.
abbrev pub refuses_subscriber : {T U : Type 0} → Option ℕ → ServicePorts T U → Bool
refuses_subscriber buffer_size ports = is_err (buffer_of buffer_size ports.sizes) || is_none (subscriber_place ports)

-- What the call answers and changes: a subscriber is created if the service allows the buffer size, and a place is free.
abbrev pub CreatesSubscriber : {T U : Type 0} → (DegradationInfo → DegradationAction → Type 0) → PortOwner
    → Result ℕ SubscriberCreateError → Option ℕ → ServicePorts T U → Result ℕ SubscriberCreateError → ServicePorts T U → Type 0
CreatesSubscriber may owner (Err refusal) place old answer new = (answer ≡ Err refusal) × (new ≡ old)
CreatesSubscriber may owner (Ok buffer_size) None old answer new = (answer ≡ Err subscribing.ExceedsMaxSupportedSubscribers) × (new ≡ old)
CreatesSubscriber may owner (Ok buffer_size) (Some place) old answer new =
    (outcome : Result ℕ AllocError) × AddsSubscriber may owner place buffer_size old outcome new × (answer ≡ subscriber_answer outcome)
