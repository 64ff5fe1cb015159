-- How builders create ports.
use Rattle.std.specs.Prelude.{ℕ, Option, None, Some, Result, Ok, Err, if◌then◌else◌}
use Rattle.iox_domain.specs.DescribeBase.Detail.{Detail}
use Rattle.iox_domain.specs.DescribeBase.declared.type_detail.TypeVariant.{TypeVariant}
use Rattle.iox_domain.specs.DescribeBase.declared.type_detail.TypeVariant.TheVariants.{FixedSize}
use Rattle.iox_domain.specs.DomainValues.Sizes.{buffer_of}
use Rattle.iox_domain.specs.DomainValues.declared.backpressure_handler.BackpressureHandler.{BackpressureHandler}
use Rattle.iox_domain.specs.DomainValues.declared.backpressure_strategy.BackpressureStrategy.{BackpressureStrategy}
use Rattle.iox_domain.specs.DomainValues.declared.backpressure_strategy.BackpressureStrategy.TheVariants.{RetryUntilDelivered}
use Rattle.iox_domain.specs.DomainValues.declared.create_error.PublisherCreateError.{PublisherCreateError}
use Rattle.iox_domain.specs.DomainValues.declared.create_error.SubscriberCreateError.{SubscriberCreateError}
use Rattle.iox_domain.specs.DomainValues.declared.data_segment.AllocationStrategy.TheVariants.{Static}
use Rattle.iox_domain.specs.DomainValues.declared.degradation.DegradationAction.TheVariants.{Warn}
use Rattle.iox_domain.specs.DomainValues.declared.degradation_handler.DegradationHandler.{DegradationHandler}
use Rattle.iox_domain.specs.DomainValues.declared.degradation_handler.DegradationHandler.TheVariants.{Fixed}
use Rattle.iox_domain.specs.DomainValues.declared.handlers.Handlers.{Handlers}
use Rattle.iox_domain.specs.DomainValues.declared.port_owner.PortOwner.{PortOwner}
use Rattle.iox_domain.specs.DomainValues.declared.samples_override.PreallocatedSamplesOverride.{PreallocatedSamplesOverride}
use Rattle.iox_domain.specs.DomainValues.declared.samples_override.PreallocatedSamplesOverride.TheVariants.{WorstCase}
use Rattle.iox_domain.specs.PortSettings.{publisher_defaults, subscriber_defaults}
use Rattle.iox_domain.specs.declared.settings.publisher_settings.PublisherSettings.{PublisherSettings}
use Rattle.iox_domain.specs.declared.settings.subscriber_settings.SubscriberSettings.{SubscriberSettings}
use Rattle.iox_domain.specs.declared.ports.making.PublisherConfig.{PublisherConfig}
use Rattle.iox_domain.specs.declared.ports.making.SubscriberConfig.{SubscriberConfig}
use Rattle.iox_domain.specs.declared.ports.service_ports.ServicePorts.{ServicePorts}
use Rattle.iox_domain.specs.declared.domain.Domain.{Domain}
use Rattle.iox_domain.specs.declared.domain_id.DomainId.{DomainId}
use Rattle.iox_delivery.specs.declared.kind.Single.{Single}
use Rattle.iox_delivery.specs.declared.kind.Slice.{Slice}
use Rattle.iox_delivery.specs.declared.port.Port.{Port}
use Rattle.iox_delivery.specs.declared.publisher.PublisherSide.{PublisherSide}
use Rattle.iox_delivery.specs.declared.subscriber.SubscriberSide.{SubscriberSide}
use Rattle.iox_delivery_factories.specs.Elements.{room_of, values_each, is_of_values, is_of_slices}
use Rattle.iox_delivery_factories.specs.declared.publisher.PortFactoryPublisher.{PortFactoryPublisher}
use Rattle.iox_delivery_factories.specs.declared.subscriber.PortFactorySubscriber.{PortFactorySubscriber}

-- The handlers of a publisher with this strategy if no handler is set: none for full mailboxes, and `Warn` for failed connections.
abbrev pub nobody_named : {X Y : Type 0} {F : X → Type 0} {G : Y → Type 0} → BackpressureStrategy → Handlers X Y F G
nobody_named strategy = record { strategy = strategy; backpressure = None; degradation = Fixed Warn }

-- A builder of publishers whose elements have `unit` values, and whose payloads are of this variant, with all defaults.
abbrev pub new_publisher_builder : {T U X Y Z Kind : Type 0} {F : X → Type 0} {G : Y → Type 0} {K : Z → Type 0} → DomainId → ℕ
    → TypeVariant → ℕ → ℕ → PortFactoryPublisher T U (Handlers X Y F G) (PreallocatedSamplesOverride Z K) Kind
new_publisher_builder domain unit payload node_id owner =
    record {
      domain = domain;
      owner = record { number = owner; node_id = node_id };
      unit = unit;
      payload = payload;
      settings = publisher_defaults;
      handlers
          = nobody_named RetryUntilDelivered;
      overriding = WorstCase;
      of = record {};
    }

-- A builder of subscribers with all defaults.
abbrev pub new_subscriber_builder : {T U Y Kind : Type 0} {G : Y → Type 0} → DomainId → ℕ → ℕ
    → PortFactorySubscriber T U (DegradationHandler Y G) Kind
new_subscriber_builder domain node_id owner =
    record {
      domain = domain;
      owner = record { number = owner; node_id = node_id };
      settings = subscriber_defaults;
      handler
          = Fixed Warn;
      of = record {};
    }

-- The builder of publishers of single values of this size, for a node and an owner. None if a payload of the domain isn't a single value.
abbrev pub value_publishers : {T U B D X Y Z : Type 0} {F : X → Type 0} {G : Y → Type 0} {K : Z → Type 0} → ℕ → ℕ → ℕ → Domain T U B D
    → Option (PortFactoryPublisher T U (Handlers X Y F G) (PreallocatedSamplesOverride Z K) Single)
value_publishers size node_id owner domain =
    if is_of_values size domain.agreed.types.payload
    then Some (new_publisher_builder domain.id (values_each domain.agreed.types.payload.size size) domain.agreed.types.payload.variant
    node_id owner)
    else None

-- The builder of publishers of slices of this type, for a node and an owner. None if a payload of the domain isn't a slice of it.
abbrev pub slice_publishers : {T U B D X Y Z : Type 0} {F : X → Type 0} {G : Y → Type 0} {K : Z → Type 0} → Detail → ℕ → ℕ
    → Domain T U B D → Option (PortFactoryPublisher T U (Handlers X Y F G) (PreallocatedSamplesOverride Z K) Slice)
slice_publishers value node_id owner domain =
    if is_of_slices value domain.agreed.types.payload
    then Some (new_publisher_builder domain.id (values_each domain.agreed.types.payload.size value.size)
    domain.agreed.types.payload.variant node_id owner)
    else None

-- The builder of subscribers of single values of this size, for a node and an owner. None if a payload of the domain isn't a single
-- value.
abbrev pub value_subscribers : {T U B D Y : Type 0} {G : Y → Type 0} → ℕ → ℕ → ℕ → Domain T U B D
    → Option (PortFactorySubscriber T U (DegradationHandler Y G) Single)
value_subscribers size node_id owner domain =
    if is_of_values size domain.agreed.types.payload then Some (new_subscriber_builder domain.id node_id owner) else None

-- The builder of subscribers of slices of this type, for a node and an owner. None if a payload of the domain isn't a slice of it.
abbrev pub slice_subscribers : {T U B D Y : Type 0} {G : Y → Type 0} → Detail → ℕ → ℕ → Domain T U B D
    → Option (PortFactorySubscriber T U (DegradationHandler Y G) Slice)
slice_subscribers value node_id owner domain =
    if is_of_slices value domain.agreed.types.payload then Some (new_subscriber_builder domain.id node_id owner) else None

-- The builder with this strategy.
abbrev pub with_strategy : {T U X Y O Kind : Type 0} {F : X → Type 0} {G : Y → Type 0} → BackpressureStrategy
    → PortFactoryPublisher T U (Handlers X Y F G) O Kind → PortFactoryPublisher T U (Handlers X Y F G) O Kind
with_strategy strategy builder = record builder
    { settings = record builder.settings { strategy = strategy }; handlers = record builder.handlers { strategy = strategy } }

-- The builder with this handler for failed connections.
abbrev pub with_degradation : {T U X Y O Kind : Type 0} {F : X → Type 0} {G : Y → Type 0} → DegradationHandler Y G
    → PortFactoryPublisher T U (Handlers X Y F G) O Kind → PortFactoryPublisher T U (Handlers X Y F G) O Kind
with_degradation handler builder = record builder { handlers = record builder.handlers { degradation = handler } }

-- The builder with this handler for full mailboxes.
abbrev pub with_backpressure : {T U X Y O Kind : Type 0} {F : X → Type 0} {G : Y → Type 0} → Option (BackpressureHandler X F)
    → PortFactoryPublisher T U (Handlers X Y F G) O Kind → PortFactoryPublisher T U (Handlers X Y F G) O Kind
with_backpressure handler builder = record builder { handlers = record builder.handlers { backpressure = handler } }

-- The builder with the same settings, but without handlers and with as many slots as the worst case needs.
abbrev pub cloned : {T U X Y Z Kind : Type 0} {F : X → Type 0} {G : Y → Type 0} {K : Z → Type 0}
    → PortFactoryPublisher T U (Handlers X Y F G) (PreallocatedSamplesOverride Z K) Kind
    → PortFactoryPublisher T U (Handlers X Y F G) (PreallocatedSamplesOverride Z K) Kind
cloned builder = record builder { handlers = nobody_named builder.settings.strategy; overriding = WorstCase }

-- The builder with the same settings, but with `Warn` for failed connections.
abbrev pub subscriber_cloned : {T U Y Kind : Type 0} {G : Y → Type 0} → PortFactorySubscriber T U (DegradationHandler Y G) Kind
    → PortFactorySubscriber T U (DegradationHandler Y G) Kind
subscriber_cloned builder = record builder { handler = Fixed Warn }

-- The parameters with which a publisher of single values is created.
abbrev pub single_config : PortOwner → PublisherSettings → PublisherConfig
single_config owner settings = record {
  owner = owner;
  max_loaned_samples = settings.max_loaned_samples;
  values = 1;
  unit = 1;
  allocation = Static;
  first_sequence = settings.first_sequence;
}

-- The parameters with which a publisher of slices is created whose elements have `unit` values.
abbrev pub slice_config : PortOwner → ℕ → PublisherSettings → PublisherConfig
slice_config owner unit settings =
    record {
      owner = owner;
      max_loaned_samples = settings.max_loaned_samples;
      values = room_of unit settings.initial_max_slice_len;
      unit
          = unit;
      allocation = settings.allocation;
      first_sequence = settings.first_sequence;
    }

-- The parameters with which a subscriber is created.
abbrev pub subscriber_config : PortOwner → SubscriberSettings → SubscriberConfig
subscriber_config owner settings = record { owner = owner; buffer_size = settings.buffer_size }

-- How many messages may wait for a subscriber, if the service allows its buffer size; otherwise 0.
abbrev pub allowed : Result ℕ SubscriberCreateError → ℕ
allowed (Ok buffer_size) = buffer_size
allowed (Err refusal) = 0

-- How many messages of one publisher may wait for a subscriber in this service, if the home has the service and it allows that;
-- otherwise 0.
abbrev pub buffer_at : {T U : Type 0} → SubscriberSettings → Option (ServicePorts T U) → ℕ
buffer_at settings None = 0
buffer_at settings (Some ports) = allowed (buffer_of settings.buffer_size ports.sizes)

-- The answer of the call, with the created publisher as a value.
abbrev pub publisher_of : {T U : Type 0} → DomainId → PublisherSettings → Result ℕ PublisherCreateError
    → Result (Port T U Single PublisherSide) PublisherCreateError
publisher_of domain settings (Ok number) =
    Ok (record {
      port = record { domain = domain; number = number };
      side
          = record { strategy = settings.strategy; initial_max_slice_len = 1; payload = FixedSize };
      of = record {};
    })
publisher_of domain settings (Err error) = Err error

-- The answer of the call, with the created publisher of slices as a value.
abbrev pub slice_publisher_of : {T U : Type 0} → DomainId → TypeVariant → PublisherSettings → Result ℕ PublisherCreateError
    → Result (Port T U Slice PublisherSide) PublisherCreateError
slice_publisher_of domain payload settings (Ok number) =
    Ok (record {
      port = record { domain = domain; number = number };
      side = record { strategy = settings.strategy; initial_max_slice_len = settings.initial_max_slice_len; payload = payload };
      of = record {};
    })
slice_publisher_of domain payload settings (Err error) = Err error

-- The answer of the call, with the created subscriber as a value.
abbrev pub subscriber_of : {T U K : Type 0} → DomainId → ℕ → Result ℕ SubscriberCreateError
    → Result (Port T U K SubscriberSide) SubscriberCreateError
subscriber_of domain buffer_size (Ok number) =
    Ok (record { port = record { domain = domain; number = number }; side = record { buffer_size = buffer_size }; of = record {} })
subscriber_of domain buffer_size (Err error) = Err error
