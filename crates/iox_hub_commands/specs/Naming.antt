-- What a command names for a port, with the defaults of what it doesn't name.
use Rattle.std.specs.Prelude.{ℕ, Option}
use Rattle.std.specs.Option.{unwrap_or}
use Rattle.iox_command.specs.declared.port.PublisherOptions.{PublisherOptions}
use Rattle.iox_command.specs.declared.port.SubscriberOptions.{SubscriberOptions}
use Rattle.iox_delivery.specs.Domain.declared.ports.making.PublisherConfig.{PublisherConfig}
use Rattle.iox_delivery.specs.Domain.declared.ports.making.SubscriberConfig.{SubscriberConfig}
use Rattle.iox_delivery.specs.Domain.PortSettings.{publisher_defaults}
use Rattle.iox_command.specs.DomainValues.declared.backpressure.BackpressureAction.{BackpressureAction}
use Rattle.iox_command.specs.DomainValues.declared.backpressure_strategy.BackpressureStrategy.{BackpressureStrategy}
use Rattle.iox_command.specs.DomainValues.declared.degradation.DegradationAction.{DegradationAction}
use Rattle.iox_command.specs.DomainValues.declared.degradation.DegradationAction.TheVariants.{Warn}
use Rattle.iox_command.specs.DomainValues.declared.port_owner.PortOwner.{PortOwner}
use Rattle.iox_hub_commands.specs.declared.handlers.NamedSlots.{NamedSlots}

-- The loan limit of a publisher with these options.
abbrev pub most_loans : PublisherOptions → ℕ
most_loans options = unwrap_or options.max_loaned_samples publisher_defaults.max_loaned_samples

-- The configuration of a publisher of slices with these options: a value is an element, and a slot holds as many as a loan may have at
-- first. Its first message has the default number.
abbrev pub publisher_config : PortOwner → PublisherOptions → PublisherConfig
publisher_config owner options = record {
  owner = owner;
  max_loaned_samples = most_loans options;
  values = unwrap_or options.initial_max_slice_len publisher_defaults.initial_max_slice_len;
  unit = 1;
  allocation = unwrap_or options.allocation_strategy publisher_defaults.allocation;
  first_sequence = publisher_defaults.first_sequence;
}

-- The handlers of a publisher with these options: without a strategy a send is blocked at a full mailbox, and without an action a failed
-- connection is skipped with a warning.
abbrev pub publisher_handlers : {B : Type 0} → (BackpressureStrategy → Option BackpressureAction → DegradationAction → B)
    → PublisherOptions → B
publisher_handlers fixed options =
    fixed (unwrap_or options.backpressure_strategy publisher_defaults.strategy) options.backpressure_handler
    (unwrap_or options.degradation_handler Warn)

-- The number of slots that is named for a publisher.
abbrev pub named_slots : PublisherOptions → NamedSlots
named_slots options = record { slots = options.preallocated_samples }

-- The configuration of a subscriber with these options.
abbrev pub subscriber_config : PortOwner → SubscriberOptions → SubscriberConfig
subscriber_config owner options = record { owner = owner; buffer_size = options.buffer_size }

-- The handler of a subscriber with these options: without an action a failed connection is skipped with a warning.
abbrev pub subscriber_handler : {D : Type 0} → (DegradationAction → D) → SubscriberOptions → D
subscriber_handler fixed options = fixed (unwrap_or options.degradation_handler Warn)
