-- What numbers name in a recorded hub.
use Rattle.std.specs.Prelude.{ℕ, max, Option, None, Some, option_map, Result, Ok, Err}
use Rattle.std.specs.Option.{unwrap_or}
use Rattle.iox_command.specs.declared.port.PublisherOptions.{PublisherOptions}
use Rattle.iox_command.specs.declared.port.SubscriberOptions.{SubscriberOptions}
use Rattle.iox_delivery.specs.DescribeBase.declared.type_detail.TypeVariant.TheVariants.{Dynamic}
use Rattle.iox_delivery.specs.Domain.PortSettings.{publisher_defaults}
use Rattle.iox_delivery.specs.declared.port.Port.{Port}
use Rattle.iox_delivery.specs.declared.publisher.PublisherSide.{PublisherSide}
use Rattle.iox_delivery.specs.declared.subscriber.SubscriberSide.{SubscriberSide}
use Rattle.iox_domain.specs.declared.domain_id.DomainId.{DomainId}
use Rattle.iox_hub_commands.specs.declared.services.made.MadeFactory.{MadeFactory}
use Rattle.iox_hub.specs.declared.recorded.named.Named.{Named}
use Rattle.iox_hub.specs.declared.recorded.named.Number.{Number}

-- The factory of a service that was opened, as one of any pattern.
abbrev pub as_made : {F E : Type 0} → (F → MadeFactory) → Option (Result F E) → Option (Result MadeFactory E)
as_made made None = None
as_made made (Some (Ok factory)) = Some (Ok (made factory))
as_made made (Some (Err why)) = Some (Err why)

-- The value that was made, with its number.
abbrev pub named_by : {S E : Type 0} → Number → Option (Result S E) → Option (Result (Named S) E)
named_by number None = None
named_by number (Some (Ok made)) = Some (Ok (record { it = made; number = number }))
named_by number (Some (Err why)) = Some (Err why)

-- The value that was received, with its number.
abbrev pub received_by : {S E : Type 0} → Number → Option (Result (Option S) E) → Option (Result (Option (Named S)) E)
received_by number None = None
received_by number (Some (Ok (Some made))) = Some (Ok (Some (record { it = made; number = number })))
received_by number (Some (Ok None)) = Some (Ok None)
received_by number (Some (Err why)) = Some (Err why)

-- The value that was handed back, with its number.
abbrev pub back_by : {A S : Type 0} → Number → Result A S → Result A (Named S)
back_by number (Ok answer) = Ok answer
back_by number (Err it) = Err (record { it = it; number = number })

-- The factory that was handed back, with its number.
abbrev pub closed_by : {F E : Type 0} → Number → Result (Unit {0}) (E × Option F) → Result (Unit {0}) (E × Option (Named F))
closed_by number (Ok done) = Ok done
closed_by number (Err (why, None)) = Err (why, None)
closed_by number (Err (why, Some it)) = Err (why, Some (record { it = it; number = number }))

-- A publisher's strategy, and how many values a loan may have at first: as the options name them, or else the defaults. Its payloads are
-- slices.
abbrev pub publisher_side : PublisherOptions → PublisherSide
publisher_side options = record {
  strategy = unwrap_or options.backpressure_strategy publisher_defaults.strategy;
  initial_max_slice_len = unwrap_or options.initial_max_slice_len publisher_defaults.initial_max_slice_len;
  payload = Dynamic;
}

-- The buffer size of a subscriber: the one that the options name, at least 1, or else the maximum of the service.
abbrev pub subscriber_side : ℕ → SubscriberOptions → SubscriberSide
subscriber_side most options = record { buffer_size = unwrap_or (option_map (λ named. max named 1) options.buffer_size) most }

-- The port that was created in a domain under a number, as a value with this side; or the error.
abbrev pub port_made : {T U K S E : Type 0} → DomainId → S → Option (Result ℕ E) → Option (Result (Port T U K S) E)
port_made domain side None = None
port_made domain side (Some (Ok number)) =
    Some (Ok (record { port = record { domain = domain; number = number }; side = side; of = record {} }))
port_made domain side (Some (Err why)) = Some (Err why)
