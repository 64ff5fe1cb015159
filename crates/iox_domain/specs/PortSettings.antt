-- The settings with which a publisher and a subscriber are created.
use Rattle.std.specs.Prelude.{None}
use Rattle.iox_domain_values.specs.declared.backpressure_strategy.BackpressureStrategy.TheVariants.{RetryUntilDelivered}
use Rattle.iox_domain_values.specs.declared.data_segment.AllocationStrategy.TheVariants.{Static}
use Rattle.iox_domain.specs.declared.settings.publisher_settings.PublisherSettings.{PublisherSettings}
use Rattle.iox_domain.specs.declared.settings.subscriber_settings.SubscriberSettings.{SubscriberSettings}

-- The defaults of a publisher: two loans, sends that block at a full mailbox, slices of one value, slots that don't grow, and
-- sequence numbers from 1 on.
abbrev pub publisher_defaults : PublisherSettings
publisher_defaults = record {
  max_loaned_samples = 2;
  strategy = RetryUntilDelivered;
  initial_max_slice_len = 1;
  allocation = Static;
  first_sequence = 1;
}

-- The defaults of a subscriber: it asks for no buffer size.
abbrev pub subscriber_defaults : SubscriberSettings
subscriber_defaults = record { buffer_size = None }
