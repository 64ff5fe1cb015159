-- The limits that a description sets for ports.
use Rattle.std.specs.Prelude.{ℕ, ◌≡◌, max, Option, None, Some}
use Rattle.iox_domain_values.specs.declared.service_sizes.ServiceSizes.{ServiceSizes}
use Rattle.iox_describe_settings.specs.Agreement.{AreWithinLimits}
use Rattle.iox_describe_settings.specs.declared.static_config.Settings.{Settings}
use Rattle.iox_describe_settings.specs.declared.static_config.Settings.TheVariants.{PublishSubscribe}
use Rattle.iox_describe_settings.specs.declared.static_config.publish_subscribe.StaticConfig.{StaticConfig}

-- The limits of a publish-subscribe service. A subscriber keeps as many connections of closed publishers as was asked for, and
-- at least as many as samples of one connection may be held.
abbrev pub sizes : ℕ → StaticConfig → ServiceSizes
sizes expired_connection_buffer config = record {
  max_publishers = config.max_publishers;
  max_subscribers = config.max_subscribers;
  subscriber_max_buffer_size = config.subscriber_max_buffer_size;
  subscriber_max_borrowed_samples = config.subscriber_max_borrowed_samples;
  history_size = config.history_size;
  enable_safe_overflow = config.enable_safe_overflow;
  sequence_numbers = config.sequence_numbers;
  expired_connections = max expired_connection_buffer config.subscriber_max_borrowed_samples;
}

-- The limits that settings set, if they are settings of a publish-subscribe service and within the limits of a description.
abbrev pub SizesOf : ℕ → Settings → Option ServiceSizes → Type 0
SizesOf expired_connection_buffer settings None = (config : StaticConfig) → settings ≡ PublishSubscribe config
    → AreWithinLimits settings → ⊥
SizesOf expired_connection_buffer settings (Some found) =
    (config : StaticConfig) × (settings ≡ PublishSubscribe config) × AreWithinLimits settings
    × (found ≡ sizes expired_connection_buffer config)
