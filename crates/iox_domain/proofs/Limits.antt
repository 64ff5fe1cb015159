-- The numbers of settings that are within the limits of a description fit 32 bits.
use Rattle.std.proofs.Common.{arith, ◌<◌, ◌^◌}
use Rattle.iox_domain.specs.DescribeSettings.PublishSubscribeSettings.{IsWithinLimits}
use Rattle.iox_domain.specs.DescribeSettings.declared.static_config.publish_subscribe.Setting.TheVariants.{HistorySize, MaxPublishers}
use Rattle.iox_domain.specs.DescribeSettings.declared.static_config.publish_subscribe.Setting.TheVariants.{MaxSubscribers}
use Rattle.iox_domain.specs.DescribeSettings.declared.static_config.publish_subscribe.Setting.TheVariants.{SubscriberMaxBorrowedSamples}
use Rattle.iox_domain.specs.DescribeSettings.declared.static_config.publish_subscribe.Setting.TheVariants.{SubscriberMaxBufferSize}
use Rattle.iox_domain.specs.DescribeSettings.declared.static_config.publish_subscribe.StaticConfig.{StaticConfig}

pub history_fits : (config : StaticConfig) → IsWithinLimits config → config.history_size < 2 ^ 32
history_fits config within = (within 1 HistorySize (omega arith)).1

pub publishers_fit : (config : StaticConfig) → IsWithinLimits config → config.max_publishers < 2 ^ 32
publishers_fit config within = let below : config.max_publishers < 2 ^ 24 = (within 3 MaxPublishers (omega arith)).1 in omega (arith, below)

pub subscribers_fit : (config : StaticConfig) → IsWithinLimits config → config.max_subscribers < 2 ^ 32
subscribers_fit config within
    = let below : config.max_subscribers < 2 ^ 24 = (within 4 MaxSubscribers (omega arith)).1 in omega (arith, below)

pub borrowed_fit : (config : StaticConfig) → IsWithinLimits config → config.subscriber_max_borrowed_samples < 2 ^ 32
borrowed_fit config within = (within 6 SubscriberMaxBorrowedSamples (omega arith)).1

pub buffer_fits : (config : StaticConfig) → IsWithinLimits config → config.subscriber_max_buffer_size < 2 ^ 32
buffer_fits config within = (within 7 SubscriberMaxBufferSize (omega arith)).1
