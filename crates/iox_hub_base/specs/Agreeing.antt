-- Whether two agreements on a publish-subscribe service are the same.
use Rattle.std.specs.Prelude.{◌==◌, ◌&&◌, Bool}
use Rattle.std.specs.Bool.{beq}
use Rattle.iox_domain.specs.DescribeBase.Compatible.{same_detail}
use Rattle.iox_domain.specs.DescribeSettings.declared.static_config.publish_subscribe.StaticConfig.{StaticConfig}

-- Whether two publish-subscribe settings are the same in each field, and in each field of their type details.
abbrev pub same_agreement : StaticConfig → StaticConfig → Bool
same_agreement a b =
    beq a.enable_safe_overflow b.enable_safe_overflow
    && ((a.history_size == b.history_size)
    && ((a.max_nodes == b.max_nodes)
    && ((a.max_publishers == b.max_publishers)
    && ((a.max_subscribers == b.max_subscribers)
    && (beq a.sequence_numbers b.sequence_numbers
    && ((a.subscriber_max_borrowed_samples == b.subscriber_max_borrowed_samples)
    && ((a.subscriber_max_buffer_size == b.subscriber_max_buffer_size)
    && (same_detail a.types.header b.types.header
    && (same_detail a.types.user_header b.types.user_header && same_detail a.types.payload b.types.payload)))))))))
