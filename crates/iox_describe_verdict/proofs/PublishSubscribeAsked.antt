-- What is asked, field by field.
use Rattle.std.proofs.Common.{◌≡◌, ℕ, Bool, Option, Some, None, refl, ap, ◌∙◌}
use Rattle.std.specs.Prelude.{option_map, unwrap_or}
use Rattle.iox_describe_settings.specs.declared.setting.SettingValue.TheVariants as value
use Rattle.iox_describe_settings.specs.declared.static_config.publish_subscribe.Setting.TheVariants.{EnableSafeOverflow, HistorySize}
use Rattle.iox_describe_settings.specs.declared.static_config.publish_subscribe.Setting.TheVariants.{MaxNodes, MaxPublishers}
use Rattle.iox_describe_settings.specs.declared.static_config.publish_subscribe.Setting.TheVariants.{MaxSubscribers, SequenceNumbers}
use Rattle.iox_describe_settings.specs.declared.static_config.publish_subscribe.Setting.TheVariants.{SubscriberMaxBorrowedSamples}
use Rattle.iox_describe_settings.specs.declared.static_config.publish_subscribe.Setting.TheVariants.{SubscriberMaxBufferSize}
use Rattle.iox_describe_settings.specs.declared.static_config.publish_subscribe.StaticConfig.{StaticConfig}
use Rattle.iox_describe_settings.specs.Setting.{changed_to}
use Rattle.iox_describe_settings.specs.PublishSubscribeSettings.{changed, defaults}
use Rattle.iox_describe_verdict.specs.declared.requirement.publish_subscribe.Requirement.{Requirement}
use Rattle.iox_describe_verdict.specs.PublishSubscribeClauses.{asked, asked_fields}

enable_safe_overflow : (o : Option Bool) (c : StaticConfig)
    → changed_to changed EnableSafeOverflow (option_map value.Switch o) c
    ≡ record c { enable_safe_overflow = unwrap_or o c.enable_safe_overflow }
enable_safe_overflow None c = refl
enable_safe_overflow (Some x) c = refl

history_size : (o : Option ℕ) (c : StaticConfig)
    → changed_to changed HistorySize (option_map value.Number o) c ≡ record c { history_size = unwrap_or o c.history_size }
history_size None c = refl
history_size (Some x) c = refl

max_nodes : (o : Option ℕ) (c : StaticConfig)
    → changed_to changed MaxNodes (option_map value.Number o) c ≡ record c { max_nodes = unwrap_or o c.max_nodes }
max_nodes None c = refl
max_nodes (Some x) c = refl

max_publishers : (o : Option ℕ) (c : StaticConfig)
    → changed_to changed MaxPublishers (option_map value.Number o) c ≡ record c { max_publishers = unwrap_or o c.max_publishers }
max_publishers None c = refl
max_publishers (Some x) c = refl

max_subscribers : (o : Option ℕ) (c : StaticConfig)
    → changed_to changed MaxSubscribers (option_map value.Number o) c ≡ record c { max_subscribers = unwrap_or o c.max_subscribers }
max_subscribers None c = refl
max_subscribers (Some x) c = refl

sequence_numbers : (o : Option Bool) (c : StaticConfig)
    → changed_to changed SequenceNumbers (option_map value.Switch o) c
    ≡ record c { sequence_numbers = unwrap_or o c.sequence_numbers }
sequence_numbers None c = refl
sequence_numbers (Some x) c = refl

subscriber_max_borrowed_samples : (o : Option ℕ) (c : StaticConfig)
    → changed_to changed SubscriberMaxBorrowedSamples (option_map value.Number o) c
    ≡ record c { subscriber_max_borrowed_samples = unwrap_or o c.subscriber_max_borrowed_samples }
subscriber_max_borrowed_samples None c = refl
subscriber_max_borrowed_samples (Some x) c = refl

subscriber_max_buffer_size : (o : Option ℕ) (c : StaticConfig)
    → changed_to changed SubscriberMaxBufferSize (option_map value.Number o) c
    ≡ record c { subscriber_max_buffer_size = unwrap_or o c.subscriber_max_buffer_size }
subscriber_max_buffer_size None c = refl
subscriber_max_buffer_size (Some x) c = refl

abbrev after_1 : Requirement → StaticConfig
after_1 r = record ((defaults r.types))
    { enable_safe_overflow = unwrap_or r.enable_safe_overflow ((defaults r.types)).enable_safe_overflow }

abbrev after_2 : Requirement → StaticConfig
after_2 r = record (after_1 r) { history_size = unwrap_or r.history_size (after_1 r).history_size }

abbrev after_3 : Requirement → StaticConfig
after_3 r = record (after_2 r) { max_nodes = unwrap_or r.max_nodes (after_2 r).max_nodes }

abbrev after_4 : Requirement → StaticConfig
after_4 r = record (after_3 r) { max_publishers = unwrap_or r.max_publishers (after_3 r).max_publishers }

abbrev after_5 : Requirement → StaticConfig
after_5 r = record (after_4 r) { max_subscribers = unwrap_or r.max_subscribers (after_4 r).max_subscribers }

abbrev after_6 : Requirement → StaticConfig
after_6 r = record (after_5 r) { sequence_numbers = unwrap_or r.sequence_numbers (after_5 r).sequence_numbers }

abbrev after_7 : Requirement → StaticConfig
after_7 r = record (after_6 r)
    { subscriber_max_borrowed_samples = unwrap_or r.subscriber_max_borrowed_samples (after_6 r).subscriber_max_borrowed_samples }

abbrev after_8 : Requirement → StaticConfig
after_8 r = record (after_7 r)
    { subscriber_max_buffer_size = unwrap_or r.subscriber_max_buffer_size (after_7 r).subscriber_max_buffer_size }

pub fields : (r : Requirement) → asked r ≡ asked_fields r
fields r =
    let p1 = enable_safe_overflow r.enable_safe_overflow (defaults r.types) in
    let p2 = ap (changed_to changed HistorySize (option_map value.Number r.history_size)) p1 ∙ history_size r.history_size (after_1 r) in
    let p3 = ap (changed_to changed MaxNodes (option_map value.Number r.max_nodes)) p2 ∙ max_nodes r.max_nodes (after_2 r) in
    let p4 = ap (changed_to changed MaxPublishers (option_map value.Number r.max_publishers)) p3 ∙ max_publishers r.max_publishers
    (after_3 r) in
    let p5 = ap (changed_to changed MaxSubscribers (option_map value.Number r.max_subscribers)) p4 ∙ max_subscribers r.max_subscribers
    (after_4 r) in
    let p6 = ap (changed_to changed SequenceNumbers (option_map value.Switch r.sequence_numbers)) p5 ∙
    sequence_numbers r.sequence_numbers (after_5 r) in
    let p7 = ap (changed_to changed SubscriberMaxBorrowedSamples (option_map value.Number r.subscriber_max_borrowed_samples)) p6 ∙
    subscriber_max_borrowed_samples r.subscriber_max_borrowed_samples (after_6 r) in
    let p8 = ap (changed_to changed SubscriberMaxBufferSize (option_map value.Number r.subscriber_max_buffer_size)) p7 ∙
    subscriber_max_buffer_size r.subscriber_max_buffer_size (after_7 r) in
    ap (λ (c : StaticConfig). record c { types = r.types }) p8
