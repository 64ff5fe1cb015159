-- The settings of a publish-subscribe service, as a list.
use Rattle.std.specs.Prelude.{ℕ, ◌<◌, ◌^◌, List, [], ◌∷◌, codes, Some, true, false, ◌≡◌}
use Rattle.iox_describe_base.specs.declared.message_type.MessageTypeDetails.{MessageTypeDetails}
use Rattle.iox_describe_settings.specs.declared.description.Version.{Version}
use Rattle.iox_describe_settings.specs.declared.description.Version.TheVariants.{One, Two}
use Rattle.iox_describe_settings.specs.declared.setting.Rule.{Rule}
use Rattle.iox_describe_settings.specs.Setting.{number, switch, types as types_rule, defaulted, AreAllowed, adjusted as adjusted_settings}
use Rattle.iox_describe_settings.specs.declared.setting.SettingValue.{SettingValue}
use Rattle.iox_describe_settings.specs.declared.setting.SettingValue.TheVariants.{Switch, Number, Types}
use Rattle.iox_describe_settings.specs.declared.static_config.publish_subscribe.Setting.{Setting}
use Rattle.iox_describe_settings.specs.declared.static_config.publish_subscribe.Setting.TheVariants.{EnableSafeOverflow, HistorySize}
use Rattle.iox_describe_settings.specs.declared.static_config.publish_subscribe.Setting.TheVariants.{MaxNodes, MaxPublishers}
use Rattle.iox_describe_settings.specs.declared.static_config.publish_subscribe.Setting.TheVariants.{MaxSubscribers, SequenceNumbers}
use Rattle.iox_describe_settings.specs.declared.static_config.publish_subscribe.Setting.TheVariants.{SubscriberMaxBorrowedSamples}
use Rattle.iox_describe_settings.specs.declared.static_config.publish_subscribe.Setting.TheVariants.{SubscriberMaxBufferSize, Types}
use Rattle.iox_describe_settings.specs.declared.static_config.publish_subscribe.StaticConfig.{StaticConfig}

-- All settings, in rising order of their keys.
abbrev pub all : List Setting
all =
    EnableSafeOverflow
    ∷ HistorySize
    ∷ MaxNodes
    ∷ MaxPublishers
    ∷ MaxSubscribers
    ∷ SequenceNumbers
    ∷ SubscriberMaxBorrowedSamples
    ∷ SubscriberMaxBufferSize
    ∷ Types
    ∷ []

-- The settings that a line of this version has: version 1 has no sequence numbers.
abbrev pub written : Version → List Setting
written One =
    EnableSafeOverflow
    ∷ HistorySize
    ∷ MaxNodes
    ∷ MaxPublishers
    ∷ MaxSubscribers
    ∷ SubscriberMaxBorrowedSamples
    ∷ SubscriberMaxBufferSize
    ∷ Types
    ∷ []
written Two = all

-- The key of each setting.
abbrev pub key : Setting → List ℕ
key EnableSafeOverflow = codes "enable_safe_overflow"
key HistorySize = codes "history_size"
key MaxNodes = codes "max_nodes"
key MaxPublishers = codes "max_publishers"
key MaxSubscribers = codes "max_subscribers"
key SequenceNumbers = codes "sequence_numbers"
key SubscriberMaxBorrowedSamples = codes "subscriber_max_borrowed_samples"
key SubscriberMaxBufferSize = codes "subscriber_max_buffer_size"
key Types = codes "types"

-- The value of each setting.
abbrev pub value : Setting → StaticConfig → SettingValue
value EnableSafeOverflow c = Switch c.enable_safe_overflow
value HistorySize c = Number c.history_size
value MaxNodes c = Number c.max_nodes
value MaxPublishers c = Number c.max_publishers
value MaxSubscribers c = Number c.max_subscribers
value SequenceNumbers c = Switch c.sequence_numbers
value SubscriberMaxBorrowedSamples c = Number c.subscriber_max_borrowed_samples
value SubscriberMaxBufferSize c = Number c.subscriber_max_buffer_size
value Types c = Types c.types

-- The configuration after a setting is changed to a value of its kind.
abbrev pub changed : Setting → SettingValue → StaticConfig → StaticConfig
changed EnableSafeOverflow (Switch switch) c = record c { enable_safe_overflow = switch }
changed HistorySize (Number number) c = record c { history_size = number }
changed MaxNodes (Number number) c = record c { max_nodes = number }
changed MaxPublishers (Number number) c = record c { max_publishers = number }
changed MaxSubscribers (Number number) c = record c { max_subscribers = number }
changed SequenceNumbers (Switch switch) c = record c { sequence_numbers = switch }
changed SubscriberMaxBorrowedSamples (Number number) c = record c { subscriber_max_borrowed_samples = number }
changed SubscriberMaxBufferSize (Number number) c = record c { subscriber_max_buffer_size = number }
changed Types (Types types) c = record c { types = types }
changed other value c = c

-- The rule of each setting: its default, and for a number also the least value, and the limit below which it must be.
abbrev pub rule : Setting → Rule
rule EnableSafeOverflow = switch true
rule HistorySize = number 0 0 (Some (2 ^ 32))
rule MaxNodes = number 20 1 (Some (2 ^ 24))
rule MaxPublishers = number 2 1 (Some (2 ^ 24))
rule MaxSubscribers = number 8 1 (Some (2 ^ 24))
rule SequenceNumbers = switch false
rule SubscriberMaxBorrowedSamples = number 2 1 (Some (2 ^ 32))
rule SubscriberMaxBufferSize = number 2 1 (Some (2 ^ 32))
rule Types = types_rule

-- Settings that are all 0 or false, except for the types.
abbrev pub unset : MessageTypeDetails → StaticConfig
unset types = record {
  enable_safe_overflow = false;
  history_size = 0;
  max_nodes = 0;
  max_publishers = 0;
  max_subscribers = 0;
  sequence_numbers = false;
  subscriber_max_borrowed_samples = 0;
  subscriber_max_buffer_size = 0;
  types = types;
}

-- The settings if nothing is asked.
abbrev pub defaults : MessageTypeDetails → StaticConfig
defaults types = defaulted rule changed all (unset types)

-- The settings with which a service is created: a number that is too small becomes the least possible one.
abbrev pub adjusted : StaticConfig → StaticConfig
adjusted c = adjusted_settings rule value changed all c

-- Each number is within its limits.
abbrev pub IsWithinLimits : StaticConfig → Type 0
IsWithinLimits c = AreAllowed rule value all c

-- The history doesn't fit into a buffer that blocks the publisher when it is full.
abbrev pub IsHistoryTooLong : StaticConfig → Type 0
IsHistoryTooLong c = (c.enable_safe_overflow ≡ false) × (c.subscriber_max_buffer_size < c.history_size)
