-- What an opener requires of a publish-subscribe service, clause by clause.
use Rattle.std.specs.Prelude.{◌∷◌, [], List, Bool, true, false, Option, Some, None, option_map, unwrap_or}
use Rattle.iox_describe_settings.specs.DescribeBase.declared.message_type.MessageTypeDetails.{MessageTypeDetails}
use Rattle.iox_describe_verdict.specs.declared.requirement.publish_subscribe.Requirement.{Requirement}
use Rattle.iox_describe_verdict.specs.declared.requirement.publish_subscribe.ClauseError.{ClauseError}
use Rattle.iox_describe_verdict.specs.declared.requirement.publish_subscribe.ClauseError.TheVariants as error
use Rattle.iox_describe_settings.specs.declared.static_config.publish_subscribe.Setting.{Setting}
use Rattle.iox_describe_settings.specs.declared.static_config.publish_subscribe.Setting.TheVariants.{EnableSafeOverflow, HistorySize}
use Rattle.iox_describe_settings.specs.declared.static_config.publish_subscribe.Setting.TheVariants.{MaxNodes, MaxPublishers}
use Rattle.iox_describe_settings.specs.declared.static_config.publish_subscribe.Setting.TheVariants.{MaxSubscribers, SequenceNumbers}
use Rattle.iox_describe_settings.specs.declared.static_config.publish_subscribe.Setting.TheVariants.{SubscriberMaxBorrowedSamples}
use Rattle.iox_describe_settings.specs.declared.static_config.publish_subscribe.Setting.TheVariants.{SubscriberMaxBufferSize, Types}
use Rattle.iox_describe_settings.specs.declared.static_config.publish_subscribe.StaticConfig.{StaticConfig}
use Rattle.iox_describe_settings.specs.declared.static_config.Settings.{Settings}
use Rattle.iox_describe_settings.specs.declared.static_config.Settings.TheVariants.{RequestResponse, PublishSubscribe, Event}
use Rattle.iox_describe_settings.specs.DescribeBase.declared.attribute.Attribute.{Attribute}
use Rattle.iox_describe_settings.specs.Agreement.{Agreement}
use Rattle.iox_describe_settings.specs.DescribeBase.Attributes.{Required, has_required, IsFewer}
use Rattle.iox_describe_settings.specs.declared.setting.SettingValue.{SettingValue}
use Rattle.iox_describe_settings.specs.declared.setting.SettingValue.TheVariants as value
use Rattle.iox_describe_settings.specs.PublishSubscribeSettings as settings
use Rattle.iox_describe_verdict.specs.Verdict.{is_met, overlaid, AsksLess}

-- The requirement that names no setting except the types.
abbrev pub unnamed : MessageTypeDetails → Required → Requirement
unnamed types attributes = record {
  types = types;
  attributes = attributes;
  enable_safe_overflow = None;
  sequence_numbers = None;
  max_publishers = None;
  max_subscribers = None;
  subscriber_max_buffer_size = None;
  history_size = None;
  subscriber_max_borrowed_samples = None;
  max_nodes = None;
}

-- The value that is asked of each setting, if it is named.
abbrev pub named : Setting → Requirement → Option SettingValue
named EnableSafeOverflow r = option_map value.Switch r.enable_safe_overflow
named HistorySize r = option_map value.Number r.history_size
named MaxNodes r = option_map value.Number r.max_nodes
named MaxPublishers r = option_map value.Number r.max_publishers
named MaxSubscribers r = option_map value.Number r.max_subscribers
named SequenceNumbers r = option_map value.Switch r.sequence_numbers
named SubscriberMaxBorrowedSamples r = option_map value.Number r.subscriber_max_borrowed_samples
named SubscriberMaxBufferSize r = option_map value.Number r.subscriber_max_buffer_size
named Types r = Some (value.Types r.types)

-- The settings that are asked for; a setting that isn't named has its default.
abbrev pub asked : Requirement → StaticConfig
asked r = overlaid settings.changed (λ setting. named setting r) settings.all (settings.defaults r.types)

-- Equivalently, field by field: the settings that are asked for.
abbrev pub asked_fields : Requirement → StaticConfig
asked_fields r = record {
  enable_safe_overflow = unwrap_or r.enable_safe_overflow true;
  history_size = unwrap_or r.history_size 0;
  max_nodes = unwrap_or r.max_nodes 20;
  max_publishers = unwrap_or r.max_publishers 2;
  max_subscribers = unwrap_or r.max_subscribers 8;
  sequence_numbers = unwrap_or r.sequence_numbers false;
  subscriber_max_borrowed_samples = unwrap_or r.subscriber_max_borrowed_samples 2;
  subscriber_max_buffer_size = unwrap_or r.subscriber_max_buffer_size 2;
  types = r.types;
}

-- The error of each setting if it isn't met.
abbrev pub error_of : Setting → ClauseError
error_of EnableSafeOverflow = error.IncompatibleOverflowBehavior
error_of HistorySize = error.DoesNotSupportRequestedMinHistorySize
error_of MaxNodes = error.DoesNotSupportRequestedAmountOfNodes
error_of MaxPublishers = error.DoesNotSupportRequestedAmountOfPublishers
error_of MaxSubscribers = error.DoesNotSupportRequestedAmountOfSubscribers
error_of SequenceNumbers = error.IncompatibleSequenceNumbers
error_of SubscriberMaxBorrowedSamples = error.DoesNotSupportRequestedMinSubscriberBorrowedSamples
error_of SubscriberMaxBufferSize = error.DoesNotSupportRequestedMinBufferSize
error_of Types = error.IncompatibleTypes

-- The clause on a setting: whether it is met, and its error.
abbrev pub clause : Requirement → StaticConfig → Setting → Bool × ClauseError
clause r c setting = (is_met (named setting r) (settings.value setting c), error_of setting)

-- The clauses on a service of this pattern, each with its error, in the order in which they are tested.
abbrev pub clauses_on : Requirement → List Attribute → StaticConfig → List (Bool × ClauseError)
clauses_on r attributes c =
    clause r c Types
    ∷ (has_required r.attributes attributes, error.IncompatibleAttributes)
    ∷ clause r c EnableSafeOverflow
    ∷ clause r c SequenceNumbers
    ∷ clause r c MaxPublishers
    ∷ clause r c MaxSubscribers
    ∷ clause r c SubscriberMaxBufferSize
    ∷ clause r c HistorySize
    ∷ clause r c SubscriberMaxBorrowedSamples
    ∷ clause r c MaxNodes
    ∷ []

-- The clauses on any service, of which the one on the pattern is first; a service of another pattern doesn't meet this one.
abbrev pub clauses_of : Requirement → List Attribute → Settings → List (Bool × ClauseError)
clauses_of r attributes (RequestResponse c) = (false, error.IncompatibleMessagingPattern) ∷ []
clauses_of r attributes (PublishSubscribe c) = (true, error.IncompatibleMessagingPattern) ∷ clauses_on r attributes c
clauses_of r attributes (Event c) = (false, error.IncompatibleMessagingPattern) ∷ []

-- The clauses of a requirement on an agreement.
abbrev pub clauses : Requirement → Agreement → List (Bool × ClauseError)
clauses r a = clauses_of r a.attributes a.settings

-- The requirement `weak` requires at most the attributes that `strong` requires, and asks of each setting at most what `strong` asks.
pub record IsWeaker (weak strong : Requirement) : Type 0 where
  pub attributes : IsFewer weak.attributes strong.attributes
  pub settings : (setting : Setting) → AsksLess (named setting weak) (named setting strong)
