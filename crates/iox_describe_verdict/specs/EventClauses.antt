-- What an opener requires of an event service, clause by clause.
use Rattle.std.specs.Prelude.{◌∷◌, [], List, Bool, true, false, Option, None, option_map, unwrap_or}
use Rattle.iox_describe_verdict.specs.declared.requirement.event.Requirement.{Requirement}
use Rattle.iox_describe_verdict.specs.declared.requirement.event.ClauseError.{ClauseError}
use Rattle.iox_describe_verdict.specs.declared.requirement.event.ClauseError.TheVariants as error
use Rattle.iox_describe_settings.specs.declared.static_config.event.Setting.{Setting}
use Rattle.iox_describe_settings.specs.declared.static_config.event.Setting.TheVariants.{Deadline, EventIdMaxValue, MaxListeners}
use Rattle.iox_describe_settings.specs.declared.static_config.event.Setting.TheVariants.{MaxNodes, MaxNotifiers, NotifierCreatedEvent}
use Rattle.iox_describe_settings.specs.declared.static_config.event.Setting.TheVariants.{NotifierDeadEvent, NotifierDroppedEvent}
use Rattle.iox_describe_settings.specs.declared.static_config.event.StaticConfig.{StaticConfig}
use Rattle.iox_describe_settings.specs.declared.static_config.Settings.{Settings}
use Rattle.iox_describe_settings.specs.declared.static_config.Settings.TheVariants.{RequestResponse, PublishSubscribe, Event}
use Rattle.iox_describe_settings.specs.DescribeBase.declared.attribute.Attribute.{Attribute}
use Rattle.iox_describe_settings.specs.Agreement.{Agreement}
use Rattle.iox_describe_settings.specs.DescribeBase.Attributes.{Required, has_required, IsFewer}
use Rattle.iox_describe_settings.specs.declared.setting.SettingValue.{SettingValue}
use Rattle.iox_describe_settings.specs.declared.setting.SettingValue.TheVariants as value
use Rattle.iox_describe_settings.specs.EventSettings as settings
use Rattle.iox_describe_verdict.specs.Verdict.{is_met, overlaid, AsksLess}

-- The requirement that names no setting.
abbrev pub unnamed : Required → Requirement
unnamed attributes = record {
  attributes = attributes;
  deadline = None;
  max_notifiers = None;
  max_listeners = None;
  event_id_max_value = None;
  notifier_created_event = None;
  notifier_dropped_event = None;
  notifier_dead_event = None;
  max_nodes = None;
}

-- The value that is asked of each setting, if it is named.
abbrev pub named : Setting → Requirement → Option SettingValue
named Deadline r = option_map value.OptionalNumber r.deadline
named EventIdMaxValue r = option_map value.Number r.event_id_max_value
named MaxListeners r = option_map value.Number r.max_listeners
named MaxNodes r = option_map value.Number r.max_nodes
named MaxNotifiers r = option_map value.Number r.max_notifiers
named NotifierCreatedEvent r = option_map value.OptionalNumber r.notifier_created_event
named NotifierDeadEvent r = option_map value.OptionalNumber r.notifier_dead_event
named NotifierDroppedEvent r = option_map value.OptionalNumber r.notifier_dropped_event

-- The settings that are asked for; a setting that isn't named has its default.
abbrev pub asked : Requirement → StaticConfig
asked r = overlaid settings.changed (λ setting. named setting r) settings.all settings.defaults

-- Equivalently, field by field: the settings that are asked for.
abbrev pub asked_fields : Requirement → StaticConfig
asked_fields r = record {
  deadline = unwrap_or r.deadline None;
  event_id_max_value = unwrap_or r.event_id_max_value 4294967295;
  max_listeners = unwrap_or r.max_listeners 16;
  max_nodes = unwrap_or r.max_nodes 36;
  max_notifiers = unwrap_or r.max_notifiers 16;
  notifier_created_event = unwrap_or r.notifier_created_event None;
  notifier_dead_event = unwrap_or r.notifier_dead_event None;
  notifier_dropped_event = unwrap_or r.notifier_dropped_event None;
}

-- The error of each setting if it isn't met.
abbrev pub error_of : Setting → ClauseError
error_of Deadline = error.IncompatibleDeadline
error_of EventIdMaxValue = error.DoesNotSupportRequestedMaxEventId
error_of MaxListeners = error.DoesNotSupportRequestedAmountOfListeners
error_of MaxNodes = error.DoesNotSupportRequestedAmountOfNodes
error_of MaxNotifiers = error.DoesNotSupportRequestedAmountOfNotifiers
error_of NotifierCreatedEvent = error.IncompatibleNotifierCreatedEvent
error_of NotifierDeadEvent = error.IncompatibleNotifierDeadEvent
error_of NotifierDroppedEvent = error.IncompatibleNotifierDroppedEvent

-- The clause on a setting: whether it is met, and its error.
abbrev pub clause : Requirement → StaticConfig → Setting → Bool × ClauseError
clause r c setting = (is_met (named setting r) (settings.value setting c), error_of setting)

-- The clauses on a service of this pattern, each with its error, in the order in which they are tested.
abbrev pub clauses_on : Requirement → List Attribute → StaticConfig → List (Bool × ClauseError)
clauses_on r attributes c =
    (has_required r.attributes attributes, error.IncompatibleAttributes)
    ∷ clause r c Deadline
    ∷ clause r c MaxNotifiers
    ∷ clause r c MaxListeners
    ∷ clause r c EventIdMaxValue
    ∷ clause r c NotifierCreatedEvent
    ∷ clause r c NotifierDroppedEvent
    ∷ clause r c NotifierDeadEvent
    ∷ clause r c MaxNodes
    ∷ []

-- The clauses on any service, of which the one on the pattern is first; a service of another pattern doesn't meet this one.
abbrev pub clauses_of : Requirement → List Attribute → Settings → List (Bool × ClauseError)
clauses_of r attributes (RequestResponse c) = (false, error.IncompatibleMessagingPattern) ∷ []
clauses_of r attributes (PublishSubscribe c) = (false, error.IncompatibleMessagingPattern) ∷ []
clauses_of r attributes (Event c) = (true, error.IncompatibleMessagingPattern) ∷ clauses_on r attributes c

-- The clauses of a requirement on an agreement.
abbrev pub clauses : Requirement → Agreement → List (Bool × ClauseError)
clauses r a = clauses_of r a.attributes a.settings

-- The requirement `weak` requires at most the attributes that `strong` requires, and asks of each setting at most what `strong` asks.
pub record IsWeaker (weak strong : Requirement) : Type 0 where
  pub attributes : IsFewer weak.attributes strong.attributes
  pub settings : (setting : Setting) → AsksLess (named setting weak) (named setting strong)
