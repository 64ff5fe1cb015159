-- The settings of an event service, as a list.
use Rattle.std.specs.Prelude.{ℕ, ◌^◌, List, [], ◌∷◌, codes, Some, None}
use Rattle.iox_describe_settings.specs.declared.setting.Rule.{Rule}
use Rattle.iox_describe_settings.specs.Setting.{number, optional_number, defaulted, AreAllowed, adjusted as adjusted_settings}
use Rattle.iox_describe_settings.specs.declared.setting.SettingValue.{SettingValue}
use Rattle.iox_describe_settings.specs.declared.setting.SettingValue.TheVariants.{Number, OptionalNumber}
use Rattle.iox_describe_settings.specs.declared.static_config.event.Setting.{Setting}
use Rattle.iox_describe_settings.specs.declared.static_config.event.Setting.TheVariants.{Deadline, EventIdMaxValue, MaxListeners}
use Rattle.iox_describe_settings.specs.declared.static_config.event.Setting.TheVariants.{MaxNodes, MaxNotifiers, NotifierCreatedEvent}
use Rattle.iox_describe_settings.specs.declared.static_config.event.Setting.TheVariants.{NotifierDeadEvent, NotifierDroppedEvent}
use Rattle.iox_describe_settings.specs.declared.static_config.event.StaticConfig.{StaticConfig}

-- All settings, in rising order of their keys.
abbrev pub all : List Setting
all =
    Deadline
    ∷ EventIdMaxValue
    ∷ MaxListeners
    ∷ MaxNodes
    ∷ MaxNotifiers
    ∷ NotifierCreatedEvent
    ∷ NotifierDeadEvent
    ∷ NotifierDroppedEvent
    ∷ []

-- The key of each setting.
abbrev pub key : Setting → List ℕ
key Deadline = codes "deadline"
key EventIdMaxValue = codes "event_id_max_value"
key MaxListeners = codes "max_listeners"
key MaxNodes = codes "max_nodes"
key MaxNotifiers = codes "max_notifiers"
key NotifierCreatedEvent = codes "notifier_created_event"
key NotifierDeadEvent = codes "notifier_dead_event"
key NotifierDroppedEvent = codes "notifier_dropped_event"

-- The value of each setting.
abbrev pub value : Setting → StaticConfig → SettingValue
value Deadline c = OptionalNumber c.deadline
value EventIdMaxValue c = Number c.event_id_max_value
value MaxListeners c = Number c.max_listeners
value MaxNodes c = Number c.max_nodes
value MaxNotifiers c = Number c.max_notifiers
value NotifierCreatedEvent c = OptionalNumber c.notifier_created_event
value NotifierDeadEvent c = OptionalNumber c.notifier_dead_event
value NotifierDroppedEvent c = OptionalNumber c.notifier_dropped_event

-- The configuration after a setting is changed to a value of its kind.
abbrev pub changed : Setting → SettingValue → StaticConfig → StaticConfig
changed Deadline (OptionalNumber option) c = record c { deadline = option }
changed EventIdMaxValue (Number number) c = record c { event_id_max_value = number }
changed MaxListeners (Number number) c = record c { max_listeners = number }
changed MaxNodes (Number number) c = record c { max_nodes = number }
changed MaxNotifiers (Number number) c = record c { max_notifiers = number }
changed NotifierCreatedEvent (OptionalNumber option) c = record c { notifier_created_event = option }
changed NotifierDeadEvent (OptionalNumber option) c = record c { notifier_dead_event = option }
changed NotifierDroppedEvent (OptionalNumber option) c = record c { notifier_dropped_event = option }
changed other value c = c

-- The rule of each setting: its default, and for a number also the least value, and the limit below which it must be.
abbrev pub rule : Setting → Rule
rule Deadline = optional_number None
rule EventIdMaxValue = number 4294967295 0 None
rule MaxListeners = number 16 1 None
rule MaxNodes = number 36 1 (Some (2 ^ 24))
rule MaxNotifiers = number 16 1 None
rule NotifierCreatedEvent = optional_number None
rule NotifierDeadEvent = optional_number None
rule NotifierDroppedEvent = optional_number None

-- Settings that are all 0 or none.
abbrev pub unset : StaticConfig
unset = record {
  deadline = None;
  event_id_max_value = 0;
  max_listeners = 0;
  max_nodes = 0;
  max_notifiers = 0;
  notifier_created_event = None;
  notifier_dead_event = None;
  notifier_dropped_event = None;
}

-- The settings if nothing is asked.
abbrev pub defaults : StaticConfig
defaults = defaulted rule changed all unset

-- The settings with which a service is created: a number that is too small becomes the least possible one.
abbrev pub adjusted : StaticConfig → StaticConfig
adjusted c = adjusted_settings rule value changed all c

-- Each number is within its limits.
abbrev pub IsWithinLimits : StaticConfig → Type 0
IsWithinLimits c = AreAllowed rule value all c
