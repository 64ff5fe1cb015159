-- What is asked, field by field.
use Rattle.std.proofs.Common.{◌≡◌, ℕ, Option, Some, None, refl, ap, ◌∙◌}
use Rattle.std.specs.Prelude.{option_map, unwrap_or}
use Rattle.iox_describe_settings.specs.declared.setting.SettingValue.TheVariants as value
use Rattle.iox_describe_settings.specs.declared.static_config.event.Setting.TheVariants.{Deadline, EventIdMaxValue, MaxListeners}
use Rattle.iox_describe_settings.specs.declared.static_config.event.Setting.TheVariants.{MaxNodes, MaxNotifiers, NotifierCreatedEvent}
use Rattle.iox_describe_settings.specs.declared.static_config.event.Setting.TheVariants.{NotifierDeadEvent, NotifierDroppedEvent}
use Rattle.iox_describe_settings.specs.declared.static_config.event.StaticConfig.{StaticConfig}
use Rattle.iox_describe_settings.specs.Setting.{changed_to}
use Rattle.iox_describe_settings.specs.EventSettings.{changed, defaults}
use Rattle.iox_describe_verdict.specs.declared.requirement.event.Requirement.{Requirement}
use Rattle.iox_describe_verdict.specs.EventClauses.{asked, asked_fields}

deadline : (o : Option (Option ℕ)) (c : StaticConfig)
    → changed_to changed Deadline (option_map value.OptionalNumber o) c ≡ record c { deadline = unwrap_or o c.deadline }
deadline None c = refl
deadline (Some x) c = refl

event_id_max_value : (o : Option ℕ) (c : StaticConfig)
    → changed_to changed EventIdMaxValue (option_map value.Number o) c ≡ record c { event_id_max_value = unwrap_or o c.event_id_max_value }
event_id_max_value None c = refl
event_id_max_value (Some x) c = refl

max_listeners : (o : Option ℕ) (c : StaticConfig)
    → changed_to changed MaxListeners (option_map value.Number o) c ≡ record c { max_listeners = unwrap_or o c.max_listeners }
max_listeners None c = refl
max_listeners (Some x) c = refl

max_nodes : (o : Option ℕ) (c : StaticConfig)
    → changed_to changed MaxNodes (option_map value.Number o) c ≡ record c { max_nodes = unwrap_or o c.max_nodes }
max_nodes None c = refl
max_nodes (Some x) c = refl

max_notifiers : (o : Option ℕ) (c : StaticConfig)
    → changed_to changed MaxNotifiers (option_map value.Number o) c ≡ record c { max_notifiers = unwrap_or o c.max_notifiers }
max_notifiers None c = refl
max_notifiers (Some x) c = refl

notifier_created_event : (o : Option (Option ℕ)) (c : StaticConfig)
    → changed_to changed NotifierCreatedEvent (option_map value.OptionalNumber o) c
    ≡ record c { notifier_created_event = unwrap_or o c.notifier_created_event }
notifier_created_event None c = refl
notifier_created_event (Some x) c = refl

notifier_dead_event : (o : Option (Option ℕ)) (c : StaticConfig)
    → changed_to changed NotifierDeadEvent (option_map value.OptionalNumber o) c
    ≡ record c { notifier_dead_event = unwrap_or o c.notifier_dead_event }
notifier_dead_event None c = refl
notifier_dead_event (Some x) c = refl

notifier_dropped_event : (o : Option (Option ℕ)) (c : StaticConfig)
    → changed_to changed NotifierDroppedEvent (option_map value.OptionalNumber o) c
    ≡ record c { notifier_dropped_event = unwrap_or o c.notifier_dropped_event }
notifier_dropped_event None c = refl
notifier_dropped_event (Some x) c = refl

abbrev after_1 : Requirement → StaticConfig
after_1 r = record (defaults) { deadline = unwrap_or r.deadline (defaults).deadline }

abbrev after_2 : Requirement → StaticConfig
after_2 r = record (after_1 r) { event_id_max_value = unwrap_or r.event_id_max_value (after_1 r).event_id_max_value }

abbrev after_3 : Requirement → StaticConfig
after_3 r = record (after_2 r) { max_listeners = unwrap_or r.max_listeners (after_2 r).max_listeners }

abbrev after_4 : Requirement → StaticConfig
after_4 r = record (after_3 r) { max_nodes = unwrap_or r.max_nodes (after_3 r).max_nodes }

abbrev after_5 : Requirement → StaticConfig
after_5 r = record (after_4 r) { max_notifiers = unwrap_or r.max_notifiers (after_4 r).max_notifiers }

abbrev after_6 : Requirement → StaticConfig
after_6 r = record (after_5 r) { notifier_created_event = unwrap_or r.notifier_created_event (after_5 r).notifier_created_event }

abbrev after_7 : Requirement → StaticConfig
after_7 r = record (after_6 r) { notifier_dead_event = unwrap_or r.notifier_dead_event (after_6 r).notifier_dead_event }

abbrev after_8 : Requirement → StaticConfig
after_8 r = record (after_7 r) { notifier_dropped_event = unwrap_or r.notifier_dropped_event (after_7 r).notifier_dropped_event }

pub fields : (r : Requirement) → asked r ≡ asked_fields r
fields r =
    let p1 = deadline r.deadline defaults in
    let p2 = ap (changed_to changed EventIdMaxValue (option_map value.Number r.event_id_max_value)) p1 ∙ event_id_max_value
    r.event_id_max_value (after_1 r) in
    let p3 = ap (changed_to changed MaxListeners (option_map value.Number r.max_listeners)) p2 ∙ max_listeners r.max_listeners
    (after_2 r) in
    let p4 = ap (changed_to changed MaxNodes (option_map value.Number r.max_nodes)) p3 ∙ max_nodes r.max_nodes (after_3 r) in
    let p5 = ap (changed_to changed MaxNotifiers (option_map value.Number r.max_notifiers)) p4 ∙ max_notifiers r.max_notifiers
    (after_4 r) in
    let p6 = ap (changed_to changed NotifierCreatedEvent (option_map value.OptionalNumber r.notifier_created_event)) p5 ∙
    notifier_created_event r.notifier_created_event (after_5 r) in
    let p7 = ap (changed_to changed NotifierDeadEvent (option_map value.OptionalNumber r.notifier_dead_event)) p6 ∙ notifier_dead_event
    r.notifier_dead_event (after_6 r) in
    let p8 = ap (changed_to changed NotifierDroppedEvent (option_map value.OptionalNumber r.notifier_dropped_event)) p7 ∙
    notifier_dropped_event r.notifier_dropped_event (after_7 r) in
    p8
