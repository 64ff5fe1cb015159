-- An event service that meets a requirement meets every weaker one.
use Rattle.std.proofs.Common.{◌≡◌, List, refl}
use Rattle.std.specs.Prelude.{IsSome}
use Rattle.iox_describe_verdict.specs.Patterns.{event_of}
use Rattle.iox_describe_settings.specs.DescribeBase.declared.attribute.Attribute.{Attribute}
use Rattle.iox_describe_verdict.specs.declared.requirement.event.Requirement.{Requirement}
use Rattle.iox_describe_settings.specs.declared.static_config.event.StaticConfig.{StaticConfig}
use Rattle.iox_describe_settings.specs.declared.static_config.Settings.{Settings}
use Rattle.iox_describe_settings.specs.declared.static_config.Settings.TheVariants.{RequestResponse, PublishSubscribe, Event}
use Rattle.iox_describe_settings.specs.declared.static_config.event.Setting.TheVariants.{Deadline, EventIdMaxValue, MaxListeners}
use Rattle.iox_describe_settings.specs.declared.static_config.event.Setting.TheVariants.{MaxNodes, MaxNotifiers, NotifierCreatedEvent}
use Rattle.iox_describe_settings.specs.declared.static_config.event.Setting.TheVariants.{NotifierDeadEvent, NotifierDroppedEvent}
use Rattle.iox_describe_settings.specs.EventSettings.{value}
use Rattle.iox_describe_verdict.specs.Verdict.{first_unmet, unmet_clause}
use Rattle.iox_describe_verdict.specs.EventClauses.{clauses_on, clauses_of, named, IsWeaker}
use Rattle.iox_describe_verdict.specs.VerdictLemmas.{attributes, met, setting, step}

on : (weak strong : Requirement) (given : List Attribute) (c : StaticConfig) → IsWeaker weak strong
    → first_unmet (clauses_on strong given c) ≡ met → first_unmet (clauses_on weak given c) ≡ met
on weak strong given c h =
    step _ _ _ _ _ (attributes weak.attributes strong.attributes given h.attributes)
    (step _ _ _ _ _ (setting (named Deadline weak) (named Deadline strong) (value Deadline c) (h.settings Deadline))
    (step _ _ _ _ _ (setting (named MaxNotifiers weak) (named MaxNotifiers strong) (value MaxNotifiers c) (h.settings MaxNotifiers))
    (step _ _ _ _ _ (setting (named MaxListeners weak) (named MaxListeners strong) (value MaxListeners c) (h.settings MaxListeners))
    (step _ _ _ _ _ (setting (named EventIdMaxValue weak) (named EventIdMaxValue strong) (value EventIdMaxValue c)
    (h.settings EventIdMaxValue))
    (step _ _ _ _ _ (setting (named NotifierCreatedEvent weak) (named NotifierCreatedEvent strong) (value NotifierCreatedEvent c)
    (h.settings NotifierCreatedEvent))
    (step _ _ _ _ _ (setting (named NotifierDroppedEvent weak) (named NotifierDroppedEvent strong) (value NotifierDroppedEvent c)
    (h.settings NotifierDroppedEvent))
    (step _ _ _ _ _ (setting (named NotifierDeadEvent weak) (named NotifierDeadEvent strong) (value NotifierDeadEvent c)
    (h.settings NotifierDeadEvent))
    (step _ _ _ _ _ (setting (named MaxNodes weak) (named MaxNodes strong) (value MaxNodes c) (h.settings MaxNodes))
    (λ e. e)))))))))

-- An event service that meets a requirement meets every weaker one.
pub weaker : (weak strong : Requirement) (given : List Attribute) (settings : Settings) → IsWeaker weak strong
    → first_unmet (clauses_of strong given settings) ≡ met → first_unmet (clauses_of weak given settings) ≡ met
weaker weak strong given (RequestResponse c) h e = e
weaker weak strong given (PublishSubscribe c) h e = e
weaker weak strong given (Event c) h e = step _ _ _ _ _ (λ met. met) (on weak strong given c h) e

-- A service that meets a requirement on event services is an event service.
pub met_is_of_pattern : (r : Requirement) (given : List Attribute) (settings : Settings)
    → first_unmet (clauses_of r given settings) ≡ met → IsSome (event_of settings)
unfolding unmet_clause
met_is_of_pattern r given (RequestResponse c) h = absurd cc
met_is_of_pattern r given (PublishSubscribe c) h = absurd cc
met_is_of_pattern r given (Event c) h = refl
