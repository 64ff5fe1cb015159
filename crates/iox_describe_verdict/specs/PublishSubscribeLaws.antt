-- A publish-subscribe service that meets a requirement meets every weaker one.
use Rattle.std.proofs.Common.{◌≡◌, List, refl}
use Rattle.std.specs.Prelude.{IsSome}
use Rattle.iox_describe_verdict.specs.Patterns.{publish_subscribe_of}
use Rattle.iox_describe_settings.specs.DescribeBase.declared.attribute.Attribute.{Attribute}
use Rattle.iox_describe_verdict.specs.declared.requirement.publish_subscribe.Requirement.{Requirement}
use Rattle.iox_describe_settings.specs.declared.static_config.publish_subscribe.StaticConfig.{StaticConfig}
use Rattle.iox_describe_settings.specs.declared.static_config.Settings.{Settings}
use Rattle.iox_describe_settings.specs.declared.static_config.Settings.TheVariants.{RequestResponse, PublishSubscribe, Event}
use Rattle.iox_describe_settings.specs.declared.static_config.publish_subscribe.Setting.TheVariants.{EnableSafeOverflow, HistorySize}
use Rattle.iox_describe_settings.specs.declared.static_config.publish_subscribe.Setting.TheVariants.{MaxNodes, MaxPublishers}
use Rattle.iox_describe_settings.specs.declared.static_config.publish_subscribe.Setting.TheVariants.{MaxSubscribers, SequenceNumbers}
use Rattle.iox_describe_settings.specs.declared.static_config.publish_subscribe.Setting.TheVariants.{SubscriberMaxBorrowedSamples}
use Rattle.iox_describe_settings.specs.declared.static_config.publish_subscribe.Setting.TheVariants.{SubscriberMaxBufferSize, Types}
use Rattle.iox_describe_settings.specs.PublishSubscribeSettings.{value}
use Rattle.iox_describe_verdict.specs.Verdict.{first_unmet, unmet_clause}
use Rattle.iox_describe_verdict.specs.PublishSubscribeClauses.{clauses_on, clauses_of, named, IsWeaker}
use Rattle.iox_describe_verdict.specs.VerdictLemmas.{attributes, met, setting, step}

on : (weak strong : Requirement) (given : List Attribute) (c : StaticConfig) → IsWeaker weak strong
    → first_unmet (clauses_on strong given c) ≡ met → first_unmet (clauses_on weak given c) ≡ met
on weak strong given c h =
    step _ _ _ _ _ (setting (named Types weak) (named Types strong) (value Types c) (h.settings Types))
    (step _ _ _ _ _ (attributes weak.attributes strong.attributes given h.attributes)
    (step _ _ _ _ _ (setting (named EnableSafeOverflow weak) (named EnableSafeOverflow strong) (value EnableSafeOverflow c)
    (h.settings EnableSafeOverflow))
    (step _ _ _ _ _ (setting (named SequenceNumbers weak) (named SequenceNumbers strong) (value SequenceNumbers c)
    (h.settings SequenceNumbers))
    (step _ _ _ _ _ (setting (named MaxPublishers weak) (named MaxPublishers strong) (value MaxPublishers c) (h.settings MaxPublishers))
    (step _ _ _ _ _ (setting (named MaxSubscribers weak) (named MaxSubscribers strong) (value MaxSubscribers c) (h.settings MaxSubscribers))
    (step _ _ _ _ _ (setting (named SubscriberMaxBufferSize weak) (named SubscriberMaxBufferSize strong)
    (value SubscriberMaxBufferSize c) (h.settings SubscriberMaxBufferSize))
    (step _ _ _ _ _ (setting (named HistorySize weak) (named HistorySize strong) (value HistorySize c) (h.settings HistorySize))
    (step _ _ _ _ _ (setting (named SubscriberMaxBorrowedSamples weak) (named SubscriberMaxBorrowedSamples strong)
    (value SubscriberMaxBorrowedSamples c) (h.settings SubscriberMaxBorrowedSamples))
    (step _ _ _ _ _ (setting (named MaxNodes weak) (named MaxNodes strong) (value MaxNodes c) (h.settings MaxNodes))
    (λ e. e))))))))))

-- A publish-subscribe service that meets a requirement meets every weaker one.
pub weaker : (weak strong : Requirement) (given : List Attribute) (settings : Settings) → IsWeaker weak strong
    → first_unmet (clauses_of strong given settings) ≡ met → first_unmet (clauses_of weak given settings) ≡ met
weaker weak strong given (RequestResponse c) h e = e
weaker weak strong given (PublishSubscribe c) h e = step _ _ _ _ _ (λ met. met) (on weak strong given c h) e
weaker weak strong given (Event c) h e = e

-- A service that meets a requirement on publish-subscribe services is a publish-subscribe service.
pub met_is_of_pattern : (r : Requirement) (given : List Attribute) (settings : Settings)
    → first_unmet (clauses_of r given settings) ≡ met → IsSome (publish_subscribe_of settings)
unfolding unmet_clause
met_is_of_pattern r given (RequestResponse c) h = absurd cc
met_is_of_pattern r given (PublishSubscribe c) h = refl
met_is_of_pattern r given (Event c) h = absurd cc
