-- What a line of the version has is read, and what it can't say was off before.
use Rattle.std.proofs.Common.{rules, ◌≡◌, List, Some, ap, refl, sym, subst, ◌∙◌}
use Rattle.serde_json.specs.Data.{Data}
use Rattle.serde_json.specs.View.{view}
use Rattle.iox_describe_verdict.specs.DescribeBase.declared.message_type.MessageTypeDetails.{MessageTypeDetails}
use Rattle.iox_describe_verdict.specs.DescribeSettings.declared.description.Version.{Version}
use Rattle.iox_describe_verdict.specs.DescribeSettings.declared.description.Version.TheVariants.{One, Two}
use Rattle.iox_describe_verdict.specs.DescribeSettings.declared.static_config.Settings.TheVariants.{PublishSubscribe}
use Rattle.iox_describe_verdict.specs.DescribeSettings.declared.static_config.publish_subscribe.Setting.{Setting}
use Rattle.iox_describe_verdict.specs.DescribeSettings.declared.static_config.publish_subscribe.StaticConfig.{StaticConfig}
use Rattle.iox_describe_verdict.specs.DescribeSettings.PublishSubscribeSettings.{changed, defaults, key, value, written}
use Rattle.iox_describe_verdict.specs.DescribeSettings.Setting.{filled}
use Rattle.iox_describe_verdict.specs.DescribeSettings.Versions.{HasAll}
use Rattle.iox_describe.specs.Line.{settings_tree}
use Rattle.iox_describe.specs.Reading.{AreFound}
use Rattle.iox_describe.specs.Within.{AreValues}
use Rattle.iox_describe.proofs.Plain.{values-written}
use Rattle.iox_describe.proofs.reader.publish_subscribe_of.Goals as goal

found : (version : Version) (target : StaticConfig)
    → AreFound key value (written version) target (settings_tree version (PublishSubscribe target))
found One target = search rules
found Two target = search rules

fills : (version : Version) (target : StaticConfig) (types : MessageTypeDetails) → HasAll version (PublishSubscribe target)
    → filled value changed (written version) target (defaults types) ≡ target
fills One target types off = λ i. record target { sequence_numbers = sym off i }
fills Two target types off = refl

pub returns : goal.returns
returns c =
    λ target within has shown.
    let listed : c.written.result.now ≡ written c.args.version = c.written.ensures in
    let values = subst (λ (l : List Setting). AreValues value target l) (sym listed) (values-written c.args.version target within) in
    let stands = subst (λ (l : List Setting). AreFound key value l target (view c.args.value.now)) (sym listed)
    (subst (λ (d : Data). AreFound key value (written c.args.version) target d) (sym shown) (found c.args.version target)) in
    c.filled.ensures target values stands
    ∙ ap (λ l. Some (filled value changed l target c.new-config.result)) listed
    ∙ ap (λ config. Some (filled value changed (written c.args.version) target config)) c.new-config.ensures
    ∙ ap Some (fills c.args.version target c.some_types.result has)
