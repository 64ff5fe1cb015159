-- No line of a description within the limits is longer than 32,768 bytes.
use Rattle.std.proofs.Common.{◌≤◌, ◌+◌, ◌*◌, ℕ, suc, List, [], ◌∷◌, length, map, Option, Some, None, arith}
use Rattle.std.specs.Prelude.{All}
use Rattle.hex.specs.Hex.{lower_digits}
use Rattle.hex.proofs.HexLemmas.{length-encode_with}
use Rattle.serde_json.specs.View.{items_of}
use Rattle.iox_describe.proofs.JsonValuesLength.{bound, items_bound, text_bound}
use Rattle.iox_describe_verdict.specs.DescribeBase.declared.attribute.Attribute.{Attribute}
use Rattle.iox_describe_verdict.specs.DescribeBase.declared.message_type.MessageTypeDetails.{MessageTypeDetails}
use Rattle.iox_describe_verdict.specs.DescribeBase.declared.type_detail.TypeVariant.{TypeVariant}
use Rattle.iox_describe_verdict.specs.DescribeBase.declared.type_detail.TypeVariant.TheVariants.{FixedSize, Dynamic}
use Rattle.iox_describe_verdict.specs.DescribeBase.Attributes.{IsAttribute}
use Rattle.iox_describe_verdict.specs.DescribeBase.Detail.{Detail}
use Rattle.iox_describe_verdict.specs.DescribeSettings.Agreement.{Agreement, pattern_of}
use Rattle.iox_describe_verdict.specs.DescribeSettings.declared.description.Version.{Version}
use Rattle.iox_describe_verdict.specs.DescribeSettings.declared.description.Version.TheVariants.{One, Two}
use Rattle.iox_describe_verdict.specs.DescribeSettings.declared.static_config.Settings.{Settings}
use Rattle.iox_describe_verdict.specs.DescribeSettings.declared.static_config.Settings.TheVariants.{RequestResponse, PublishSubscribe}
use Rattle.iox_describe_verdict.specs.DescribeSettings.declared.static_config.Settings.TheVariants.{Event}
use Rattle.iox_describe.specs.Line.{attribute_tree, detail_tree, line, option_tree, pattern_word, settings_tree, tree, types_tree}
use Rattle.iox_describe.specs.Line.{variant_word}
use Rattle.iox_describe.specs.Within.{AreSettings, AreTypes, IsTypeDetail, IsWithinLimits}
use Rattle.iox_describe.proofs.Plain.{plain}

variant : (v : TypeVariant) → length (variant_word v) ≤ 9
variant FixedSize = omega arith
variant Dynamic = omega arith

pattern : (s : Settings) → length (pattern_word (pattern_of s)) ≤ 17
pattern (RequestResponse c) = omega arith
pattern (PublishSubscribe c) = omega arith
pattern (Event c) = omega arith

detail : (d : Detail) → IsTypeDetail d → bound (detail_tree d) ≤ 1800
detail d h = omega (arith, variant d.variant, h.detail.0.1)

types : (t : MessageTypeDetails) → AreTypes t → bound (types_tree t) ≤ 5600
types t h = omega (arith, detail t.header h.header, detail t.payload h.payload, detail t.user_header h.user_header)

option : (o : Option ℕ) → bound (option_tree o) ≤ 20
option None = omega arith
option (Some n) = omega arith

settings : (version : Version) (s : Settings) → AreSettings s → bound (settings_tree version s) ≤ 13200
settings version (RequestResponse c) h = omega
    (arith, types c.request_types h.1.1.1.1.1.1.1.1.1.1.0, types c.response_types h.1.1.1.1.1.1.1.1.1.1.1.0)
settings One (PublishSubscribe c) h = omega (arith, types c.types h.1.1.1.1.1.1.1.1.0)
settings Two (PublishSubscribe c) h = omega (arith, types c.types h.1.1.1.1.1.1.1.1.0)
settings version (Event c) h = omega
    (arith, option c.deadline, option c.notifier_created_event, option c.notifier_dead_event, option c.notifier_dropped_event)

attributes : (pairs : List Attribute) → All IsAttribute pairs → items_bound (items_of (map attribute_tree pairs)) ≤ 1 + 2000 * length pairs
attributes [] h = omega arith
attributes (a ∷ more) h =
    let here = h 0 a (omega arith) in
    omega (arith, here.0.1, here.1.1, attributes more (λ k d lt. h (suc k) d (omega arith)))

whole : (version : Version) (a : Agreement) → IsWithinLimits a → bound (tree version a) ≤ 32768
whole version a h =
    omega (
      arith,
      attributes a.attributes h.attributes.1,
      h.attributes.0,
      h.name.1,
      pattern a.settings,
      length-encode_with lower_digits a.service_hash.digest,
      h.service_hash.whole,
      settings version a.settings h.settings,
    )

pub line_length : (version : Version) (a : Agreement) → IsWithinLimits a → length (line version a) ≤ 32768
unfolding line
line_length version a h = omega (arith, text_bound 4 (tree version a) (plain version a h), whole version a h)
