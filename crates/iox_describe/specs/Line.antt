-- How a description is encoded: as the compact text of a JSON object, whose keys are in rising order.
use Rattle.std.specs.Prelude.{◌≡◌, ℕ, List, [], ◌∷◌, map, Option, Some, None, codes}
use Rattle.serde_json.specs.Data.{unsigned, Data, null, boolean, number, string, array, object, no_items, item, Members, no_members, member}
use Rattle.serde_json.specs.View.{items_of}
use Rattle.serde_json.specs.Written.{compact_text}
use Rattle.iox_describe_verdict.specs.DescribeBase.declared.attribute.Attribute.{Attribute}
use Rattle.iox_describe_verdict.specs.DescribeBase.declared.message_type.MessageTypeDetails.{MessageTypeDetails}
use Rattle.iox_describe_verdict.specs.DescribeBase.declared.pattern.MessagingPattern.{MessagingPattern}
use Rattle.iox_describe_verdict.specs.DescribeBase.declared.pattern.MessagingPattern.TheVariants as pattern
use Rattle.iox_describe_verdict.specs.DescribeSettings.declared.description.Version.{Version}
use Rattle.iox_describe_verdict.specs.DescribeSettings.Versions.{number_of, HasAll}
use Rattle.iox_describe_verdict.specs.DescribeSettings.declared.static_config.Settings.{Settings}
use Rattle.iox_describe_verdict.specs.DescribeSettings.declared.static_config.Settings.TheVariants.{RequestResponse, PublishSubscribe}
use Rattle.iox_describe_verdict.specs.DescribeSettings.declared.static_config.Settings.TheVariants.{Event}
use Rattle.iox_describe_verdict.specs.DescribeSettings.declared.setting.SettingValue.{SettingValue}
use Rattle.iox_describe_verdict.specs.DescribeSettings.declared.setting.SettingValue.TheVariants.{Switch, Number, OptionalNumber, Types}
use Rattle.iox_describe_verdict.specs.DescribeBase.declared.type_detail.TypeVariant.{TypeVariant}
use Rattle.iox_describe_verdict.specs.DescribeBase.declared.type_detail.TypeVariant.TheVariants.{FixedSize, Dynamic}
use Rattle.iox_describe_verdict.specs.DescribeSettings.Agreement.{Agreement, pattern_of}
use Rattle.iox_describe_verdict.specs.DescribeBase.Detail.{Detail}
use Rattle.iox_describe_verdict.specs.DescribeBase.Hash.{hash_text}
use Rattle.iox_describe_verdict.specs.DescribeSettings.RequestResponseSettings as request_response
use Rattle.iox_describe_verdict.specs.DescribeSettings.PublishSubscribeSettings as publish_subscribe
use Rattle.iox_describe_verdict.specs.DescribeSettings.EventSettings as event

-- A number that isn't negative, as JSON.
abbrev pub natural : ℕ → Data
natural n = number (unsigned n)

-- An option as JSON: null or its number.
abbrev pub option_tree : Option ℕ → Data
option_tree None = null
option_tree (Some n) = natural n

-- The word of a variant.
abbrev pub variant_word : TypeVariant → List ℕ
variant_word FixedSize = codes "FixedSize"
variant_word Dynamic = codes "Dynamic"

-- The detail of a type as JSON.
abbrev pub detail_tree : Detail → Data
detail_tree d =
    object
    (member (codes "alignment") (natural d.alignment)
    (member (codes "name") (string d.name)
    (member (codes "size") (natural d.size)
    (member (codes "variant") (string (variant_word d.variant))
    no_members))))

-- The types of a message as JSON.
abbrev pub types_tree : MessageTypeDetails → Data
types_tree t =
    object
    (member (codes "header") (detail_tree t.header)
    (member (codes "payload") (detail_tree t.payload)
    (member (codes "user_header") (detail_tree t.user_header)
    no_members)))

-- The value of a setting as JSON.
abbrev pub value_tree : SettingValue → Data
value_tree (Switch b) = boolean b
value_tree (Number n) = natural n
value_tree (OptionalNumber o) = option_tree o
value_tree (Types t) = types_tree t

-- The settings of a list as JSON members, each under its key.
abbrev pub settings_members : {S C : Type 0} → (S → List ℕ) → (S → C → SettingValue) → List S → C → Members
settings_members key value [] config = no_members
settings_members key value (setting ∷ more) config
    = member (key setting) (value_tree (value setting config)) (settings_members key value more config)

-- The settings of any pattern as JSON, as a line of this version has them.
abbrev pub settings_tree : Version → Settings → Data
settings_tree version (RequestResponse c) = object (settings_members request_response.key request_response.value request_response.all c)
settings_tree version (PublishSubscribe c)
    = object (settings_members publish_subscribe.key publish_subscribe.value (publish_subscribe.written version) c)
settings_tree version (Event c) = object (settings_members event.key event.value event.all c)

-- The word of a pattern.
abbrev pub pattern_word : MessagingPattern → List ℕ
pattern_word pattern.RequestResponse = codes "request_response"
pattern_word pattern.PublishSubscribe = codes "publish_subscribe"
pattern_word pattern.Event = codes "event"

-- An attribute as JSON: its key and its value.
abbrev pub attribute_tree : Attribute → Data
attribute_tree a = array (item (string a.key) (item (string a.value) no_items))

-- The attributes as JSON, in their order.
abbrev pub attributes_tree : List Attribute → Data
attributes_tree attributes = array (items_of (map attribute_tree attributes))

-- An agreement as JSON of this version.
abbrev pub tree : Version → Agreement → Data
tree version a =
    object
    (member (codes "attributes") (attributes_tree a.attributes)
    (member (codes "name") (string a.name)
    (member (codes "pattern") (string (pattern_word (pattern_of a.settings)))
    (member (codes "service_hash") (string (hash_text a.service_hash))
    (member (codes "settings") (settings_tree version a.settings)
    (member (codes "version") (natural (number_of version))
    no_members))))))

-- The line of this version that encodes an agreement.
unfoldable pub line : Version → Agreement → List ℕ
line version a = compact_text (tree version a)

-- The bytes encode an agreement: they are its line of a version that can state all of its settings.
abbrev pub Spells : List ℕ → Agreement → Type 0
Spells bytes a = (version : Version) × HasAll version a.settings × (bytes ≡ line version a)
