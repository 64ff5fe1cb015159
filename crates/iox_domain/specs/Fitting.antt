-- Whether the messages that a description defines can hold values of given types.
use Rattle.std.specs.Prelude.{◌≡◌, ◌⊎◌, true, codes, if◌then◌else◌}
use Rattle.iox_describe_settings.specs.DescribeBase.Detail.{Detail, detail}
use Rattle.iox_describe_settings.specs.DescribeBase.Compatible.{same_detail, is_compatible}
use Rattle.iox_describe_settings.specs.DescribeBase.declared.type_detail.TypeVariant.{TypeVariant}
use Rattle.iox_describe_settings.specs.DescribeBase.declared.type_detail.TypeVariant.TheVariants.{FixedSize, Dynamic}
use Rattle.iox_describe_settings.specs.DescribeBase.declared.message_type.MessageTypeDetails.{MessageTypeDetails}
use Rattle.iox_describe_settings.specs.Agreement.{AreWithinLimits}
use Rattle.iox_describe_settings.specs.declared.static_config.Settings.{Settings}
use Rattle.iox_describe_settings.specs.declared.static_config.Settings.TheVariants.{PublishSubscribe}
use Rattle.iox_describe_settings.specs.declared.static_config.publish_subscribe.StaticConfig.{StaticConfig}

-- The type that matches any payload: one byte.
abbrev pub any_payload : Detail
any_payload = detail FixedSize (codes "CustomPayloadMarker") 1 1

-- The type that matches any user header: it has no bytes.
abbrev pub any_user_header : Detail
any_user_header = detail FixedSize (codes "CustomHeaderMarker") 0 1

-- The given type, if the type that matches any type is asked for; otherwise the type that is asked for.
abbrev pub stood_for : Detail → Detail → Detail → Detail
stood_for any asked given = if same_detail asked any then given else asked

-- The types that a builder asks for: one value of a type, or a slice of such values, with the header of all services and a user
-- header.
abbrev pub asked_types : TypeVariant → Detail → Detail → MessageTypeDetails
asked_types variant payload user_header = record {
  header = detail FixedSize (codes "Header") 24 8;
  user_header = user_header;
  payload = record payload { variant = variant };
}

-- A builder for single values or for slices, with this user header, finds the types of messages compatible.
abbrev pub FitTypes : Detail → Detail → MessageTypeDetails → Type 0
FitTypes payload user_header types =
    (is_compatible (asked_types FixedSize (stood_for any_payload payload types.payload)
    (stood_for any_user_header user_header types.user_header)) types ≡ true)
    ⊎ (is_compatible (asked_types Dynamic (stood_for any_payload payload types.payload)
    (stood_for any_user_header user_header types.user_header)) types ≡ true)

-- The settings are those of a publish-subscribe service within the limits of a description, and a builder with these types
-- finds its types compatible.
abbrev pub Fits : Detail → Detail → Settings → Type 0
Fits payload user_header settings =
    (config : StaticConfig) × (settings ≡ PublishSubscribe config) × AreWithinLimits settings × FitTypes payload user_header config.types
