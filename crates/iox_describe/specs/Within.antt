-- The limits of a description: texts, types and attributes are within their limits, numbers have 64 bits, and the settings' numbers are
-- within the limits of the pattern.
use Rattle.std.specs.Prelude.{◌≡◌, ℕ, ◌<◌, ◌^◌, List, [], ◌∷◌, length, slice_index, Option, IfSome}
use Rattle.iox_describe_verdict.specs.DescribeBase.declared.hash.ServiceHash.{ServiceHash}
use Rattle.iox_describe_verdict.specs.DescribeBase.declared.message_type.MessageTypeDetails.{MessageTypeDetails}
use Rattle.iox_describe_verdict.specs.DescribeSettings.declared.setting.SettingValue.{SettingValue}
use Rattle.iox_describe_verdict.specs.DescribeSettings.declared.setting.SettingValue.TheVariants.{Switch, Number, OptionalNumber, Types}
use Rattle.iox_describe_verdict.specs.DescribeSettings.declared.static_config.Settings.{Settings}
use Rattle.iox_describe_verdict.specs.DescribeSettings.declared.static_config.Settings.TheVariants.{RequestResponse, PublishSubscribe}
use Rattle.iox_describe_verdict.specs.DescribeSettings.declared.static_config.Settings.TheVariants.{Event}
use Rattle.iox_describe_verdict.specs.DescribeSettings.EventSettings as event
use Rattle.iox_describe_verdict.specs.DescribeSettings.PublishSubscribeSettings as publish_subscribe
use Rattle.iox_describe_verdict.specs.DescribeSettings.RequestResponseSettings as request_response
use Rattle.iox_describe_verdict.specs.DescribeSettings.Agreement.{Agreement, AreWithinLimits}
use Rattle.iox_describe_verdict.specs.DescribeBase.Attributes.{AreAttributes}
use Rattle.iox_describe_verdict.specs.DescribeBase.Detail.{Detail, IsDetail}
use Rattle.iox_describe_verdict.specs.DescribeBase.Limits.{IsText}

-- The number has 64 bits.
abbrev pub IsNumber : ℕ → Type 0
IsNumber n = n < 2 ^ 64

-- There is no number, or it has 64 bits.
abbrev pub IsOption : Option ℕ → Type 0
IsOption o = IfSome o IsNumber

-- The detail of a type is valid, with 64-bit numbers.
pub record IsTypeDetail (d : Detail) : Type 0 where
  pub detail : IsDetail d
  pub size : IsNumber d.size
  pub alignment : IsNumber d.alignment

-- Each of the three types of a message is valid.
pub record AreTypes (t : MessageTypeDetails) : Type 0 where
  pub header : IsTypeDetail t.header
  pub payload : IsTypeDetail t.payload
  pub user_header : IsTypeDetail t.user_header

-- The value of a setting is valid.
abbrev pub IsValue : SettingValue → Type 0
IsValue (Switch b) = Unit {0}
IsValue (Number n) = IsNumber n
IsValue (OptionalNumber o) = IsOption o
IsValue (Types t) = AreTypes t

-- Each setting of a list has a valid value.
abbrev pub AreValues : {S C : Type 0} → (S → C → SettingValue) → C → List S → Type 0
AreValues value config [] = Unit {0}
AreValues value config (setting ∷ more) = IsValue (value setting config) × AreValues value config more

-- The settings of any pattern have valid values.
abbrev pub AreSettings : Settings → Type 0
AreSettings (RequestResponse c) = AreValues request_response.value c request_response.all
AreSettings (PublishSubscribe c) = AreValues publish_subscribe.value c publish_subscribe.all
AreSettings (Event c) = AreValues event.value c event.all

-- The hash has twenty bytes.
pub record IsHash (h : ServiceHash) : Type 0 where
  pub whole : length h.digest ≡ 20
  pub bytes : (place : ℕ) → slice_index h.digest place < 256

-- What every description has, whatever the numbers in its settings are: texts and attributes within their limits, a hash of twenty bytes,
-- and 64-bit numbers.
pub record HasForm (a : Agreement) : Type 0 where
  pub name : IsText 1 255 a.name
  pub service_hash : IsHash a.service_hash
  pub settings : AreSettings a.settings
  pub attributes : AreAttributes a.attributes

-- The agreement is one that a description can encode: every part is within its limits.
pub record IsWithinLimits (a : Agreement) : Type 0 where
  pub name : IsText 1 255 a.name
  pub service_hash : IsHash a.service_hash
  pub settings : AreSettings a.settings
  pub limits : AreWithinLimits a.settings
  pub attributes : AreAttributes a.attributes
