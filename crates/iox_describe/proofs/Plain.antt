-- The JSON of a description within the limits is read back from its text.
use Rattle.std.proofs.Common.{◌<◌, ◌^◌}
use Rattle.std.proofs.Common.{◌≡◌, ◌&&◌, ℕ, zero, suc, List, [], ◌∷◌, map, Bool, true, Option, Some, None, refl, arith, lit<}
use Rattle.std.specs.Prelude.{All}
use Rattle.std.specs.Cmp.{first_so, second_so}
use Rattle.std.specs.Str.{IsAscii, IsUtf8}
use Rattle.std.proofs.lemmas.Bool.{ltb-true}
use Rattle.std.proofs.lemmas.Str.{IsUtf8-from_ascii}
use Rattle.hex.specs.Hex.{encode_lower, lower_digits}
use Rattle.hex.proofs.HexLemmas.{IsAscii-encode_with}
use Rattle.iox_describe.proofs.ReadBack.{IsUtf8-are_ascii, are_ascii}
use Rattle.serde_json.specs.View.{items_of}
use Rattle.serde_json.specs.Read.{read}
use Rattle.iox_describe_verdict.specs.Container.StringBytes.{IsStringBytes}
use Rattle.iox_describe.specs.Plain.{IsPlain, AreItems, AreMembers}
use Rattle.iox_describe.proofs.ReadBack.{plain-read, plain-utf8}
use Rattle.iox_describe_verdict.specs.DescribeBase.declared.attribute.Attribute.{Attribute}
use Rattle.iox_describe_verdict.specs.DescribeBase.declared.message_type.MessageTypeDetails.{MessageTypeDetails}
use Rattle.iox_describe_verdict.specs.DescribeBase.declared.type_detail.TypeVariant.{TypeVariant}
use Rattle.iox_describe_verdict.specs.DescribeBase.declared.type_detail.TypeVariant.TheVariants.{FixedSize, Dynamic}
use Rattle.iox_describe_verdict.specs.DescribeBase.Attributes.{IsAttribute}
use Rattle.iox_describe_verdict.specs.DescribeBase.Detail.{Detail}
use Rattle.iox_describe_verdict.specs.DescribeSettings.Agreement.{Agreement, pattern_of}
use Rattle.iox_describe_verdict.specs.DescribeSettings.declared.setting.SettingValue.{SettingValue}
use Rattle.iox_describe_verdict.specs.DescribeSettings.declared.setting.SettingValue.TheVariants.{Switch, Number, OptionalNumber, Types}
use Rattle.iox_describe_verdict.specs.DescribeSettings.declared.description.Version.{Version}
use Rattle.iox_describe_verdict.specs.DescribeSettings.declared.description.Version.TheVariants.{One, Two}
use Rattle.iox_describe_verdict.specs.DescribeSettings.declared.static_config.Settings.{Settings}
use Rattle.iox_describe_verdict.specs.DescribeSettings.declared.static_config.publish_subscribe.StaticConfig.{StaticConfig}
use Rattle.iox_describe_verdict.specs.DescribeSettings.Versions.{number_of}
use Rattle.iox_describe_verdict.specs.DescribeSettings.declared.static_config.Settings.TheVariants.{RequestResponse, PublishSubscribe}
use Rattle.iox_describe_verdict.specs.DescribeSettings.declared.static_config.Settings.TheVariants.{Event}
use Rattle.iox_describe_verdict.specs.DescribeSettings.RequestResponseSettings as request_response
use Rattle.iox_describe_verdict.specs.DescribeSettings.PublishSubscribeSettings as publish_subscribe
use Rattle.iox_describe_verdict.specs.DescribeSettings.EventSettings as event
use Rattle.iox_describe.specs.Line.{attribute_tree, detail_tree, line, option_tree, pattern_word, settings_members, settings_tree, tree}
use Rattle.iox_describe.specs.Line.{types_tree, value_tree, variant_word}
use Rattle.iox_describe.specs.Within.{AreSettings, AreTypes, AreValues, IsTypeDetail, IsValue, IsWithinLimits, IsOption}

-- ---- texts are UTF-8

string_ascii : (bytes : List ℕ) → IsStringBytes bytes → IsAscii bytes
string_ascii [] h i = omega arith
string_ascii (x ∷ xs) h zero = let b = h 0 0 (omega arith) in omega (arith, b.1)
string_ascii (x ∷ xs) h (suc i) = string_ascii xs (λ k d lt. h (suc k) d (omega arith)) i

text : (bytes : List ℕ) → IsStringBytes bytes → IsUtf8 bytes
text bytes h = IsUtf8-from_ascii bytes (string_ascii bytes h)

ascii : (xs : List ℕ) → are_ascii xs ≡ true → IsAscii xs
ascii [] e i = omega arith
ascii (x ∷ xs) e zero = ltb-true x 128 (first_so _ (are_ascii xs) e)
ascii (x ∷ xs) e (suc i) = ascii xs (second_so _ (are_ascii xs) e) i

digits : (bytes : List ℕ) → IsUtf8 (encode_lower bytes)
digits bytes = IsUtf8-from_ascii _ (IsAscii-encode_with lower_digits bytes (ascii lower_digits refl))

variant : (v : TypeVariant) → IsUtf8 (variant_word v)
variant FixedSize = IsUtf8-are_ascii _ refl
variant Dynamic = IsUtf8-are_ascii _ refl

pattern : (s : Settings) → IsUtf8 (pattern_word (pattern_of s))
pattern (RequestResponse c) = IsUtf8-are_ascii _ refl
pattern (PublishSubscribe c) = IsUtf8-are_ascii _ refl
pattern (Event c) = IsUtf8-are_ascii _ refl

-- ---- the parts are plain

detail : (d : Detail) → IsTypeDetail d → IsPlain 1 (detail_tree d)
detail d h = (
  refl,
  (
    IsUtf8-are_ascii _ refl,
    h.alignment,
    (
      IsUtf8-are_ascii _ refl,
      text d.name h.detail.0.2,
      (
        IsUtf8-are_ascii _ refl,
        h.size,
        (IsUtf8-are_ascii _ refl, variant d.variant, tt),
      ),
    ),
  ),
)

types : (t : MessageTypeDetails) → AreTypes t → IsPlain 2 (types_tree t)
types t h = (
  refl,
  (
    IsUtf8-are_ascii _ refl,
    detail t.header h.header,
    (
      IsUtf8-are_ascii _ refl,
      detail t.payload h.payload,
      (IsUtf8-are_ascii _ refl, detail t.user_header h.user_header, tt),
    ),
  ),
)

option : (o : Option ℕ) → IsOption o → IsPlain 2 (option_tree o)
option None h = tt
option (Some n) h = h

setting : (v : SettingValue) → IsValue v → IsPlain 2 (value_tree v)
setting (Switch b) h = tt
setting (Number n) h = h
setting (OptionalNumber o) h = option o h
setting (Types t) h = types t h

-- whether the keys of a list are ASCII
abbrev keys_ascii : {S : Type 0} → (S → List ℕ) → List S → Bool
keys_ascii key [] = true
keys_ascii key (s ∷ more) = are_ascii (key s) && keys_ascii key more

members : {S C : Type 0} (key : S → List ℕ) (value : S → C → SettingValue) (all : List S) (c : C) → keys_ascii key all ≡ true
    → AreValues value c all → AreMembers 2 (settings_members key value all c)
members key value [] c e h = tt
members key value (s ∷ more) c e h = (
  IsUtf8-are_ascii (key s) (first_so (are_ascii (key s)) (keys_ascii key more) e),
  setting (value s c) h.0,
  members key value more c (second_so (are_ascii (key s)) (keys_ascii key more) e) h.1,
)

-- the values of a line of the version are among all
pub values-written : (version : Version) (c : StaticConfig) → AreValues publish_subscribe.value c publish_subscribe.all
    → AreValues publish_subscribe.value c (publish_subscribe.written version)
values-written One c h = (h.0, (h.1.0, (h.1.1.0, (h.1.1.1.0, (h.1.1.1.1.0, h.1.1.1.1.1.1)))))
values-written Two c h = h

settings : (version : Version) (s : Settings) → AreSettings s → IsPlain 3 (settings_tree version s)
settings version (RequestResponse c) h = (refl, members request_response.key request_response.value request_response.all c refl h)
settings One (PublishSubscribe c) h
    = (refl, members publish_subscribe.key publish_subscribe.value (publish_subscribe.written One) c refl (values-written One c h))
settings Two (PublishSubscribe c) h = (refl, members publish_subscribe.key publish_subscribe.value publish_subscribe.all c refl h)
settings version (Event c) h = (refl, members event.key event.value event.all c refl h)

attributes : (pairs : List Attribute) → All IsAttribute pairs → AreItems 2 (items_of (map attribute_tree pairs))
attributes [] h = tt
attributes (a ∷ more) h =
    let here = h 0 a (omega arith) in
    ((text a.key here.0.2, (text a.value here.1.2, tt)), attributes more (λ k d lt. h (suc k) d (omega arith)))

number : (version : Version) → number_of version < 2 ^ 64
number One = lit< tt
number Two = lit< tt

pub plain : (version : Version) (a : Agreement) → IsWithinLimits a → IsPlain 4 (tree version a)
plain version a h = (
  refl,
  (
    IsUtf8-are_ascii _ refl,
    attributes a.attributes h.attributes.1,
    (
      IsUtf8-are_ascii _ refl,
      text a.name h.name.2,
      (
        IsUtf8-are_ascii _ refl,
        pattern a.settings,
        (
          IsUtf8-are_ascii _ refl,
          digits a.service_hash.digest,
          (
            IsUtf8-are_ascii _ refl,
            settings version a.settings h.settings,
            (IsUtf8-are_ascii _ refl, number version, tt),
          ),
        ),
      ),
    ),
  ),
)

-- a line is text, and reads as the JSON of its description
pub line-utf8 : (version : Version) (a : Agreement) → IsWithinLimits a → IsUtf8 (line version a)
unfolding line
line-utf8 version a h = plain-utf8 4 (tree version a) (plain version a h)

pub line-read : (version : Version) (a : Agreement) → IsWithinLimits a → read (line version a) ≡ Some (tree version a)
unfolding line
line-read version a h = plain-read 4 (tree version a) (omega arith) (plain version a h)
