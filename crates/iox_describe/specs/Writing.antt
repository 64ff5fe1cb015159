-- What a writer of JSON adds to its text, as tokens.
use Rattle.std.specs.Prelude.{◌≡◌, ℕ, List, ◌∷◌, ◌++◌, map}
use Rattle.json.specs.Token.{Token}
use Rattle.json.specs.Tree.{items_tokens, json_tokens, members_tokens}
use Rattle.json.specs.Written.{Written}
use Rattle.serde_json.specs.Data.{Data}
use Rattle.serde_json.specs.View.{items_of}
use Rattle.serde_json.specs.Written.{items_outline, members_outline, outline}
use Rattle.iox_describe_verdict.specs.DescribeBase.declared.attribute.Attribute.{Attribute}
use Rattle.iox_describe_verdict.specs.DescribeSettings.declared.setting.SettingValue.{SettingValue}
use Rattle.iox_describe.specs.Line.{attribute_tree, settings_members}

-- The tokens of a value.
abbrev pub value_tokens : Data → List Token
value_tokens d = json_tokens (outline d)

-- The tokens of a member of an object: its key, and then those of its value.
abbrev pub member_tokens : List ℕ → Data → List Token
member_tokens k d = Token.key k ∷ value_tokens d

-- The tokens of these attributes as the last items of an array, and of the array's end.
abbrev pub rest_of_array : List Attribute → List Token
rest_of_array attributes = items_tokens (items_outline (items_of (map attribute_tree attributes)))

-- The tokens of these settings as the last members of an object, and of the object's end.
abbrev pub rest_of_object : {S C : Type 0} → (S → List ℕ) → (S → C → SettingValue) → C → List S → List Token
rest_of_object key value config settings = members_tokens (members_outline (settings_members key value settings config))

-- The writer added these tokens after those that it had written, and kept the bytes before its tokens.
abbrev pub Adds : List Token → Written → Written → Type 0
Adds ts old new = (new.before ≡ old.before) × (new.tokens ≡ old.tokens ++ ts)
