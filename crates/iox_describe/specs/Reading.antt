-- When settings are found in a JSON value, and the error of a refused attribute.
use Rattle.std.specs.Prelude.{◌≡◌, ℕ, List, [], ◌∷◌, Some}
use Rattle.serde_json.specs.Data.{Data}
use Rattle.serde_json.specs.Find.{get}
use Rattle.iox_describe_verdict.specs.DescribeBase.declared.attribute.AttributeError.{AttributeError}
use Rattle.iox_describe_verdict.specs.DescribeBase.declared.attribute.AttributeError.TheVariants as refusal
use Rattle.iox_describe_verdict.specs.DescribeSettings.declared.setting.SettingValue.{SettingValue}
use Rattle.iox_describe.specs.declared.error.DescriptionError.{DescriptionError}
use Rattle.iox_describe.specs.declared.error.DescriptionError.TheVariants.{Invalid, OutOfMemory}
use Rattle.iox_describe.specs.Line.{value_tree}

-- Each setting of a list is found under its key.
abbrev pub AreFound : {S C : Type 0} → (S → List ℕ) → (S → C → SettingValue) → List S → C → Data → Type 0
AreFound key value [] target d = Unit {0}
AreFound key value (setting ∷ more) target d = (get (key setting) d ≡ Some (value_tree (value setting target)))
    × AreFound key value more target d

-- The description error for an attribute error: invalid if the attribute is outside the limits, or out of memory.
abbrev pub description_error : AttributeError → DescriptionError
description_error (refusal.LimitError limit) = Invalid
description_error refusal.OutOfMemory = OutOfMemory
