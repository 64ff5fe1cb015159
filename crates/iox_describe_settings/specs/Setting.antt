-- The values and rules of settings.
use Rattle.std.specs.Prelude.{ℕ, ◌≤◌, ◌<◌, ◌==◌, max, List, [], ◌∷◌, Bool, true, false, ◌&&◌, not, All, Option, Some, None}
use Rattle.std.specs.Cmp.Lexicographic.{slice_cmp}
use Rattle.std.specs.Ordering.{is_lt, nat_cmp}
use Rattle.iox_describe_base.specs.declared.message_type.MessageTypeDetails.{MessageTypeDetails}
use Rattle.iox_describe_base.specs.Compatible.{same_detail}
use Rattle.iox_describe_settings.specs.declared.setting.NumberRule.{NumberRule}
use Rattle.iox_describe_settings.specs.declared.setting.Rule.{Rule}
use Rattle.iox_describe_settings.specs.declared.setting.Rule.TheVariants as rule
use Rattle.iox_describe_settings.specs.declared.setting.SettingValue.{SettingValue}
use Rattle.iox_describe_settings.specs.declared.setting.SettingValue.TheVariants.{Switch, Number, OptionalNumber, Types}

-- The rule of a switch with this default.
abbrev pub switch : Bool → Rule
switch default = rule.Switch default

-- The rule of a number with this default, which is at least `least` and below `end`.
abbrev pub number : ℕ → ℕ → Option ℕ → Rule
number default least end = rule.Number (record { default = default; least = least; end = end })

-- The rule of an optional number with this default.
abbrev pub optional_number : Option ℕ → Rule
optional_number default = rule.OptionalNumber default

-- The rule of types.
abbrev pub types : Rule
types = rule.Types

-- The value is of the kind that the rule is for.
abbrev pub IsOfKind : Rule → SettingValue → Type 0
IsOfKind (rule.Switch default) (Switch a) = Unit {0}
IsOfKind (rule.Number range) (Number a) = Unit {0}
IsOfKind (rule.OptionalNumber default) (OptionalNumber a) = Unit {0}
IsOfKind rule.Types (Types a) = Unit {0}
IsOfKind other value = ⊥

-- The value if nothing is asked; none for types.
abbrev pub default_of : Rule → Option SettingValue
default_of (rule.Switch default) = Some (Switch default)
default_of (rule.Number range) = Some (Number range.default)
default_of (rule.OptionalNumber default) = Some (OptionalNumber default)
default_of rule.Types = None

-- A number is raised to the least possible one, and any other value stays.
abbrev pub adjusted_value : Rule → SettingValue → SettingValue
adjusted_value (rule.Number range) (Number n) = Number (max n range.least)
adjusted_value other value = value

-- The number is below the end, if there is one.
abbrev pub IsBelow : Option ℕ → ℕ → Type 0
IsBelow None n = Unit {0}
IsBelow (Some end) n = n < end

-- The number is within the limits.
abbrev pub IsBetween : NumberRule → ℕ → Type 0
IsBetween range n = (range.least ≤ n) × IsBelow range.end n

-- If the value is a number, it is within its limits.
abbrev pub IsAllowed : Rule → SettingValue → Type 0
IsAllowed (rule.Number range) (Number n) = IsBetween range n
IsAllowed other value = Unit {0}

-- Whether the keys are in rising order of their bytes.
abbrev pub keys_rise : {S : Type 0} → (S → List ℕ) → List S → Bool
keys_rise key [] = true
keys_rise key (a ∷ []) = true
keys_rise key (a ∷ b ∷ more) = is_lt (slice_cmp nat_cmp (key a) (key b)) && keys_rise key (b ∷ more)

-- The configuration after each setting of a list is changed to its value in the target.
abbrev pub filled : {S C V : Type 0} → (S → C → V) → (S → V → C → C) → List S → C → C → C
filled value changed [] target config = config
filled value changed (setting ∷ more) target config = filled value changed more target (changed setting (value setting target) config)

-- The configuration after a setting is changed to a value, if there is one.
abbrev pub changed_to : {S C V : Type 0} → (S → V → C → C) → S → Option V → C → C
changed_to changed setting None config = config
changed_to changed setting (Some value) config = changed setting value config

-- The configuration after each setting of a list that has a default is changed to it.
abbrev pub defaulted : {S C : Type 0} → (S → Rule) → (S → SettingValue → C → C) → List S → C → C
defaulted rule changed [] config = config
defaulted rule changed (setting ∷ more) config = defaulted rule changed more (changed_to changed setting (default_of (rule setting)) config)

-- The configuration after each number of a list is raised to the least possible one.
abbrev pub adjusted : {S C : Type 0} → (S → Rule) → (S → C → SettingValue) → (S → SettingValue → C → C) → List S → C → C
adjusted rule value changed [] config = config
adjusted rule value changed (setting ∷ more) config
    = adjusted rule value changed more (changed setting (adjusted_value (rule setting) (value setting config)) config)

-- Each number of a list is within its limits.
abbrev pub AreAllowed : {S C : Type 0} → (S → Rule) → (S → C → SettingValue) → List S → C → Type 0
AreAllowed rule value settings config = All (λ setting. IsAllowed (rule setting) (value setting config)) settings

-- Whether two switches are equal.
abbrev pub same_switch : Bool → Bool → Bool
same_switch true given = given
same_switch false given = not given

-- Whether two options are equal.
abbrev pub same_option : Option ℕ → Option ℕ → Bool
same_option None None = true
same_option None (Some given) = false
same_option (Some asked) None = false
same_option (Some asked) (Some given) = asked == given

-- Whether the types of two messages are equal.
abbrev pub same_types : MessageTypeDetails → MessageTypeDetails → Bool
same_types a b = same_detail a.header b.header && (same_detail a.user_header b.user_header && same_detail a.payload b.payload)

-- Whether two values are equal.
abbrev pub same_value : SettingValue → SettingValue → Bool
same_value (Switch a) (Switch b) = same_switch a b
same_value (Number a) (Number b) = a == b
same_value (OptionalNumber a) (OptionalNumber b) = same_option a b
same_value (Types a) (Types b) = same_types a b
same_value a b = false

-- Whether each setting of a list is equal in both configurations.
abbrev pub all_same : {S C : Type 0} → (S → C → SettingValue) → List S → C → C → Bool
all_same value [] first second = true
all_same value (setting ∷ more) first second = same_value (value setting first) (value setting second) && all_same value more first second
