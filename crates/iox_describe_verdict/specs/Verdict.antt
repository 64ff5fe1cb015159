-- The verdict of a list of clauses, and when a single clause is met.
use Rattle.std.specs.Prelude.{ℕ, ◌≡◌, ◌≤◌, List, [], ◌∷◌, Bool, true, false, not, nat_le, Option, Some, None, Result}
use Rattle.std.specs.Prelude.{Ok, Err}
use Rattle.std.specs.List.{find}
use Rattle.iox_describe_settings.specs.DescribeBase.Compatible.{is_compatible}
use Rattle.iox_describe_settings.specs.declared.setting.SettingValue.{SettingValue}
use Rattle.iox_describe_settings.specs.declared.setting.SettingValue.TheVariants.{Switch, Number, OptionalNumber, Types}
use Rattle.iox_describe_settings.specs.Setting.{changed_to, same_option, same_switch}

-- The verdict if this clause is the first unmet one, or if there is none.
abbrev pub verdict_at : {E : Type 0} → Option (Bool × E) → Result (Unit {0}) E
verdict_at None = Ok tt
verdict_at (Some clause) = Err clause.1

-- The first clause that isn't met.
unfoldable pub unmet_clause : {E : Type 0} → List (Bool × E) → Option (Bool × E)
unmet_clause clauses = find (λ clause. not clause.0) clauses

-- The error of the first clause that isn't met, or `Ok` if all clauses are met.
abbrev pub first_unmet : {E : Type 0} → List (Bool × E) → Result (Unit {0}) E
first_unmet clauses = verdict_at (unmet_clause clauses)

-- Whether a value meets what is asked: a number is at least the asked one, the asked types are compatible with the given ones, and a switch
-- or an option is equal.
abbrev pub meets : SettingValue → SettingValue → Bool
meets (Switch asked) (Switch given) = same_switch asked given
meets (Number asked) (Number given) = nat_le asked given
meets (OptionalNumber asked) (OptionalNumber given) = same_option asked given
meets (Types asked) (Types given) = is_compatible asked given
meets asked given = false

-- Whether a value meets what is asked, if something is asked.
abbrev pub is_met : Option SettingValue → SettingValue → Bool
is_met None given = true
is_met (Some asked) given = meets asked given

-- The configuration after each setting of a list is changed to the value that is named for it, if one is.
abbrev pub overlaid : {S C : Type 0} → (S → SettingValue → C → C) → (S → Option SettingValue) → List S → C → C
overlaid changed named [] config = config
overlaid changed named (setting ∷ more) config = overlaid changed named more (changed_to changed setting (named setting) config)

-- The first value asks at most what the second asks: a number is at most as large, types are compatible with the other ones, and a switch
-- or an option is equal.
abbrev pub IsAtMost : SettingValue → SettingValue → Type 0
IsAtMost (Switch weak) (Switch strong) = strong ≡ weak
IsAtMost (Number weak) (Number strong) = weak ≤ strong
IsAtMost (OptionalNumber weak) (OptionalNumber strong) = strong ≡ weak
IsAtMost (Types weak) (Types strong) = is_compatible weak strong ≡ true
IsAtMost weak strong = ⊥

-- The first value isn't named, or asks at most what the second asks.
abbrev pub AsksLess : Option SettingValue → Option SettingValue → Type 0
AsksLess None strong = Unit {0}
AsksLess (Some weak) None = ⊥
AsksLess (Some weak) (Some strong) = IsAtMost weak strong
