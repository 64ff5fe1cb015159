use Rattle.std.proofs.Common.{◌≡◌, drop}
use Rattle.iox_describe_settings.specs.Setting.{defaulted}
use Rattle.iox_describe_settings.proofs.setting.with_defaults.Given as goal

-- what the settings that are left make of it is what all make of it
abbrev pub invariant-loop-setting : goal.invariant-loop-setting
invariant-loop-setting g l =
    defaulted g.S.PatternSetting.rule g.S.PatternSetting.changed (drop l.setting-index l.setting-items) l.config
    ≡ defaulted g.S.PatternSetting.rule g.S.PatternSetting.changed l.setting-items l.initial.config
