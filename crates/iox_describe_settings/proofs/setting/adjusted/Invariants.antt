use Rattle.std.proofs.Common.{◌≡◌, drop}
use Rattle.iox_describe_settings.specs.Setting.{adjusted}
use Rattle.iox_describe_settings.proofs.setting.adjusted.Given as goal

-- what the settings that are left make of it is what all make of it
abbrev pub invariant-loop-setting : goal.invariant-loop-setting
invariant-loop-setting g l =
    adjusted g.S.PatternSetting.rule g.S.PatternSetting.value g.S.PatternSetting.changed (drop l.setting-index l.setting-items) l.config
    ≡ adjusted g.S.PatternSetting.rule g.S.PatternSetting.value g.S.PatternSetting.changed l.setting-items l.initial.config
