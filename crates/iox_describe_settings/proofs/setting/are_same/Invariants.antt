use Rattle.std.proofs.Common.{◌≡◌, drop}
use Rattle.iox_describe_settings.specs.Setting.{all_same}
use Rattle.iox_describe_settings.proofs.setting.are_same.Given as goal

-- whether those that are left are the same is whether all are
abbrev pub invariant-loop-setting : goal.invariant-loop-setting
invariant-loop-setting g l =
    all_same g.S.PatternSetting.value (drop l.setting-index l.setting-items) l.first l.second
    ≡ all_same g.S.PatternSetting.value l.setting-items l.first l.second
