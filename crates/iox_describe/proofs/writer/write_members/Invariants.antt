use Rattle.std.proofs.Common.{◌≡◌, ◌++◌, drop}
use Rattle.iox_describe.specs.Writing.{rest_of_object}
use Rattle.iox_describe.proofs.writer.write_members.Given as goal

-- the tokens so far, and those of the settings that are left, are those before and those of all settings
abbrev pub invariant-loop-setting : goal.invariant-loop-setting
invariant-loop-setting g l = (l.out.before ≡ l.fn.out.before)
    × (l.out.tokens ++ rest_of_object g.S.PatternSetting.key g.S.PatternSetting.value l.config (drop l.setting-index l.settings)
    ≡ l.fn.out.tokens ++ rest_of_object g.S.PatternSetting.key g.S.PatternSetting.value l.config l.settings)
