use Rattle.std.proofs.Common.{◌≡◌, drop}
use Rattle.serde_json.specs.View.{view}
use Rattle.iox_describe_verdict.specs.DescribeSettings.Setting as all_settings
use Rattle.iox_describe.specs.Reading.{AreFound}
use Rattle.iox_describe.specs.Within.{AreValues}
use Rattle.iox_describe.proofs.reader.filled.Given as goal

-- the settings that are left are found, and fill the others as all of them fill what was given
abbrev pub invariant-loop-setting : goal.invariant-loop-setting
invariant-loop-setting g l =
    (target : g.row.S-Config.Denot) → AreValues g.S.PatternSetting.value target l.settings
    → AreFound g.S.PatternSetting.key g.S.PatternSetting.value l.settings target (view l.value)
    → record {
      values : AreValues g.S.PatternSetting.value target (drop l.setting-index l.settings);
      found : AreFound g.S.PatternSetting.key g.S.PatternSetting.value (drop l.setting-index l.settings) target (view l.value);
      fills : all_settings.filled g.S.PatternSetting.value g.S.PatternSetting.changed (drop l.setting-index l.settings) target
          l.config ≡ all_settings.filled g.S.PatternSetting.value g.S.PatternSetting.changed l.settings target l.fn.config;
    }
