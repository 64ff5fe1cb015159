use Rattle.std.proofs.Common.{◌≡◌, drop, map}
use Rattle.iox_describe_verdict.specs.Earliest.{earliest}
use Rattle.iox_describe_verdict.specs.Verdict.{is_met}
use Rattle.iox_describe_verdict.proofs.requirement.earliest_unmet.Given as goal

-- the earliest so far, and what the clauses that are left make of it, is the earliest of all
abbrev pub invariant-loop-setting : goal.invariant-loop-setting
invariant-loop-setting g l =
    earliest g.S.ClauseError.Ord.cmp l.first
    (map (λ setting. (
      is_met (g.S.RequiredSetting.named setting l.requirement) (g.S.PatternSetting.value setting l.given),
      g.S.RequiredSetting.error setting,
    )) (drop l.setting-index l.setting-items))
    ≡ earliest g.S.ClauseError.Ord.cmp l.initial.first
    (map (λ setting. (
      is_met (g.S.RequiredSetting.named setting l.requirement) (g.S.PatternSetting.value setting l.given),
      g.S.RequiredSetting.error setting,
    )) l.setting-items)
