-- The earliest error is that of the first unmet clause, in the order of their errors.
use Rattle.std.proofs.Common.{◌∷◌, Some, None, map, sym, ◌∙◌}
use Rattle.iox_describe_verdict.specs.Verdict.{is_met}
use Rattle.iox_describe_verdict.proofs.Earliest.{earliest_is_first}
use Rattle.iox_describe_verdict.proofs.requirement.first_unmet.Goals as goal

pub returns-in-None : goal.returns-in-None
returns-in-None g c =
    λ clauses same rises.
    earliest_is_first g.met.S.ClauseError.Ord.total
    (c.args.attributes ∷ map
    (λ setting. (
      is_met (g.S.RequiredSetting.named setting c.args.requirement.now) (g.S.PatternSetting.value setting c.args.given.now),
      g.S.RequiredSetting.error setting,
    )) g.S.PatternSetting.all) clauses same rises None
    (sym (rw c.error_of_unmet.ensures at c.earliest_unmet.ensures) ∙ c.in-None.is)

pub returns-in-Some : goal.returns-in-Some
returns-in-Some g c =
    λ clauses same rises.
    earliest_is_first g.met.S.ClauseError.Ord.total
    (c.args.attributes ∷ map
    (λ setting. (
      is_met (g.S.RequiredSetting.named setting c.args.requirement.now) (g.S.PatternSetting.value setting c.args.given.now),
      g.S.RequiredSetting.error setting,
    )) g.S.PatternSetting.all) clauses same rises (Some c.in-Some.error)
    (sym (rw c.error_of_unmet.ensures at c.earliest_unmet.ensures) ∙ c.in-Some.is)
