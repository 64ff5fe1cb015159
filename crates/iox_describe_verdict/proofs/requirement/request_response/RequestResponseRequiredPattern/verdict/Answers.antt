-- The clauses that are gone over are those that are to be tested, whose errors rise, on the settings and attributes of the description.
use Rattle.std.proofs.Common.{sym, ap, ◌∙◌, refl}
use Rattle.iox_describe_settings.specs.declared.static_config.Settings.{Settings}
use Rattle.iox_describe_verdict.specs.Verdict.{first_unmet, unmet_clause}
use Rattle.iox_describe_verdict.specs.RequestResponseClauses.{clauses_on, clauses_of}
use Rattle.iox_describe_verdict.proofs.requirement.request_response.RequestResponseRequiredPattern.verdict.Goals as goal

pub returns-in-RequestResponse : goal.returns-in-RequestResponse
unfolding unmet_clause
returns-in-RequestResponse c =
    c.first_unmet.ensures
    (clauses_on c.args.requirement.now c.args.description.now.attributes c.in-RequestResponse.given)
    (rw c.is_met_by-has_attributes.ensures (rw c.attributes.ensures (refl, refl)))
    refl
    ∙ ap (λ (settings : Settings). first_unmet (clauses_of c.args.requirement.now c.args.description.now.attributes settings))
    (sym c.in-RequestResponse.is ∙ c.settings.ensures)
