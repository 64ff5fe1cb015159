-- The test reports whether the two descriptions are equal.
use Rattle.std.proofs.Common.{sym, ◌∙◌}
use Rattle.iox_describe_settings.specs.SameAgreement.{same_agreement_decides}
use Rattle.iox_describe_settings.proofs.description.DescriptionPartialEq.eq.Goals as goal

pub returns-clause-exact : goal.returns-clause-exact
returns-clause-exact c =
    let decides = same_agreement_decides c.args.self.now c.args.other.now in
    (λ met. decides.0 (sym c.is_same.ensures ∙ met), λ one. c.is_same.ensures ∙ decides.1 one)
