-- The test reports whether the two lists of pairs are equal.
use Rattle.std.proofs.Common.{sym, ◌≡◌, ◌∙◌}
use Rattle.iox_describe_base.specs.SameAttributes.{same_attributes, same_attributes_decides}
use Rattle.iox_describe_base.proofs.attribute.AttributeSpecifierPartialEq.eq.Goals as goal

pub returns-clause-exact : goal.returns-clause-exact
returns-clause-exact c =
    let p = c.as_slice.ensures.value ∙ c.self.view_is in
    let q = c.as_slice-2.ensures.value ∙ c.other.view_is in
    let same : c.eq.result ≡ same_attributes c.args.self.now c.args.other.now = c.eq.ensures ∙ (λ i. same_attributes (p i) (q i)) in
    let decides = same_attributes_decides c.args.self.now c.args.other.now in
    (λ met. decides.0 (sym same ∙ met), λ one. same ∙ decides.1 one)
