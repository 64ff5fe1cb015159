use Rattle.std.proofs.Common.{rules, subst}
use Rattle.iox_negotiate_base.specs.DescribeBase.Hash.{service_hash_of}
use Rattle.iox_negotiate_base.specs.DescribeSettings.Agreement.{agreement}
use Rattle.iox_negotiate_base.specs.Describe.Within.{IsWithinLimits}
use Rattle.iox_negotiate.proofs.Moving.{either-as}
use Rattle.iox_negotiate.proofs.builder.ServiceBuilder.opened_or_created.Goals as goal

pub returns : goal.returns
returns g c =
    let p = g.P.Pattern in
    let asks = g.P.RequiredPattern in
    let agrees = g.P.AgreedPattern in
    let s = c.args.self.now in
    let a = c.new-asked.result in
    record {
      refusal = a.refusal;
      refused = c.new-asked.ensures.refusal;
      within = λ none. subst (λ pairs. IsWithinLimits
          (agreement s.name (service_hash_of agrees.pattern s.name) (agrees.settings (p.adjusted (asks.asked s.requirement))) pairs))
          (search rules) (c.new-asked.ensures.within none);
      negotiated =
          either-as _ _ asks.verdict _ _ _ _ _ _ _ _ _ _ _
          (agreement a.name (service_hash_of agrees.pattern a.name) (agrees.settings a.config) a.attributes.now)
          (agreement s.name (service_hash_of agrees.pattern s.name) (agrees.settings (p.adjusted (asks.asked s.requirement)))
          (asks.attributes s.requirement).pairs)
          c.new-asked.ensures.hash c.new-asked.ensures.node c.new-asked.ensures.requirement (search rules)
          c.open_or_create.ensures;
    }
