use Rattle.std.proofs.Common.{refl}
use Rattle.iox_domain.specs.Domains.{in_state}
use Rattle.iox_hub_base.proofs.Own.{own_stepped}
use Rattle.iox_hub_base.proofs.services_home.ServicesLendsDomainsDomainState.domain_mut_at.Goals as goal

pub invariant_of-self-lent : goal.invariant_of-self-lent
invariant_of-self-lent g c = λ state.
    own_stepped c.self.inside.hub c.args.id.service c.self.inside.presences c.domain_mut_at-domain.result.now
    (in_state (λ before. state) c.domain_mut_at-domain.result.now) c.self.invariant c.domain_mut_at-domain.ensures.value refl
