use Rattle.iox_domain.proofs.Apart.{are_apart}
use Rattle.iox_domain.proofs.laws.parts_are_apart.Goals as goal

pub returns : goal.returns
returns g c = are_apart g.H.LendsDomains.domain_of g.H.LendsDomains.changed g.met.H.LendsDomains.changed_found
    g.met.H.LendsDomains.others_stay
