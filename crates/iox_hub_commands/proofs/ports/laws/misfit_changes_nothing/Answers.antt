use Rattle.iox_domain.specs.Homes as homes
use Rattle.iox_domain.proofs.Homely.{same_stays}
use Rattle.iox_hub_commands.proofs.Misfit.{misfit}
use Rattle.iox_hub_commands.proofs.ports.laws.misfit_changes_nothing.Goals as goal

pub returns : goal.returns
returns g c = misfit (λ id held. homes.ports_of g.H.LendsDomains.domain_of id held)
    (λ id ports held. homes.with_ports g.H.LendsDomains.changed id ports held)
    (λ id ports held. same_stays g.H.LendsDomains.domain_of g.H.LendsDomains.changed g.met.H.LendsDomains.alike
    g.met.H.LendsDomains.unchanged id ports held)
