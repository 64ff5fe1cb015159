use Rattle.iox_domain.specs.Homes as homes
use Rattle.iox_hub_commands.proofs.Answering.{answers_ready}
use Rattle.iox_hub_commands.proofs.ports.laws.answers_where_ready.Goals as goal

pub returns : goal.returns
returns g c = answers_ready (λ id held. homes.ports_of g.H.LendsDomains.domain_of id held)
    (λ id ports held. homes.with_ports g.H.LendsDomains.changed id ports held)
