use Rattle.iox_domain.specs.Homes as homes
use Rattle.iox_domain.proofs.Homely.{put_is_there}
use Rattle.iox_delivery.proofs.Filled.{filled_is_ready}
use Rattle.iox_delivery.proofs.slices.filling.loan_filled.Goals as goal

pub returns-clause-ready : goal.returns-clause-ready
returns-clause-ready g c =
    filled_is_ready (λ held. homes.ports_of g.H.LendsDomains.domain_of c.args.port.domain held)
    (λ ports held. homes.with_ports g.H.LendsDomains.changed c.args.port.domain ports held)
    (λ ports held. put_is_there g.H.LendsDomains.domain_of g.H.LendsDomains.changed g.met.H.LendsDomains.changed_found c.args.port.domain
    ports held)
    c.args.port.number c.args.len c.args.len c.in_ok-slot.slot c.args.value c.args.home.now c.loan.new.home c.fill.new.home
    c.in_ok-slot.ensures c.fill.ensures.0
