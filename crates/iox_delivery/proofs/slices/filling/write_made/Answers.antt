use Rattle.std.proofs.Common.{sym}
use Rattle.iox_domain.specs.Homes as homes
use Rattle.iox_domain.proofs.Homely.{put_is_there}
use Rattle.iox_delivery.proofs.Filled.{puts_each}
use Rattle.iox_delivery.proofs.slices.filling.write_made.Goals as goal

pub returns-clause-writes : goal.returns-clause-writes
returns-clause-writes g c =
    let made = c.write_each.ensures.writes in (
      made.0,
      made.1,
      made.2,
      puts_each (λ held. homes.ports_of g.H.LendsDomains.domain_of c.args.port.domain held)
          (λ ports held. homes.with_ports g.H.LendsDomains.changed c.args.port.domain ports held)
          (λ ports held. put_is_there g.H.LendsDomains.domain_of g.H.LendsDomains.changed g.met.H.LendsDomains.changed_found
          c.args.port.domain ports held)
          c.args.port.number c.args.slot made.0 c.args.home.now c.in-Some.ports.now c.in-Some-get_mut.publisher.now
          c.write_each.new.publisher
          (sym c.in-Some.ensures.value) (sym c.in-Some-get_mut.ensures.value) made.3,
    )
