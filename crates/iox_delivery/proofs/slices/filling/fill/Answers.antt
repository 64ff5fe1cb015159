use Rattle.std.proofs.Common.{sym, replicate}
use Rattle.iox_domain.specs.Homes as homes
use Rattle.iox_domain.proofs.Homely.{put_is_there}
use Rattle.iox_delivery.proofs.Filled.{puts_each}
use Rattle.iox_delivery.proofs.slices.filling.fill.Goals as goal

pub returns-in-Some-get_mut : goal.returns-in-Some-get_mut
returns-in-Some-get_mut g c =
    puts_each (λ held. homes.ports_of g.H.LendsDomains.domain_of c.args.port.domain held)
    (λ ports held. homes.with_ports g.H.LendsDomains.changed c.args.port.domain ports held)
    (λ ports held. put_is_there g.H.LendsDomains.domain_of g.H.LendsDomains.changed g.met.H.LendsDomains.changed_found c.args.port.domain
    ports held)
    c.args.port.number c.args.slot (replicate c.args.len c.args.value) c.args.home.now c.in-Some.ports.now
    c.in-Some-get_mut.publisher.now c.fill_each.new.publisher
    (sym c.in-Some.ensures.value) (sym c.in-Some-get_mut.ensures.value) c.fill_each.ensures
