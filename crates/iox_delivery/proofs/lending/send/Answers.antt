use Rattle.iox_domain.specs.Homes as homes
use Rattle.iox_delivery.proofs.Ready.{sample_sends}
use Rattle.iox_delivery.proofs.lending.send.Goals as goal

pub unreachable-requires : goal.unreachable-requires
unreachable-requires g c =
    let home = g.H.LendsDomains in
    let port = c.args.port in
    sample_sends (λ after. homes.with_ports home.changed port.domain after c.args.home.now)
    (homes.publisher_degrades (λ kept. g.H.ForPublishers.Degrades.degrades kept) home.domain_of port.domain port.number
    c.args.home.now) (homes.publisher_decides (λ kept. g.H.ForPublishers.Decides.decides kept) home.domain_of port.domain
    port.number c.args.home.now) port.number c.args.slot (homes.ports_of home.domain_of port.domain c.args.home.now) c.args.home.now
    c.send.new.home c.requires.holds c.requires.free c.in-None.ensures
