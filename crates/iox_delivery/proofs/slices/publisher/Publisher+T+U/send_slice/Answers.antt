use Rattle.std.proofs.Common.{length}
use Rattle.iox_domain.specs.Homes as homes
use Rattle.iox_domain.proofs.Homely.{put_is_there}
use Rattle.iox_delivery.proofs.Lent.{ready_is_written, ready_is_free}
use Rattle.iox_delivery.proofs.Filled.{written_is_ready}
use Rattle.iox_delivery.proofs.slices.publisher.Publisher+T+U.send_slice.Goals as goal

pub send-requires-clause-holds : goal.send-requires-clause-holds
send-requires-clause-holds g c =
    ready_is_written c.args.self.now.port.number (length c.args.values.now) c.in_ok-slot.slot c.args.values.now
    (homes.ports_of g.H.LendsDomains.domain_of c.args.self.now.port.domain c.write_all.new.home)
    (written_is_ready (λ held. homes.ports_of g.H.LendsDomains.domain_of c.args.self.now.port.domain held)
    (λ ports held. homes.with_ports g.H.LendsDomains.changed c.args.self.now.port.domain ports held)
    (λ ports held. put_is_there g.H.LendsDomains.domain_of g.H.LendsDomains.changed g.met.H.LendsDomains.changed_found
    c.args.self.now.port.domain ports held)
    c.args.self.now.port.number (length c.args.values.now) c.in_ok-slot.slot c.args.values.now c.args.home.now c.loan.new.home
    c.write_all.new.home c.in_ok-slot.ensures c.write_all.ensures)

pub send-requires-clause-free : goal.send-requires-clause-free
send-requires-clause-free g c =
    ready_is_free c.args.self.now.port.number (length c.args.values.now) c.in_ok-slot.slot c.args.values.now
    (homes.ports_of g.H.LendsDomains.domain_of c.args.self.now.port.domain c.write_all.new.home)
    (written_is_ready (λ held. homes.ports_of g.H.LendsDomains.domain_of c.args.self.now.port.domain held)
    (λ ports held. homes.with_ports g.H.LendsDomains.changed c.args.self.now.port.domain ports held)
    (λ ports held. put_is_there g.H.LendsDomains.domain_of g.H.LendsDomains.changed g.met.H.LendsDomains.changed_found
    c.args.self.now.port.domain ports held)
    c.args.self.now.port.number (length c.args.values.now) c.in_ok-slot.slot c.args.values.now c.args.home.now c.loan.new.home
    c.write_all.new.home c.in_ok-slot.ensures c.write_all.ensures)
