use Rattle.std.proofs.Common.{◌∷◌, [], length, refl}
use Rattle.iox_domain.specs.Homes as homes
use Rattle.iox_domain.proofs.Homely.{put_is_there}
use Rattle.std.proofs.Math.Dec.{eqb}
use Rattle.iox_domain.specs.DomainPorts.Messages.{write_value}
use Rattle.iox_delivery.proofs.Lent.{ready_there}
use Rattle.iox_delivery.proofs.publishing.loan_value.Goals as goal

pub returns-clause-ready : goal.returns-clause-ready
returns-clause-ready g c =
    let home = g.H.LendsDomains in
    let port = c.args.port in
    ready_there (λ held. homes.ports_of home.domain_of port.domain held)
    (λ ports held. homes.with_ports home.changed port.domain ports held)
    (λ ports held. put_is_there g.H.LendsDomains.domain_of g.H.LendsDomains.changed g.met.H.LendsDomains.changed_found port.domain
    ports held) port.number 1
    1 c.in_ok-slot.slot (c.args.value ∷ [])
    (λ loan. eqb 1 (length loan.values)) (write_value 0 c.args.value) c.args.home.now c.loan.new.home c.write.new.home
    c.in_ok-slot.ensures c.write.ensures (λ loan. refl) (λ user_header. refl) (λ user_header. refl)
