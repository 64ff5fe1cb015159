use Rattle.std.proofs.Common.{◌≡◌, ◌∙◌, Some, ap}
use Rattle.iox_domain.specs.Homes as homes
use Rattle.iox_delivery.specs.Holding.{holds_message}
use Rattle.iox_delivery.proofs.Ending.{release_tells}
use Rattle.iox_delivery.proofs.subscribing.drop_sample.Goals as goal

pub returns-in-Some-clause-was_held : goal.returns-in-Some-clause-was_held
returns-in-Some-clause-was_held g c =
    let port = c.args.port in
    let found : Some c.in-Some.ports.now ≡ homes.ports_of g.H.LendsDomains.domain_of port.domain c.args.home.now
    = c.in-Some.ensures.value in
    release_tells port.number c.args.taken c.in-Some.ports.now c.release.new.self c.release.result c.release.ensures
    ∙ ap (λ ports. holds_message port.number c.args.taken ports) found
