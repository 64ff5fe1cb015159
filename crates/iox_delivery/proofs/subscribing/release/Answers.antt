use Rattle.std.proofs.Common.{◌≡◌, ◌∙◌, true, Some, ap}
use Rattle.iox_domain.specs.Homes as homes
use Rattle.iox_delivery.specs.Holding.{holds_message}
use Rattle.iox_delivery.proofs.Ready.{sample_releases}
use Rattle.iox_delivery.proofs.subscribing.release.Goals as goal

pub unreachable-requires-then-not-release : goal.unreachable-requires-then-not-release
unreachable-requires-then-not-release g c =
    let port = c.args.port in
    let found : Some c.in-Some.ports.now ≡ homes.ports_of g.H.LendsDomains.domain_of port.domain c.args.home.now
    = c.in-Some.ensures.value in
    let holds : holds_message port.number c.args.taken (Some c.in-Some.ports.now) ≡ true
    = ap (λ ports. holds_message port.number c.args.taken ports) found ∙ c.requires in
    sample_releases port.number c.args.taken c.in-Some.ports.now c.release.new.self holds c.if-not-release.ensures
