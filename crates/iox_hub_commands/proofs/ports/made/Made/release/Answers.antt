use Rattle.std.proofs.Common.{refl}
use Rattle.iox_domain.specs.Homes as homes
use Rattle.iox_domain.proofs.Homely.{same_stays}
use Rattle.iox_hub_commands.proofs.Released.{stays}
use Rattle.iox_hub_commands.proofs.ports.made.Made.release.Goals as goal

pub returns-then-not-drop_sample-clause-home : goal.returns-then-not-drop_sample-clause-home
returns-then-not-drop_sample-clause-home g c =
    stays (homes.ports_of g.H.LendsDomains.domain_of) (homes.with_ports g.H.LendsDomains.changed)
    (λ id ports home. same_stays g.H.LendsDomains.domain_of g.H.LendsDomains.changed g.met.H.LendsDomains.alike
    g.met.H.LendsDomains.unchanged id ports home) c.in-Some.held.port c.in-Some.held.taken c.args.home.now c.drop_sample.new.home _ refl
    c.if-not-drop_sample.ensures.drops
