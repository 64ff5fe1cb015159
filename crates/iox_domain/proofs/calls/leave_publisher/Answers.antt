use Rattle.std.proofs.Common.{rules, ◌∙◌}
use Rattle.iox_domain.specs.Steps.{PublisherLeaves}
use Rattle.iox_domain.specs.States.{publisher_forgotten}
use Rattle.iox_domain.proofs.Homely.{leaves_here, publisher_dropped}
use Rattle.iox_domain.proofs.calls.leave_publisher.Goals as goal

pub returns : goal.returns
returns g c =
    leaves_here g.H.LendsDomains.domain_of g.H.LendsDomains.changed g.met.H.LendsDomains.alike g.met.H.LendsDomains.again c.args.id
    (publisher_forgotten c.args.number)
    (PublisherLeaves c.args.number) c.args.home.now c.in-Some.domain.now c.leave_publisher.new.self c.leave_publisher.result
    (search (rules, c.in-Some.ensures.value)) c.leave_publisher.ensures.leaves
    (c.leave_publisher.ensures.rest ∙ publisher_dropped c.args.number c.leave_publisher.result c.leave_publisher.new.self.ports
    c.in-Some.domain.now)
