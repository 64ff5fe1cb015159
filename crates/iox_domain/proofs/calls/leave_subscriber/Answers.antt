use Rattle.std.proofs.Common.{rules, ◌∙◌}
use Rattle.iox_domain.specs.Steps.{SubscriberLeaves}
use Rattle.iox_domain.specs.States.{subscriber_forgotten}
use Rattle.iox_domain.proofs.Homely.{leaves_here, subscriber_dropped}
use Rattle.iox_domain.proofs.calls.leave_subscriber.Goals as goal

pub returns : goal.returns
returns g c =
    leaves_here g.H.LendsDomains.domain_of g.H.LendsDomains.changed g.met.H.LendsDomains.alike g.met.H.LendsDomains.again c.args.id
    (subscriber_forgotten c.args.number)
    (SubscriberLeaves c.args.number) c.args.home.now c.in-Some.domain.now c.leave_subscriber.new.self c.leave_subscriber.result
    (search (rules, c.in-Some.ensures.value)) c.leave_subscriber.ensures.leaves
    (c.leave_subscriber.ensures.rest ∙ subscriber_dropped c.args.number c.leave_subscriber.result c.leave_subscriber.new.self.ports
    c.in-Some.domain.now)
