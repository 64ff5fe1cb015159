use Rattle.std.proofs.Common.{rules}
use Rattle.iox_domain.specs.Steps.{SubscriberComes, why_no_subscriber}
use Rattle.iox_domain.specs.DomainValues.declared.degradation.DegradationCause.TheVariants.{FailedToEstablishConnection}
use Rattle.iox_domain.specs.States.{subscriber_kept}
use Rattle.iox_domain.proofs.Homely.{comes_here, subscriber_comes}
use Rattle.iox_domain.proofs.calls.create_subscriber.Goals as goal

pub returns : goal.returns
returns g c =
    comes_here g.H.LendsDomains.domain_of g.H.LendsDomains.changed g.met.H.LendsDomains.alike g.met.H.LendsDomains.again
    g.met.H.LendsDomains.unchanged c.args.id
    (λ number. subscriber_kept number c.args.handler)
    (SubscriberComes (g.H.ForSubscribers.Degrades.degrades c.args.handler FailedToEstablishConnection) c.args.config)
    (why_no_subscriber c.args.config)
    c.args.home.now c.in_ok-domain.domain.now c.create_subscriber.new.self c.create_subscriber.result
    (search (rules, c.in_ok-domain.ensures.value))
    (subscriber_comes (g.H.ForSubscribers.Degrades.degrades c.args.handler FailedToEstablishConnection) c.args.config c.args.handler
    c.in_ok-domain.domain.now c.create_subscriber.new.self c.create_subscriber.result c.create_subscriber.ensures)
