use Rattle.std.proofs.Common.{rules}
use Rattle.iox_domain.specs.Steps.{PublisherComes, why_no_publisher}
use Rattle.iox_domain.specs.DomainValues.declared.degradation.DegradationCause.TheVariants.{FailedToEstablishConnection}
use Rattle.iox_domain.specs.States.{publisher_kept}
use Rattle.iox_domain.proofs.Homely.{comes_here, publisher_comes}
use Rattle.iox_domain.proofs.calls.create_publisher.Goals as goal

pub returns : goal.returns
returns g c =
    comes_here g.H.LendsDomains.domain_of g.H.LendsDomains.changed g.met.H.LendsDomains.alike g.met.H.LendsDomains.again
    g.met.H.LendsDomains.unchanged c.args.id
    (λ number. publisher_kept number c.args.handlers)
    (PublisherComes (g.O.Overrides.overrides c.args.overriding.now)
    (g.H.ForPublishers.Degrades.degrades c.args.handlers FailedToEstablishConnection) c.args.config c.args.user_header)
    (why_no_publisher c.args.config)
    c.args.home.now c.in_ok-domain.domain.now c.create_publisher.new.self c.create_publisher.result
    (search (rules, c.in_ok-domain.ensures.value))
    (publisher_comes (g.O.Overrides.overrides c.args.overriding.now)
    (g.H.ForPublishers.Degrades.degrades c.args.handlers FailedToEstablishConnection) c.args.config c.args.user_header
    c.args.handlers c.in_ok-domain.domain.now c.create_publisher.new.self c.create_publisher.result c.create_publisher.ensures)
