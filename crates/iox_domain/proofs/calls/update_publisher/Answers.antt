use Rattle.std.proofs.Common.{rules}
use Rattle.iox_domain.specs.Steps.{UpdatesBy}
use Rattle.iox_domain.specs.Handling.{kept_degrades}
use Rattle.iox_domain.specs.States.{publisher_handlers_in}
use Rattle.iox_domain.proofs.Homely.{at_here}
use Rattle.iox_domain.proofs.calls.update_publisher.Goals as goal

pub returns : goal.returns
returns g c =
    at_here g.H.LendsDomains.domain_of g.H.LendsDomains.changed g.met.H.LendsDomains.alike c.args.id
    (λ found. UpdatesBy (kept_degrades (λ kept. g.H.ForPublishers.Degrades.degrades kept)
    (publisher_handlers_in c.args.number found)) c.args.number) c.args.home.now c.in_ok-domain.domain.now
    c.update_publisher.new.self c.update_publisher.result (search (rules, c.in_ok-domain.ensures.value))
    c.update_publisher.ensures.updates c.update_publisher.ensures.rest
