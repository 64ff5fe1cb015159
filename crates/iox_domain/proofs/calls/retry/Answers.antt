use Rattle.std.proofs.Common.{rules}
use Rattle.iox_domain.specs.Steps.{RetriesBy}
use Rattle.iox_domain.specs.Handling.{kept_decides}
use Rattle.iox_domain.specs.States.{publisher_handlers_in}
use Rattle.iox_domain.proofs.Homely.{at_here}
use Rattle.iox_domain.proofs.calls.retry.Goals as goal

pub returns : goal.returns
returns g c =
    at_here g.H.LendsDomains.domain_of g.H.LendsDomains.changed g.met.H.LendsDomains.alike c.args.id
    (λ found. RetriesBy (kept_decides (λ kept. g.H.ForPublishers.Decides.decides kept) (publisher_handlers_in c.args.number found))
    c.args.number c.args.elapsed) c.args.home.now c.in_ok-domain.domain.now c.retry.new.self c.retry.result
    (search (rules, c.in_ok-domain.ensures.value)) c.retry.ensures.retries c.retry.ensures.rest
