use Rattle.std.proofs.Common.{rules}
use Rattle.iox_domain.specs.Steps.{PutsBy}
use Rattle.iox_domain.specs.Handling.{kept_degrades, kept_decides}
use Rattle.iox_domain.specs.States.{publisher_handlers_in}
use Rattle.iox_domain.proofs.Homely.{at_here}
use Rattle.iox_domain.proofs.calls.put.Goals as goal

pub returns : goal.returns
returns g c =
    at_here g.H.LendsDomains.domain_of g.H.LendsDomains.changed g.met.H.LendsDomains.alike c.args.id
    (λ found. PutsBy (kept_degrades (λ kept. g.H.ForPublishers.Degrades.degrades kept) (publisher_handlers_in c.args.number found))
    (kept_decides (λ kept. g.H.ForPublishers.Decides.decides kept) (publisher_handlers_in c.args.number found)) c.args.number
    c.args.values.now) c.args.home.now c.in_ok-domain.domain.now c.put.new.self c.put.result
    (search (rules, c.in_ok-domain.ensures.value)) c.put.ensures.puts c.put.ensures.rest
