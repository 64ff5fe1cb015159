use Rattle.std.proofs.Common.{rules}
use Rattle.iox_domain.specs.Steps.{ReceivesBy}
use Rattle.iox_domain.specs.Handling.{kept_degrades}
use Rattle.iox_domain.specs.States.{subscriber_handler_in}
use Rattle.iox_domain.proofs.Homely.{at_here}
use Rattle.iox_domain.proofs.calls.receive.Goals as goal

pub returns : goal.returns
returns g c =
    at_here g.H.LendsDomains.domain_of g.H.LendsDomains.changed g.met.H.LendsDomains.alike c.args.id
    (λ found. ReceivesBy (kept_degrades (λ kept. g.H.ForSubscribers.Degrades.degrades kept)
    (subscriber_handler_in c.args.number found)) c.args.number) c.args.home.now c.in_ok-domain.domain.now c.receive.new.self
    c.receive.result (search (rules, c.in_ok-domain.ensures.value)) c.receive.ensures.receives c.receive.ensures.rest
