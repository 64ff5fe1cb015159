use Rattle.std.proofs.Common.{rules}
use Rattle.iox_domain.specs.Steps.{LoansBy}
use Rattle.iox_domain.proofs.Homely.{at_here}
use Rattle.iox_domain.proofs.calls.loan.Goals as goal

pub returns : goal.returns
returns g c =
    at_here g.H.LendsDomains.domain_of g.H.LendsDomains.changed g.met.H.LendsDomains.alike c.args.id
    (λ found. LoansBy c.args.number c.args.values c.args.elements) c.args.home.now c.in_ok-domain.domain.now c.loan.new.self
    c.loan.result (search (rules, c.in_ok-domain.ensures.value)) c.loan.ensures.loans c.loan.ensures.rest
