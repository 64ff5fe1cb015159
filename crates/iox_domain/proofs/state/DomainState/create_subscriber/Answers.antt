use Rattle.std.proofs.Common.{rules, ◌≡◌, ◌∙◌, sym, Some}
use Rattle.iox_domain.specs.Kept.{kept_under}
use Rattle.iox_domain.proofs.Keeping.{same_value}
use Rattle.iox_domain.proofs.state.DomainState.create_subscriber.Goals as goal

pub returns-in-Ok-outcome : goal.returns-in-Ok-outcome
returns-in-Ok-outcome g c =
    let lent : kept_under c.args.self.now.ports.next_port c.keep.new.self ≡ Some c.in-Some.handler.now
    = search (rules, c.get.ensures, c.in-Some.is) in
    let there : kept_under c.args.self.now.ports.next_port c.keep.new.self ≡ Some c.args.handler = search (rules, c.in-Ok.ensures.there) in
    let same : c.args.handler ≡ c.in-Some.handler.now = same_value (sym there ∙ lent) in
    (rw same c.in-Ok-outcome.ensures, search (rules, c.in-Ok.ensures.ok))
