use Rattle.std.proofs.Common.{rules, ◌≡◌, ◌∙◌, sym, Some}
use Rattle.iox_domain.specs.Kept.{kept_under}
use Rattle.iox_domain.proofs.Keeping.{same_value}
use Rattle.iox_domain.proofs.state.DomainState.create_publisher.Goals as goal

pub returns-in-Ok-outcome : goal.returns-in-Ok-outcome
returns-in-Ok-outcome g c =
    let lent : kept_under c.args.self.now.ports.next_port c.keep.new.self ≡ Some c.in-Some.handlers.now
    = search (rules, c.get.ensures, c.in-Some.is) in
    let there : kept_under c.args.self.now.ports.next_port c.keep.new.self ≡ Some c.args.handlers = search (rules, c.in-Ok.ensures.there) in
    let same : c.args.handlers ≡ c.in-Some.handlers.now = same_value (sym there ∙ lent) in
    (rw same c.in-Ok-outcome.ensures, search (rules, c.in-Ok.ensures.ok))
