use Rattle.std.proofs.Common.{◌≡◌, ◌∙◌, get_or, true, None, sym, ap, subst}
use Rattle.iox_domain_ports.specs.Places.{leads_to, AreApart}
use Rattle.iox_domain_ports.proofs.Apart.{found_there}
use Rattle.iox_domain_ports.proofs.readers.Readers.is_surely_at.Goals as goal

pub returns-then-self : goal.returns-then-self
returns-then-self c = λ leads.
    let apart : AreApart c.args.self.now = subst AreApart c.self.view_is (c.self.invariant.1 c.if-self.true) in
    let there : leads_to c.args.subscriber (get_or c.args.self.now c.in-Some.index None) ≡ true
    = sym (ap (leads_to c.args.subscriber) c.get.ensures) ∙ sym c.leads_to.ensures ∙ leads in
    let found = found_there c.args.self.now c.args.subscriber c.in-Some.index apart there in
    let is = c.in-Some.is in
    cc
