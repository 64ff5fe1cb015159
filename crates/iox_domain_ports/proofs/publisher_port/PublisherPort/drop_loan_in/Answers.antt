use Rattle.std.proofs.Common.{rules, ◌≡◌, ◌∙◌, false, true, is_some, ap, sym}
use Rattle.iox_domain_ports.specs.MessagesSending.{has_loan}
use Rattle.iox_domain_ports.specs.Writing.{given_up_at}
use Rattle.iox_domain_ports.proofs.InSlot.{place_found, place_missing}
use Rattle.iox_domain_ports.proofs.publisher_port.PublisherPort.drop_loan_in.Goals as goal

pub returns-then-not-has_loan-clause-answer : goal.returns-then-not-has_loan-clause-answer
returns-then-not-has_loan-clause-answer g c =
    let none : has_loan c.args.slot c.args.self.now.sender.uses ≡ false = search (rules, c.has_loan.ensures, c.if-not-has_loan.true) in
    sym (ap is_some (place_missing c.args.slot c.args.self.now.sender.uses none))

pub returns-then-not-has_loan-clause-after : goal.returns-then-not-has_loan-clause-after
returns-then-not-has_loan-clause-after g c =
    let none : has_loan c.args.slot c.args.self.now.sender.uses ≡ false = search (rules, c.has_loan.ensures, c.if-not-has_loan.true) in
    ap (λ at. given_up_at at c.args.self.now) (sym (place_missing c.args.slot c.args.self.now.sender.uses none))

pub returns-clause-answer : goal.returns-clause-answer
returns-clause-answer g c =
    let there : has_loan c.args.slot c.args.self.now.sender.uses ≡ true = search (rules, c.has_loan.ensures, c.if-not-has_loan.false) in
    sym (ap is_some (place_found c.args.slot c.args.self.now.sender.uses there))

pub returns-clause-after : goal.returns-clause-after
returns-clause-after g c =
    let there : has_loan c.args.slot c.args.self.now.sender.uses ≡ true = search (rules, c.has_loan.ensures, c.if-not-has_loan.false) in
    ap (λ sender. record c.args.self.now { sender = sender }) c.drop_loan.ensures
    ∙ ap (λ at. given_up_at at c.args.self.now) (sym (place_found c.args.slot c.args.self.now.sender.uses there))
