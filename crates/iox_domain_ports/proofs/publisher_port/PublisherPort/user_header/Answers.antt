use Rattle.std.proofs.Common.{rules, ◌≡◌, ◌∙◌, false, true, sym, ap, Some, option_map}
use Rattle.iox_domain_ports.specs.MessagesSending.{has_loan}
use Rattle.iox_domain_ports.proofs.Finding.{found_loan, no_loan}
use Rattle.iox_domain_ports.proofs.publisher_port.PublisherPort.user_header.Goals as goal

pub returns-then-not-has_loan : goal.returns-then-not-has_loan
returns-then-not-has_loan g c =
    let none : has_loan c.args.slot c.args.self.now.sender.uses ≡ false = search (rules, c.has_loan.ensures, c.if-not-has_loan.true) in
    sym (ap (option_map (λ loan. loan.user_header)) (no_loan c.args.slot c.args.self.now.sender.uses.loans none))

pub returns : goal.returns
returns g c =
    let there : has_loan c.args.slot c.args.self.now.sender.uses ≡ true = search (rules, c.has_loan.ensures, c.if-not-has_loan.false) in
    let loan = found_loan c.args.slot c.args.self.now.sender.uses.loans there in
    ap Some (c.loan_user_header.ensures loan.0 loan.1 loan.2 loan.3) ∙ sym (ap (option_map (λ one. one.user_header)) loan.4)
