use Rattle.std.proofs.Common.{rules, ◌≡◌, ◌∙◌, false, true, sym, ap, Some, option_map, refl}
use Rattle.iox_domain_ports.specs.MessagesSending.{has_loan}
use Rattle.iox_domain_ports.proofs.Finding.{found_loan, no_loan}
use Rattle.iox_domain_ports.proofs.publisher_port.PublisherPort.user_header_mut.Goals as goal

pub returns-then-has_loan : goal.returns-then-has_loan
returns-then-has_loan g c =
    let there : has_loan c.args.slot c.args.self.now.sender.uses ≡ true = search (rules, c.has_loan.ensures, c.if-has_loan.true) in
    let loan = found_loan c.args.slot c.args.self.now.sender.uses.loans there in (
      refl,
      record {
        writes_back = tt;
        value
            = ap Some (c.user_header_mut.ensures.value loan.0 loan.1 loan.2 loan.3) ∙ sym (ap (option_map (λ one. one.user_header)) loan.4);
      },
    )

pub returns-else-has_loan : goal.returns-else-has_loan
returns-else-has_loan g c =
    let none : has_loan c.args.slot c.args.self.now.sender.uses ≡ false = search (rules, c.has_loan.ensures, c.if-has_loan.false) in (
      refl,
      record {
        writes_back = tt;
        value
            = sym (ap (option_map (λ loan. loan.user_header)) (no_loan c.args.slot c.args.self.now.sender.uses.loans none));
      },
    )
