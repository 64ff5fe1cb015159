use Rattle.std.proofs.Common.{rules, ◌≡◌, ◌∙◌, false, true, sym, ap, get_or, is_some, refl, None}
use Rattle.iox_domain_ports.specs.MessagesSending.{has_value}
use Rattle.iox_domain_ports.specs.Writing.{value_at}
use Rattle.iox_domain_ports.proofs.Finding.{found_loan, some_loan, unwritten}
use Rattle.iox_domain_ports.proofs.publisher_port.PublisherPort.value_mut.Goals as goal

pub returns-then-has_value : goal.returns-then-has_value
returns-then-has_value g c =
    let there : has_value c.args.slot c.args.place c.args.self.now.sender.uses ≡ true
    = search (rules, c.has_value.ensures, c.if-has_value.true) in
    let loan = found_loan c.args.slot c.args.self.now.sender.uses.loans
    (some_loan c.args.slot (λ one. is_some (get_or one.values c.args.place None)) c.args.self.now.sender.uses.loans there) in (
      refl,
      record {
        writes_back = tt;
        value
            = sym (c.value_mut.ensures.value loan.0 loan.1 loan.2 loan.3) ∙ sym (ap (value_at c.args.place) loan.4);
      },
    )

pub returns-else-has_value : goal.returns-else-has_value
returns-else-has_value g c =
    let none : has_value c.args.slot c.args.place c.args.self.now.sender.uses ≡ false
    = search (rules, c.has_value.ensures, c.if-has_value.false) in
    (refl, record { writes_back = tt; value = sym (unwritten c.args.slot c.args.place c.args.self.now.sender.uses.loans none) })
