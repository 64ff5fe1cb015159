use Rattle.std.proofs.Common.{rules, ◌≡◌, false, true, sym}
use Rattle.iox_domain_ports.specs.MessagesSending.{is_written_loan, loan_at}
use Rattle.iox_domain_ports.proofs.Finding.{no_values, loan_values}
use Rattle.iox_domain_ports.proofs.publisher_port.PublisherPort.values.Goals as goal

pub returns-then-not-is_written : goal.returns-then-not-is_written
returns-then-not-is_written g c =
    let unwritten : is_written_loan (loan_at c.args.slot c.args.self.now.sender.uses) ≡ false
    = search (rules, c.is_written.ensures, c.if-not-is_written.true) in
    sym (no_values (loan_at c.args.slot c.args.self.now.sender.uses) unwritten)

pub returns : goal.returns
returns g c =
    let written : is_written_loan (loan_at c.args.slot c.args.self.now.sender.uses) ≡ true
    = search (rules, c.is_written.ensures, c.if-not-is_written.false) in
    loan_values (loan_at c.args.slot c.args.self.now.sender.uses) c.loan_values.result.now written c.loan_values.ensures
