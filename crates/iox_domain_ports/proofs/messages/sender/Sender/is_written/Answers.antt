use Rattle.std.proofs.Common.{arith, ◌≡◌, ◌∙◌, true, ap, sym}
use Rattle.iox_domain_ports.specs.Payloads.{payload_at}
use Rattle.iox_domain_ports.specs.MessagesSending.{has_loan, is_written_loan}
use Rattle.iox_domain_ports.proofs.Finding.{no_loan}
use Rattle.iox_domain_ports.proofs.InSlot.{loan_found}
use Rattle.iox_domain_ports.proofs.Readings.{all_written}
use Rattle.iox_domain_ports.proofs.Seen.{loan_below}
use Rattle.iox_domain_ports.proofs.messages.sender.Sender.is_written.Goals as goal

pub are_all-requires : goal.are_all-requires
are_all-requires g c = omega (
  arith,
  loan_below (record {
    values = c.self.inside.values;
    written = c.self.inside.written;
    headers = c.self.inside.headers.items;
    blank
        = c.self.inside.blank;
  }) c.self.inside.uses c.args.self.now c.args.slot c.self.view_is c.self.invariant (sym c.has_loan.ensures ∙ c.if-has_loan.true),
  c.self.invariant.written,
)

pub returns-then-has_loan : goal.returns-then-has_loan
returns-then-has_loan g c =
    let there : has_loan c.args.slot c.args.self.now.uses ≡ true = sym c.has_loan.ensures ∙ c.if-has_loan.true in
    c.are_all.ensures
    ∙ all_written (payload_at c.args.slot c.self.inside.written) (payload_at c.args.slot c.self.inside.values)
    (c.self.invariant.marks c.args.slot)
    ∙ sym (ap is_written_loan
    (loan_found (record {
      values = c.self.inside.values;
      written = c.self.inside.written;
      headers = c.self.inside.headers.items;
      blank
          = c.self.inside.blank;
    }) c.self.inside.uses c.args.self.now c.args.slot c.self.view_is there))

pub returns-else-has_loan : goal.returns-else-has_loan
returns-else-has_loan g c = c.if-has_loan.false ∙ sym
    (ap is_written_loan (no_loan c.args.slot c.args.self.now.uses.loans (sym c.has_loan.ensures ∙ c.if-has_loan.false)))
