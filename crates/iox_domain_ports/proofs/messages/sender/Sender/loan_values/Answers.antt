use Rattle.std.proofs.Common.{arith, ◌≡◌, ◌∙◌, true, ap, sym, unwrap_or}
use Rattle.iox_domain_ports.specs.Messages.{is_written, written_of}
use Rattle.iox_domain_ports.specs.MessagesSending.{is_written_loan, loan_in}
use Rattle.iox_domain_ports.proofs.InSlot.{loan_found, written_there}
use Rattle.iox_domain_ports.proofs.Readings.{becomes}
use Rattle.iox_domain_ports.proofs.Seen.{loan_below}
use Rattle.iox_domain_ports.proofs.messages.sender.Sender.loan_values.Goals as goal

pub values-requires : goal.values-requires
values-requires g c = omega (
  arith,
  loan_below (record {
    values = c.self.inside.values;
    written = c.self.inside.written;
    headers = c.self.inside.headers.items;
    blank
        = c.self.inside.blank;
  }) c.self.inside.uses c.args.self.now c.args.slot c.self.view_is c.self.invariant
      (written_there c.args.slot c.args.self.now.uses c.requires),
  c.self.invariant.values,
)

pub returns : goal.returns
returns g c = λ loan there.
    let found = loan_found
    (record {
      values = c.self.inside.values;
      written = c.self.inside.written;
      headers = c.self.inside.headers.items;
      blank
          = c.self.inside.blank;
    }) c.self.inside.uses c.args.self.now c.args.slot c.self.view_is (written_there c.args.slot c.args.self.now.uses c.requires) in
    let written : is_written
    (loan_in (record {
      values = c.self.inside.values;
      written = c.self.inside.written;
      headers = c.self.inside.headers.items;
      blank
          = c.self.inside.blank;
    }) c.args.slot) ≡ true = sym (ap is_written_loan found) ∙ c.requires in
    let same : loan_in (record {
      values = c.self.inside.values;
      written = c.self.inside.written;
      headers = c.self.inside.headers.items;
      blank
          = c.self.inside.blank;
    }) c.args.slot ≡ loan
    = ap (λ one. unwrap_or one
    (loan_in (record {
      values = c.self.inside.values;
      written = c.self.inside.written;
      headers = c.self.inside.headers.items;
      blank
          = c.self.inside.blank;
    }) c.args.slot)) (sym found ∙ there) in
    c.values.ensures ∙ ap (λ message. message.values)
    (becomes (record {
      values = c.self.inside.values;
      written = c.self.inside.written;
      headers = c.self.inside.headers.items;
      blank
          = c.self.inside.blank;
    }) c.self.inside.uses c.args.slot c.self.invariant written) ∙ ap (λ one. written_of one.values) same
