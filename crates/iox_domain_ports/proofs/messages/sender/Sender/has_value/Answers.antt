use Rattle.std.proofs.Common.{arith, ◌≡◌, ◌∙◌, ◌&&◌, true, get_or, is_some, ap, sym, None}
use Rattle.iox_domain_ports.specs.Payloads.{payload_at}
use Rattle.iox_domain_ports.specs.MessagesSending.{loan_in, has_loan}
use Rattle.iox_domain_ports.proofs.Seen.{test_is, no_test, loan_below}
use Rattle.iox_domain_ports.proofs.MessagesWriting.{marked}
use Rattle.iox_domain_ports.proofs.messages.sender.Sender.has_value.Goals as goal

pub is_marked-requires : goal.is_marked-requires
is_marked-requires g c
    = omega (
      arith,
      loan_below
          (record {
            values = c.self.inside.values;
            written = c.self.inside.written;
            headers = c.self.inside.headers.items;
            blank
                = c.self.inside.blank;
          }) c.self.inside.uses c.args.self.now c.args.slot c.self.view_is c.self.invariant (sym c.has_loan.ensures ∙ c.if-has_loan.true),
      c.self.invariant.written,
    )

pub returns-then-has_loan : goal.returns-then-has_loan
returns-then-has_loan g c =
    let there : has_loan c.args.slot c.args.self.now.uses ≡ true = sym c.has_loan.ensures ∙ c.if-has_loan.true in
    c.is_marked.ensures
    ∙ sym (marked (payload_at c.args.slot c.self.inside.written) (payload_at c.args.slot c.self.inside.values) c.args.place
    (c.self.invariant.marks c.args.slot))
    ∙ ap (λ b. b && is_some
    (get_or (loan_in (record {
      values = c.self.inside.values;
      written = c.self.inside.written;
      headers = c.self.inside.headers.items;
      blank
          = c.self.inside.blank;
    }) c.args.slot).values c.args.place None)) (sym there)
    ∙ sym (test_is (record {
      values = c.self.inside.values;
      written = c.self.inside.written;
      headers = c.self.inside.headers.items;
      blank
          = c.self.inside.blank;
    }) c.self.inside.uses c.args.self.now c.args.slot (λ loan. is_some (get_or loan.values c.args.place None)) c.self.view_is)

pub returns-else-has_loan : goal.returns-else-has_loan
returns-else-has_loan g c = c.if-has_loan.false ∙ no_test c.args.slot (λ loan. is_some (get_or loan.values c.args.place None))
    c.args.self.now (sym c.has_loan.ensures ∙ c.if-has_loan.false)
