use Rattle.std.proofs.Common.{arith, ◌≡◌, ◌∙◌, ◌&&◌, true, length, ap, sym, nat_lt}
use Rattle.iox_domain_ports.specs.Payloads.{payload_at}
use Rattle.iox_domain_ports.specs.MessagesSending.{loan_in, has_loan}
use Rattle.iox_domain_ports.proofs.Seen.{test_is, no_test, loan_below}
use Rattle.iox_domain_ports.proofs.MessagesWriting.{masked_length}
use Rattle.iox_domain_ports.proofs.messages.sender.Sender.has_place.Goals as goal

pub values-requires : goal.values-requires
values-requires g c = omega (
  arith,
  loan_below (record {
    values = c.self.inside.values;
    written = c.self.inside.written;
    headers = c.self.inside.headers.items;
    blank
        = c.self.inside.blank;
  }) c.self.inside.uses c.args.self.now c.args.slot c.self.view_is c.self.invariant (sym c.has_loan.ensures ∙ c.if-not-has_loan.false),
  c.self.invariant.values,
)

pub returns-then-not-has_loan : goal.returns-then-not-has_loan
returns-then-not-has_loan g c = no_test c.args.slot (λ loan. nat_lt c.args.place (length loan.values)) c.args.self.now
    (sym c.has_loan.ensures ∙ c.if-not-has_loan.true)

pub returns : goal.returns
returns g c =
    let there : has_loan c.args.slot c.args.self.now.uses ≡ true = sym c.has_loan.ensures ∙ c.if-not-has_loan.false in
    ap (λ vs. nat_lt c.args.place (length vs)) c.values.ensures
    ∙ ap (nat_lt c.args.place) (sym (masked_length (payload_at c.args.slot c.self.inside.written)
    (payload_at c.args.slot c.self.inside.values) (c.self.invariant.marks c.args.slot)))
    ∙ ap (λ b. b && nat_lt c.args.place
    (length (loan_in (record {
      values = c.self.inside.values;
      written = c.self.inside.written;
      headers = c.self.inside.headers.items;
      blank
          = c.self.inside.blank;
    }) c.args.slot).values)) (sym there)
    ∙ sym (test_is (record {
      values = c.self.inside.values;
      written = c.self.inside.written;
      headers = c.self.inside.headers.items;
      blank
          = c.self.inside.blank;
    }) c.self.inside.uses c.args.self.now c.args.slot (λ loan. nat_lt c.args.place (length loan.values)) c.self.view_is)
