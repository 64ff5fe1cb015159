use Rattle.std.proofs.Common.{[], ap, sym, subst}
use Rattle.iox_domain_ports.specs.MessagesSending.{IsSender, uses_by, loan_in, message_in}
use Rattle.iox_domain_ports.proofs.Kept.{forget_kept}
use Rattle.iox_domain_ports.proofs.Seen.{seen_step}
use Rattle.iox_domain_ports.proofs.messages.sender.Sender.forget_history.Goals as goal

pub invariant_of-self : goal.invariant_of-self
invariant_of-self g c
    = subst (λ uses. IsSender
    (record {
      values = c.self.inside.values;
      written = c.self.inside.written;
      headers = c.self.inside.headers.items;
      blank
          = c.self.inside.blank;
    }) uses) (sym c.forget_history.ensures)
    (forget_kept (record {
      values = c.self.inside.values;
      written = c.self.inside.written;
      headers = c.self.inside.headers.items;
      blank
          = c.self.inside.blank;
    }) c.self.inside.uses c.self.invariant)

pub returns : goal.returns
returns g c = seen_step
    (record {
      values = c.self.inside.values;
      written = c.self.inside.written;
      headers = c.self.inside.headers.items;
      blank
          = c.self.inside.blank;
    }) c.self.inside.uses c.forget_history.new.self c.args.self.now (λ uses. record uses { history = [] }) c.self.view_is
    (ap (uses_by (loan_in
    (record {
      values = c.self.inside.values;
      written = c.self.inside.written;
      headers = c.self.inside.headers.items;
      blank
          = c.self.inside.blank;
    })) (message_in (record {
      values = c.self.inside.values;
      written = c.self.inside.written;
      headers = c.self.inside.headers.items;
      blank
          = c.self.inside.blank;
    }))) c.forget_history.ensures)
