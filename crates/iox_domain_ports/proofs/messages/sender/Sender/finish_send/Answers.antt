use Rattle.std.proofs.Common.{sym, subst}
use Rattle.iox_domain_ports.specs.MessagesSending.{IsSender}
use Rattle.iox_domain_ports.proofs.Kept.{finish_kept}
use Rattle.iox_domain_ports.proofs.messages.sender.Sender.finish_send.Goals as goal

pub invariant_of-self : goal.invariant_of-self
invariant_of-self g c
    = subst (λ uses. IsSender
    (record {
      values = c.self.inside.values;
      written = c.self.inside.written;
      headers = c.self.inside.headers.items;
      blank
          = c.self.inside.blank;
    }) uses) (sym c.finish_send.ensures)
    (finish_kept (record {
      values = c.self.inside.values;
      written = c.self.inside.written;
      headers = c.self.inside.headers.items;
      blank
          = c.self.inside.blank;
    }) c.self.inside.uses c.self.invariant)
