use Rattle.std.proofs.Common.{arith, ◌∙◌, ap, sym, subst}
use Rattle.iox_domain_slots.specs.Uses.{connection_at, ended}
use Rattle.iox_domain_ports.specs.MessagesSending.{loan_in, message_in}
use Rattle.iox_domain_ports.specs.MessagesSending.{IsSender}
use Rattle.iox_domain_ports.proofs.Kept.{connection_kept, end_holds}
use Rattle.iox_domain_ports.proofs.Naming.{connection_at_by, ended_by}
use Rattle.iox_domain_ports.proofs.Seen.{seen_connection}
use Rattle.iox_domain_ports.proofs.messages.sender.Sender.end.Goals as goal

pub invariant_of-self : goal.invariant_of-self
invariant_of-self g c
    = subst (λ uses. IsSender
    (record {
      values = c.self.inside.values;
      written = c.self.inside.written;
      headers = c.self.inside.headers.items;
      blank
          = c.self.inside.blank;
    }) uses) (sym c.end.ensures)
    (connection_kept (record {
      values = c.self.inside.values;
      written = c.self.inside.written;
      headers = c.self.inside.headers.items;
      blank
          = c.self.inside.blank;
    }) c.self.inside.uses c.args.index (ended (connection_at c.args.index c.self.inside.uses)) c.self.invariant
    (λ k. omega (arith, end_holds (connection_at c.args.index c.self.inside.uses) k)))

pub returns : goal.returns
returns g c = seen_connection
    (record {
      values = c.self.inside.values;
      written = c.self.inside.written;
      headers = c.self.inside.headers.items;
      blank
          = c.self.inside.blank;
    }) c.self.inside.uses c.end.new.self c.args.self.now c.args.index (ended (connection_at c.args.index c.self.inside.uses))
    (λ uses. ended (connection_at c.args.index uses)) c.self.view_is c.end.ensures
    (ended_by (message_in
    (record {
      values = c.self.inside.values;
      written = c.self.inside.written;
      headers = c.self.inside.headers.items;
      blank
          = c.self.inside.blank;
    })) (connection_at c.args.index c.self.inside.uses) ∙ ap (λ it. ended it)
    (sym (connection_at_by
    (loan_in (record {
      values = c.self.inside.values;
      written = c.self.inside.written;
      headers = c.self.inside.headers.items;
      blank
          = c.self.inside.blank;
    })) (message_in (record {
      values = c.self.inside.values;
      written = c.self.inside.written;
      headers = c.self.inside.headers.items;
      blank
          = c.self.inside.blank;
    })) c.args.index c.self.inside.uses)))
