use Rattle.std.proofs.Common.{arith, ◌∙◌, ap, sym, subst}
use Rattle.iox_domain_slots.specs.Uses.{connection_at, welcomed}
use Rattle.iox_domain_ports.specs.MessagesSending.{loan_in, message_in, uses_by}
use Rattle.iox_domain_ports.specs.MessagesSending.{IsSender}
use Rattle.iox_domain_ports.proofs.Kept.{connection_kept, welcome_holds}
use Rattle.iox_domain_ports.proofs.Naming.{connection_at_by, welcomed_by}
use Rattle.iox_domain_ports.proofs.Seen.{seen_connection, none_waits}
use Rattle.iox_domain_ports.proofs.messages.sender.Sender.welcome.Goals as goal

pub invariant_of-self : goal.invariant_of-self
invariant_of-self g c
    = subst (λ uses. IsSender
    (record {
      values = c.self.inside.values;
      written = c.self.inside.written;
      headers = c.self.inside.headers.items;
      blank
          = c.self.inside.blank;
    }) uses) (sym c.welcome.ensures)
    (connection_kept (record {
      values = c.self.inside.values;
      written = c.self.inside.written;
      headers = c.self.inside.headers.items;
      blank
          = c.self.inside.blank;
    }) c.self.inside.uses c.args.index (welcomed c.self.inside.uses.history (connection_at c.args.index c.self.inside.uses))
    c.self.invariant
    (λ k. omega (arith, welcome_holds c.self.inside.uses.history (connection_at c.args.index c.self.inside.uses) k)))

pub returns : goal.returns
returns g c = seen_connection
    (record {
      values = c.self.inside.values;
      written = c.self.inside.written;
      headers = c.self.inside.headers.items;
      blank
          = c.self.inside.blank;
    }) c.self.inside.uses c.welcome.new.self c.args.self.now c.args.index
    (welcomed c.self.inside.uses.history (connection_at c.args.index c.self.inside.uses))
    (λ uses. welcomed uses.history (connection_at c.args.index uses)) c.self.view_is c.welcome.ensures
    (welcomed_by (message_in
    (record {
      values = c.self.inside.values;
      written = c.self.inside.written;
      headers = c.self.inside.headers.items;
      blank
          = c.self.inside.blank;
    })) c.self.inside.uses.history (connection_at c.args.index c.self.inside.uses) ∙ ap
    (λ it. welcomed (uses_by
    (loan_in (record {
      values = c.self.inside.values;
      written = c.self.inside.written;
      headers = c.self.inside.headers.items;
      blank
          = c.self.inside.blank;
    })) (message_in (record {
      values = c.self.inside.values;
      written = c.self.inside.written;
      headers = c.self.inside.headers.items;
      blank
          = c.self.inside.blank;
    })) c.self.inside.uses).history it)
    (sym (connection_at_by
    (loan_in (record {
      values = c.self.inside.values;
      written = c.self.inside.written;
      headers = c.self.inside.headers.items;
      blank
          = c.self.inside.blank;
    })) (message_in (record {
      values = c.self.inside.values;
      written = c.self.inside.written;
      headers = c.self.inside.headers.items;
      blank
          = c.self.inside.blank;
    })) c.args.index c.self.inside.uses)))

pub welcome-requires-clause-empty : goal.welcome-requires-clause-empty
welcome-requires-clause-empty g c
    = none_waits (record {
      values = c.self.inside.values;
      written = c.self.inside.written;
      headers = c.self.inside.headers.items;
      blank
          = c.self.inside.blank;
    }) c.self.inside.uses c.args.self.now c.args.index c.self.view_is c.requires.empty
