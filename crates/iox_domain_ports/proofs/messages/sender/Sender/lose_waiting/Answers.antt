use Rattle.std.proofs.Common.{arith, ap, sym, subst}
use Rattle.iox_domain_slots.specs.Uses.{connection_at, emptied}
use Rattle.iox_domain_slots.proofs.Counts.{times_append}
use Rattle.iox_domain_ports.specs.MessagesSending.{IsSender, loan_in, message_in}
use Rattle.iox_domain_ports.proofs.Kept.{connection_kept}
use Rattle.iox_domain_ports.proofs.Naming.{connection_at_by}
use Rattle.iox_domain_ports.proofs.Seen.{seen_connection}
use Rattle.iox_domain_ports.proofs.messages.sender.Sender.lose_waiting.Goals as goal

pub invariant_of-self : goal.invariant_of-self
invariant_of-self g c
    = subst (λ uses. IsSender
    (record {
      values = c.self.inside.values;
      written = c.self.inside.written;
      headers = c.self.inside.headers.items;
      blank
          = c.self.inside.blank;
    }) uses) (sym c.lose_waiting.ensures)
    (connection_kept (record {
      values = c.self.inside.values;
      written = c.self.inside.written;
      headers = c.self.inside.headers.items;
      blank
          = c.self.inside.blank;
    }) c.self.inside.uses c.args.index (emptied (connection_at c.args.index c.self.inside.uses)) c.self.invariant
    (λ k. omega (
      arith,
      times_append k (connection_at c.args.index c.self.inside.uses).waiting
          (connection_at c.args.index c.self.inside.uses).borrowed,
    )))

pub returns : goal.returns
returns g c = seen_connection
    (record {
      values = c.self.inside.values;
      written = c.self.inside.written;
      headers = c.self.inside.headers.items;
      blank
          = c.self.inside.blank;
    }) c.self.inside.uses c.lose_waiting.new.self c.args.self.now c.args.index (emptied (connection_at c.args.index c.self.inside.uses))
    (λ uses. emptied (connection_at c.args.index uses)) c.self.view_is c.lose_waiting.ensures
    (ap emptied (sym (connection_at_by
    (loan_in (record {
      values = c.self.inside.values;
      written = c.self.inside.written;
      headers = c.self.inside.headers.items;
      blank
          = c.self.inside.blank;
    })) (message_in (record {
      values = c.self.inside.values;
      written = c.self.inside.written;
      headers = c.self.inside.headers.items;
      blank
          = c.self.inside.blank;
    })) c.args.index c.self.inside.uses)))
