use Rattle.std.proofs.Common.{◌∙◌, ◌==◌, ap, is_some, sym, position}
use Rattle.iox_domain_slots.specs.Uses.{connection_at}
use Rattle.iox_domain_ports.specs.MessagesSending.{message_in, loan_in}
use Rattle.iox_domain_ports.proofs.Naming.{position_by, connection_at_by}
use Rattle.iox_domain_ports.proofs.Inside.{among_first, borrowed_inside}
use Rattle.iox_domain_ports.proofs.messages.sender.Sender.has_borrowed.Goals as goal

pub returns-clause-answer : goal.returns-clause-answer
returns-clause-answer g c =
    c.has_borrowed.ensures ∙ among_first c.args.slot (connection_at c.args.index c.self.inside.uses).borrowed
    ∙ ap is_some (sym (position_by (message_in
    (record {
      values = c.self.inside.values;
      written = c.self.inside.written;
      headers = c.self.inside.headers.items;
      blank
          = c.self.inside.blank;
    })) (λ message. message.slot == c.args.slot) (connection_at c.args.index c.self.inside.uses).borrowed)
    ∙ ap (λ connection. position (λ message. message.slot == c.args.slot) connection.borrowed)
    (sym (connection_at_by
    (loan_in (record {
      values = c.self.inside.values;
      written = c.self.inside.written;
      headers = c.self.inside.headers.items;
      blank
          = c.self.inside.blank;
    })) (message_in (record {
      values = c.self.inside.values;
      written = c.self.inside.written;
      headers = c.self.inside.headers.items;
      blank
          = c.self.inside.blank;
    })) c.args.index c.self.inside.uses))
    ∙ ap (λ s. position (λ message. message.slot == c.args.slot) (connection_at c.args.index s.uses).borrowed) c.self.view_is)

pub returns-clause-inside : goal.returns-clause-inside
returns-clause-inside g c there =
    rw (← c.self.view_is)
    (borrowed_inside (record {
      values = c.self.inside.values;
      written = c.self.inside.written;
      headers = c.self.inside.headers.items;
      blank
          = c.self.inside.blank;
    }) c.self.inside.uses c.args.slot c.args.index c.self.invariant (sym c.has_borrowed.ensures ∙ there))
