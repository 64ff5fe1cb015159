use Rattle.std.proofs.Common.{◌∙◌, map, slice_get, ap, sym}
use Rattle.iox_domain_slots.specs.Uses.{connection_at}
use Rattle.iox_domain_ports.specs.MessagesSending.{message_in, loan_in}
use Rattle.iox_domain_ports.proofs.Naming.{connection_at_by}
use Rattle.iox_domain_ports.proofs.Readings.{slot_named}
use Rattle.iox_domain_ports.proofs.Inside.{waiting_inside}
use Rattle.iox_domain_ports.proofs.messages.sender.Sender.waiting_slot.Goals as goal

pub returns-clause-slot : goal.returns-clause-slot
returns-clause-slot g c =
    ap (λ s. slice_get (map (λ message. message.slot) (connection_at c.args.index s.uses).waiting) c.args.at) (sym c.self.view_is)
    ∙ ap (λ connection. slice_get (map (λ message. message.slot) connection.waiting) c.args.at)
    (connection_at_by (loan_in
    (record {
      values = c.self.inside.values;
      written = c.self.inside.written;
      headers = c.self.inside.headers.items;
      blank
          = c.self.inside.blank;
    })) (message_in (record {
      values = c.self.inside.values;
      written = c.self.inside.written;
      headers = c.self.inside.headers.items;
      blank
          = c.self.inside.blank;
    })) c.args.index c.self.inside.uses)
    ∙ slot_named (record {
      values = c.self.inside.values;
      written = c.self.inside.written;
      headers = c.self.inside.headers.items;
      blank
          = c.self.inside.blank;
    }) (connection_at c.args.index c.self.inside.uses).waiting c.args.at c.waiting_slot.result c.waiting_slot.ensures

pub returns-clause-inside : goal.returns-clause-inside
returns-clause-inside g c =
    rw (← c.self.view_is)
    (waiting_inside (record {
      values = c.self.inside.values;
      written = c.self.inside.written;
      headers = c.self.inside.headers.items;
      blank
          = c.self.inside.blank;
    }) c.self.inside.uses c.args.index c.args.at c.waiting_slot.result c.self.invariant c.waiting_slot.ensures)
