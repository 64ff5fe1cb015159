use Rattle.std.proofs.Common.{◌∙◌, map, slice_get, get_or, ap, sym}
use Rattle.iox_domain_ports.proofs.Readings.{slot_named, stands_at, remembered_below}
use Rattle.iox_domain_ports.proofs.Inside.{remembered_inside}
use Rattle.iox_domain_ports.proofs.messages.sender.Sender.remembered.Goals as goal

pub returns-clause-slot : goal.returns-clause-slot
returns-clause-slot g c =
    ap (λ s. slice_get (map (λ message. message.slot) s.uses.history) c.args.place) (sym c.self.view_is)
    ∙ slot_named (record {
      values = c.self.inside.values;
      written = c.self.inside.written;
      headers = c.self.inside.headers.items;
      blank
          = c.self.inside.blank;
    }) c.self.inside.uses.history c.args.place c.remembered.result
    (stands_at c.self.inside.uses.history c.args.place c.remembered.result
    (remembered_below (record {
      values = c.self.inside.values;
      written = c.self.inside.written;
      headers = c.self.inside.headers.items;
      blank
          = c.self.inside.blank;
    }) c.self.inside.uses c.args.self.now c.args.place c.self.view_is c.requires)
    (c.remembered.ensures ∙ ap (λ history. get_or history c.args.place 0) c.slots.ensures.history))

pub returns-clause-inside : goal.returns-clause-inside
returns-clause-inside g c =
    rw (← c.self.view_is)
    (remembered_inside (record {
      values = c.self.inside.values;
      written = c.self.inside.written;
      headers = c.self.inside.headers.items;
      blank
          = c.self.inside.blank;
    }) c.self.inside.uses c.args.place c.remembered.result c.self.invariant
    (stands_at c.self.inside.uses.history c.args.place c.remembered.result
    (remembered_below (record {
      values = c.self.inside.values;
      written = c.self.inside.written;
      headers = c.self.inside.headers.items;
      blank
          = c.self.inside.blank;
    }) c.self.inside.uses c.args.self.now c.args.place c.self.view_is c.requires)
    (c.remembered.ensures ∙ ap (λ history. get_or history c.args.place 0) c.slots.ensures.history)))
