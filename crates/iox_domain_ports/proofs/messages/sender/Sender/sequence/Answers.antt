use Rattle.std.proofs.Common.{◌∙◌, ap}
use Rattle.iox_domain_ports.proofs.Readings.{borrowed_is, waiting_is, remembered_is}
use Rattle.iox_domain_ports.proofs.Seen.{slot_below}
use Rattle.std.proofs.lemmas.List.{get_or_default}
use Rattle.iox_domain_ports.proofs.messages.sender.Sender.sequence.Goals as goal

pub returns : goal.returns
returns g c =
    let below = slot_below
    (record {
      values = c.self.inside.values;
      written = c.self.inside.written;
      headers = c.self.inside.headers.items;
      blank
          = c.self.inside.blank;
    }) c.self.inside.uses c.args.self.now c.args.slot c.self.view_is c.self.invariant c.requires in
    record {
      borrowed = λ index at message there stands.
          ap (λ h. h.sequence) (c.index.ensures ∙ get_or_default c.self.inside.headers.items c.args.slot c.index.result.now
          c.self.inside.blank below)
          ∙ ap (λ m. m.sequence)
          (borrowed_is (record {
            values = c.self.inside.values;
            written = c.self.inside.written;
            headers
                = c.self.inside.headers.items;
            blank = c.self.inside.blank;
          }) c.self.inside.uses c.args.self.now c.args.slot index at message c.self.view_is there stands);
      waiting = λ index at message there stands.
          ap (λ h. h.sequence) (c.index.ensures ∙ get_or_default c.self.inside.headers.items c.args.slot c.index.result.now
          c.self.inside.blank below)
          ∙ ap (λ m. m.sequence)
          (waiting_is (record {
            values = c.self.inside.values;
            written = c.self.inside.written;
            headers
                = c.self.inside.headers.items;
            blank = c.self.inside.blank;
          }) c.self.inside.uses c.args.self.now c.args.slot index at message c.self.view_is there stands);
      remembered = λ at message there stands.
          ap (λ h. h.sequence) (c.index.ensures ∙ get_or_default c.self.inside.headers.items c.args.slot c.index.result.now
          c.self.inside.blank below)
          ∙ ap (λ m. m.sequence)
          (remembered_is (record {
            values = c.self.inside.values;
            written = c.self.inside.written;
            headers = c.self.inside.headers.items;
            blank
                = c.self.inside.blank;
          }) c.self.inside.uses c.args.self.now c.args.slot at message c.self.view_is there stands);
    }
