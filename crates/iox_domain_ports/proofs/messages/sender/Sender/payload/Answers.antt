use Rattle.std.proofs.Common.{◌∙◌, ap}
use Rattle.iox_domain_ports.proofs.Readings.{borrowed_is, waiting_is, remembered_is}
use Rattle.iox_domain_ports.proofs.messages.sender.Sender.payload.Goals as goal

pub returns : goal.returns
returns g c = record {
  borrowed = λ index at message there stands. c.values.ensures ∙ ap (λ m. m.values)
      (borrowed_is (record {
        values = c.self.inside.values;
        written = c.self.inside.written;
        headers = c.self.inside.headers.items;
        blank
            = c.self.inside.blank;
      }) c.self.inside.uses c.args.self.now c.args.slot index at message c.self.view_is there stands);
  waiting = λ index at message there stands. c.values.ensures ∙ ap (λ m. m.values)
      (waiting_is (record {
        values = c.self.inside.values;
        written = c.self.inside.written;
        headers = c.self.inside.headers.items;
        blank
            = c.self.inside.blank;
      }) c.self.inside.uses c.args.self.now c.args.slot index at message c.self.view_is there stands);
  remembered = λ at message there stands. c.values.ensures ∙ ap (λ m. m.values)
      (remembered_is (record {
        values = c.self.inside.values;
        written = c.self.inside.written;
        headers = c.self.inside.headers.items;
        blank
            = c.self.inside.blank;
      }) c.self.inside.uses c.args.self.now c.args.slot at message c.self.view_is there stands);
}
