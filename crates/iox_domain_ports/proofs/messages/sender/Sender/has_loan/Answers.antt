use Rattle.std.proofs.Common.{◌∙◌, ap}
use Rattle.iox_container.specs.Unique.{is_among}
use Rattle.iox_domain_ports.proofs.InSlot.{lent_there}
use Rattle.iox_domain_ports.proofs.messages.sender.Sender.has_loan.Goals as goal

pub returns : goal.returns
returns g c = c.has_loan.ensures ∙ ap (is_among c.args.slot) c.slots.ensures.loans ∙ lent_there
    (record {
      values = c.self.inside.values;
      written = c.self.inside.written;
      headers = c.self.inside.headers.items;
      blank
          = c.self.inside.blank;
    }) c.self.inside.uses c.args.self.now c.args.slot c.self.view_is
