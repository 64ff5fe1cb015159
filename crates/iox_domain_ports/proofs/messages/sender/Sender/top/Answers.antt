use Rattle.iox_domain_ports.proofs.Linked.{none_named, there_named}
use Rattle.iox_domain_ports.proofs.messages.sender.Sender.top.Goals as goal

pub returns-clause-none : goal.returns-clause-none
returns-clause-none g c = λ index past.
    none_named (record {
      values = c.self.inside.values;
      written = c.self.inside.written;
      headers = c.self.inside.headers.items;
      blank
          = c.self.inside.blank;
    }) c.self.inside.uses c.args.self.now index c.self.view_is (c.top.ensures.none index past)

pub returns-clause-last : goal.returns-clause-last
returns-clause-last g c = λ index last.
    there_named (record {
      values = c.self.inside.values;
      written = c.self.inside.written;
      headers = c.self.inside.headers.items;
      blank
          = c.self.inside.blank;
    }) c.self.inside.uses c.args.self.now index c.self.view_is (c.top.ensures.last index last)
