use Rattle.iox_domain_ports.proofs.Kept.{connect_kept}
use Rattle.iox_domain_ports.proofs.Seen.{connect_seen}
use Rattle.iox_domain_ports.proofs.Linked.{lowest_told}
use Rattle.iox_domain_ports.proofs.messages.sender.Sender.connect.Goals as goal

pub invariant_of-self : goal.invariant_of-self
invariant_of-self g c
    = connect_kept (record {
      values = c.self.inside.values;
      written = c.self.inside.written;
      headers = c.self.inside.headers.items;
      blank
          = c.self.inside.blank;
    }) c.self.inside.uses c.connect.new.self c.args.limit c.connect.result c.self.invariant c.connect.ensures.new c.connect.ensures.refused

pub returns-clause-new : goal.returns-clause-new
returns-clause-new g c
    = connect_seen (record {
      values = c.self.inside.values;
      written = c.self.inside.written;
      headers = c.self.inside.headers.items;
      blank
          = c.self.inside.blank;
    }) c.self.inside.uses c.connect.new.self c.args.self.now c.args.limit c.connect.result c.self.view_is c.connect.ensures.new

pub returns-clause-lowest : goal.returns-clause-lowest
returns-clause-lowest g c
    = lowest_told (record {
      values = c.self.inside.values;
      written = c.self.inside.written;
      headers = c.self.inside.headers.items;
      blank
          = c.self.inside.blank;
    }) c.self.inside.uses c.args.self.now c.connect.result c.self.view_is c.connect.ensures.lowest
