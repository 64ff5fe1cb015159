use Rattle.iox_domain_ports.proofs.Linked.{none_told, there_told, stage_told, limit_told, waiting_told, borrowed_told}
use Rattle.iox_domain_ports.proofs.messages.sender.Sender.link.Goals as goal

pub returns-clause-none : goal.returns-clause-none
returns-clause-none g c =
    none_told (record {
      values = c.self.inside.values;
      written = c.self.inside.written;
      headers = c.self.inside.headers.items;
      blank
          = c.self.inside.blank;
    }) c.self.inside.uses c.args.self.now c.args.index c.link.result c.self.view_is c.link.ensures

pub returns-clause-there : goal.returns-clause-there
returns-clause-there g c =
    there_told (record {
      values = c.self.inside.values;
      written = c.self.inside.written;
      headers = c.self.inside.headers.items;
      blank
          = c.self.inside.blank;
    }) c.self.inside.uses c.args.self.now c.args.index c.link.result c.self.view_is c.link.ensures

pub returns-clause-stage : goal.returns-clause-stage
returns-clause-stage g c =
    stage_told (record {
      values = c.self.inside.values;
      written = c.self.inside.written;
      headers = c.self.inside.headers.items;
      blank
          = c.self.inside.blank;
    }) c.self.inside.uses c.args.self.now c.args.index c.link.result c.self.view_is c.link.ensures

pub returns-clause-limit : goal.returns-clause-limit
returns-clause-limit g c =
    limit_told (record {
      values = c.self.inside.values;
      written = c.self.inside.written;
      headers = c.self.inside.headers.items;
      blank
          = c.self.inside.blank;
    }) c.self.inside.uses c.args.self.now c.args.index c.link.result c.self.view_is c.link.ensures

pub returns-clause-waiting : goal.returns-clause-waiting
returns-clause-waiting g c =
    waiting_told (record {
      values = c.self.inside.values;
      written = c.self.inside.written;
      headers = c.self.inside.headers.items;
      blank
          = c.self.inside.blank;
    }) c.self.inside.uses c.args.self.now c.args.index c.link.result c.self.view_is c.link.ensures

pub returns-clause-borrowed : goal.returns-clause-borrowed
returns-clause-borrowed g c =
    borrowed_told (record {
      values = c.self.inside.values;
      written = c.self.inside.written;
      headers = c.self.inside.headers.items;
      blank
          = c.self.inside.blank;
    }) c.self.inside.uses c.args.self.now c.args.index c.link.result c.self.view_is c.link.ensures
