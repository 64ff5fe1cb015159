use Rattle.iox_domain_ports.proofs.Kept.{remembered_kept}
use Rattle.iox_domain_ports.proofs.Seen.{remember_seen, none_seen}
use Rattle.iox_domain_ports.proofs.messages.sender.Sender.remember.Goals as goal

pub invariant_of-self : goal.invariant_of-self
invariant_of-self g c
    = remembered_kept (record {
      values = c.self.inside.values;
      written = c.self.inside.written;
      headers = c.self.inside.headers.items;
      blank
          = c.self.inside.blank;
    }) c.self.inside.uses c.remember.new.self c.self.invariant c.remember.ensures.sent c.remember.ensures.none

pub returns-clause-sent : goal.returns-clause-sent
returns-clause-sent g c
    = remember_seen (record {
      values = c.self.inside.values;
      written = c.self.inside.written;
      headers = c.self.inside.headers.items;
      blank
          = c.self.inside.blank;
    }) c.self.inside.uses c.remember.new.self c.args.self.now c.self.view_is c.remember.ensures.sent

pub returns-clause-none : goal.returns-clause-none
returns-clause-none g c
    = none_seen (record {
      values = c.self.inside.values;
      written = c.self.inside.written;
      headers = c.self.inside.headers.items;
      blank
          = c.self.inside.blank;
    }) c.self.inside.uses c.remember.new.self c.args.self.now c.self.view_is c.remember.ensures.none
