use Rattle.iox_domain_ports.proofs.Kept.{offer_kept}
use Rattle.iox_domain_ports.proofs.Seen.{sends, offer_seen}
use Rattle.iox_domain_ports.proofs.messages.sender.Sender.offer.Goals as goal

pub invariant_of-self : goal.invariant_of-self
invariant_of-self g c
    = offer_kept (record {
      values = c.self.inside.values;
      written = c.self.inside.written;
      headers = c.self.inside.headers.items;
      blank
          = c.self.inside.blank;
    }) c.self.inside.uses c.offer.new.self c.args.index c.self.invariant
    (sends (record {
      values = c.self.inside.values;
      written = c.self.inside.written;
      headers = c.self.inside.headers.items;
      blank
          = c.self.inside.blank;
    }) c.self.inside.uses c.args.self.now c.self.view_is c.requires.sending) c.offer.ensures.new

pub returns-clause-new : goal.returns-clause-new
returns-clause-new g c
    = offer_seen (record {
      values = c.self.inside.values;
      written = c.self.inside.written;
      headers = c.self.inside.headers.items;
      blank
          = c.self.inside.blank;
    }) c.self.inside.uses c.offer.new.self c.args.self.now c.args.index c.self.view_is c.offer.ensures.new
