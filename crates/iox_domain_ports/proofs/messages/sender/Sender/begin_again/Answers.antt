use Rattle.std.proofs.Common.{arith, ◌+◌, ◌<◌, true, refl, ap, set, length, replicate}
use Rattle.std.proofs.lemmas.List.{length-replicate}
use Rattle.iox_domain_ports.proofs.Again.{again_seen, again_kept, values_are}
use Rattle.iox_domain_ports.proofs.MessagesLoaning.{marks_are}
use Rattle.iox_domain_ports.proofs.Seen.{none_sends}
use Rattle.iox_domain_ports.proofs.messages.sender.Sender.begin_again.Goals as goal

pub invariant_of-self : goal.invariant_of-self
invariant_of-self g c =
    let below : c.args.slot < c.self.inside.uses.first + c.self.inside.uses.size
    = omega (arith, c.requires.within, ap (λ s. s.uses.first) c.self.view_is, ap (λ s. s.uses.size) c.self.view_is) in
    again_kept (record {
      values = c.self.inside.values;
      written = c.self.inside.written;
      headers = c.self.inside.headers.items;
      blank
          = c.self.inside.blank;
    }) (record {
      values = c.copy.new.self;
      written = c.fill.new.self;
      headers
          = set c.self.inside.headers.items c.args.slot
          (record { elements = c.args.elements; user_header = c.args.user_header; sequence = c.args.sequence });
      blank = c.self.inside.blank;
    }) c.self.inside.uses c.args.slot
    (record { elements = c.args.elements; user_header = c.args.user_header; sequence = c.args.sequence })
    c.args.values.now (replicate (length c.args.values.now) true)
    c.begin_again.new.self c.args.self.now c.self.view_is c.self.invariant below
    (none_sends (record {
      values = c.self.inside.values;
      written = c.self.inside.written;
      headers = c.self.inside.headers.items;
      blank
          = c.self.inside.blank;
    }) c.self.inside.uses c.args.self.now c.self.view_is c.requires.alone)
    c.begin_again.ensures c.requires.only (length-replicate (length c.args.values.now) true)
    (record {
      values = values_are c.self.inside.values c.set_length.new.self c.copy.new.self c.args.slot c.args.values.now
          c.set_length.ensures.rest c.copy.ensures;
      written = marks_are c.self.inside.written c.set_length-2.new.self c.fill.new.self c.args.slot (length c.args.values.now) true
          c.set_length-2.ensures.length c.set_length-2.ensures.rest c.fill.ensures;
      headers = refl;
      blank = refl;
    })

pub returns : goal.returns
returns g c =
    let below : c.args.slot < c.self.inside.uses.first + c.self.inside.uses.size
    = omega (arith, c.requires.within, ap (λ s. s.uses.first) c.self.view_is, ap (λ s. s.uses.size) c.self.view_is) in
    again_seen (record {
      values = c.self.inside.values;
      written = c.self.inside.written;
      headers = c.self.inside.headers.items;
      blank
          = c.self.inside.blank;
    }) (record {
      values = c.copy.new.self;
      written = c.fill.new.self;
      headers
          = set c.self.inside.headers.items c.args.slot
          (record { elements = c.args.elements; user_header = c.args.user_header; sequence = c.args.sequence });
      blank = c.self.inside.blank;
    }) c.self.inside.uses c.args.slot
    (record { elements = c.args.elements; user_header = c.args.user_header; sequence = c.args.sequence })
    c.args.values.now (replicate (length c.args.values.now) true)
    c.begin_again.new.self c.args.self.now c.self.view_is c.self.invariant below
    (none_sends (record {
      values = c.self.inside.values;
      written = c.self.inside.written;
      headers = c.self.inside.headers.items;
      blank
          = c.self.inside.blank;
    }) c.self.inside.uses c.args.self.now c.self.view_is c.requires.alone)
    c.begin_again.ensures c.requires.only
    (record {
      values = values_are c.self.inside.values c.set_length.new.self c.copy.new.self c.args.slot c.args.values.now
          c.set_length.ensures.rest c.copy.ensures;
      written = marks_are c.self.inside.written c.set_length-2.new.self c.fill.new.self c.args.slot (length c.args.values.now) true
          c.set_length-2.ensures.length c.set_length-2.ensures.rest c.fill.ensures;
      headers = refl;
      blank = refl;
    })
