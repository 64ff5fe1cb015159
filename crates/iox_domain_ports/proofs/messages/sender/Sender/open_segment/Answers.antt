use Rattle.std.proofs.Common.{◌∙◌, sym, refl}
use Rattle.iox_domain_ports.proofs.Opening.{open_seen, open_kept, opened_free, opened_put}
use Rattle.iox_domain_ports.proofs.messages.sender.Sender.open_segment.Goals as goal

pub invariant_of-self-2 : goal.invariant_of-self-2
invariant_of-self-2 g c =
    let put = opened_put (record {
      values = c.self.inside.values;
      written = c.self.inside.written;
      headers = c.self.inside.headers.items;
      blank = c.self.inside.blank;
    }) (record {
      values = c.push.new.self;
      written = c.push-2.new.self;
      headers = c.open_slots.new.headers.items;
      blank = c.self.inside.blank;
    }) c.args.room c.size-size.result c.in_ok-values.values c.in_ok-written.written c.size-size.ensures
    (c.self.invariant.written_size ∙ sym c.self.invariant.values_size)
    c.in_ok-values.ensures c.in_ok-written.ensures c.push.ensures c.push-2.ensures c.in_ok-open_slots.ensures.longer refl in
    open_kept (record {
      values = c.self.inside.values;
      written = c.self.inside.written;
      headers = c.self.inside.headers.items;
      blank = c.self.inside.blank;
    }) (record {
      values = c.push.new.self;
      written = c.push-2.new.self;
      headers = c.open_slots.new.headers.items;
      blank = c.self.inside.blank;
    }) c.self.inside.uses c.open_slots.new.uses c.args.room c.self.invariant c.in_ok-open_slots.ensures.opened put

pub returns-clause-opened : goal.returns-clause-opened
returns-clause-opened g c =
    let put = opened_put (record {
      values = c.self.inside.values;
      written = c.self.inside.written;
      headers = c.self.inside.headers.items;
      blank = c.self.inside.blank;
    }) (record {
      values = c.push.new.self;
      written = c.push-2.new.self;
      headers = c.open_slots.new.headers.items;
      blank = c.self.inside.blank;
    }) c.args.room c.size-size.result c.in_ok-values.values c.in_ok-written.written c.size-size.ensures
    (c.self.invariant.written_size ∙ sym c.self.invariant.values_size)
    c.in_ok-values.ensures c.in_ok-written.ensures c.push.ensures c.push-2.ensures c.in_ok-open_slots.ensures.longer refl in
    open_seen (record {
      values = c.self.inside.values;
      written = c.self.inside.written;
      headers = c.self.inside.headers.items;
      blank = c.self.inside.blank;
    }) (record {
      values = c.push.new.self;
      written = c.push-2.new.self;
      headers = c.open_slots.new.headers.items;
      blank = c.self.inside.blank;
    }) c.self.inside.uses c.open_slots.new.uses c.args.self.now c.args.room c.self.view_is
    c.in_ok-open_slots.ensures.opened put

pub returns-clause-free : goal.returns-clause-free
returns-clause-free g c =
    opened_free (record {
      values = c.self.inside.values;
      written = c.self.inside.written;
      headers = c.self.inside.headers.items;
      blank = c.self.inside.blank;
    }) (record {
      values = c.push.new.self;
      written = c.push-2.new.self;
      headers = c.open_slots.new.headers.items;
      blank = c.self.inside.blank;
    }) c.self.inside.uses c.open_slots.new.uses c.self.invariant c.in_ok-open_slots.ensures.opened
