use Rattle.std.proofs.Common.{arith, refl}
use Rattle.iox_domain_ports.proofs.MessagesWriting.{value_there, value_written, change_seen}
use Rattle.iox_domain_ports.specs.Messages.{write_value}
use Rattle.iox_domain_ports.proofs.Seen.{place_lent, lent_slot}
use Rattle.iox_domain_ports.proofs.messages.sender.Sender.write.Goals as goal

pub write-requires : goal.write-requires
write-requires g c = (value_there
    (record {
      values = c.self.inside.values;
      written = c.self.inside.written;
      headers = c.self.inside.headers.items;
      blank
          = c.self.inside.blank;
    }) c.args.slot c.args.place c.self.inside.uses c.self.invariant
    (place_lent (record {
      values = c.self.inside.values;
      written = c.self.inside.written;
      headers = c.self.inside.headers.items;
      blank
          = c.self.inside.blank;
    }) c.self.inside.uses c.args.self.now c.args.slot c.args.place c.self.view_is c.requires).1).0

pub write-requires-2 : goal.write-requires-2
write-requires-2 g c =
    (value_there (record {
      values = c.self.inside.values;
      written = c.self.inside.written;
      headers = c.self.inside.headers.items;
      blank
          = c.self.inside.blank;
    }) c.args.slot c.args.place c.self.inside.uses c.self.invariant
    (place_lent (record {
      values = c.self.inside.values;
      written = c.self.inside.written;
      headers = c.self.inside.headers.items;
      blank
          = c.self.inside.blank;
    }) c.self.inside.uses c.args.self.now c.args.slot c.args.place c.self.view_is c.requires).1).1

pub returns : goal.returns
returns g c =
    let lent = (place_lent
    (record {
      values = c.self.inside.values;
      written = c.self.inside.written;
      headers = c.self.inside.headers.items;
      blank
          = c.self.inside.blank;
    }) c.self.inside.uses c.args.self.now c.args.slot c.args.place c.self.view_is c.requires).0 in
    let below = lent_slot
    (record {
      values = c.self.inside.values;
      written = c.self.inside.written;
      headers = c.self.inside.headers.items;
      blank
          = c.self.inside.blank;
    }) c.self.inside.uses c.args.slot c.self.invariant lent in
    change_seen (record {
      values = c.self.inside.values;
      written = c.self.inside.written;
      headers = c.self.inside.headers.items;
      blank
          = c.self.inside.blank;
    }) (record {
      values = c.write.new.self;
      written = c.write-2.new.self;
      headers = c.self.inside.headers.items;
      blank
          = c.self.inside.blank;
    }) c.self.inside.uses c.args.self.now c.args.slot (write_value c.args.place c.args.value) c.self.view_is c.self.invariant lent
    (value_written (record {
      values = c.self.inside.values;
      written = c.self.inside.written;
      headers = c.self.inside.headers.items;
      blank
          = c.self.inside.blank;
    }) (record {
      values = c.write.new.self;
      written = c.write-2.new.self;
      headers = c.self.inside.headers.items;
      blank
          = c.self.inside.blank;
    }) c.args.slot c.args.place c.args.value (c.self.invariant.marks c.args.slot) (omega (arith, below, c.self.invariant.values))
    (omega (arith, below, c.self.invariant.written)) c.write.ensures c.write-2.ensures refl refl)
