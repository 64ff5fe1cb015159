use Rattle.std.proofs.Common.{arith, ◌∙◌, length, refl, replicate, sym, true}
use Rattle.std.proofs.lemmas.List.{length-replicate}
use Rattle.iox_domain_ports.specs.Payloads.{payload_at}
use Rattle.iox_domain_ports.proofs.MessagesWriting.{all_written_at, change_seen, values_kept}
use Rattle.iox_domain_ports.specs.Messages.{write_all}
use Rattle.iox_domain_ports.proofs.Seen.{length_lent, lent_slot}
use Rattle.iox_domain_ports.proofs.messages.sender.Sender.write_from_slice.Goals as goal

pub copy-requires-clause-slot : goal.copy-requires-clause-slot
copy-requires-clause-slot g c
    = omega (
      arith,
      lent_slot
          (record {
            values = c.self.inside.values;
            written = c.self.inside.written;
            headers = c.self.inside.headers.items;
            blank
                = c.self.inside.blank;
          }) c.self.inside.uses c.args.slot c.self.invariant
          (length_lent (record {
            values = c.self.inside.values;
            written = c.self.inside.written;
            headers
                = c.self.inside.headers.items;
            blank = c.self.inside.blank;
          }) c.self.inside.uses c.args.self.now c.args.slot (length c.args.values.now) c.self.view_is c.self.invariant c.requires).0,
      c.self.invariant.values,
    )

pub copy-requires-clause-length : goal.copy-requires-clause-length
copy-requires-clause-length g c
    = (length_lent (record {
      values = c.self.inside.values;
      written = c.self.inside.written;
      headers = c.self.inside.headers.items;
      blank
          = c.self.inside.blank;
    }) c.self.inside.uses c.args.self.now c.args.slot (length c.args.values.now) c.self.view_is c.self.invariant c.requires).1

pub fill-requires : goal.fill-requires
fill-requires g c = omega (
  arith,
  lent_slot (record {
    values = c.self.inside.values;
    written = c.self.inside.written;
    headers = c.self.inside.headers.items;
    blank
        = c.self.inside.blank;
  }) c.self.inside.uses c.args.slot c.self.invariant
      (length_lent (record {
        values = c.self.inside.values;
        written = c.self.inside.written;
        headers = c.self.inside.headers.items;
        blank
            = c.self.inside.blank;
      }) c.self.inside.uses c.args.self.now c.args.slot (length c.args.values.now) c.self.view_is c.self.invariant c.requires).0,
  c.self.invariant.written,
)

pub invariant_of-self : goal.invariant_of-self
invariant_of-self g c =
    let lent = length_lent
    (record {
      values = c.self.inside.values;
      written = c.self.inside.written;
      headers = c.self.inside.headers.items;
      blank
          = c.self.inside.blank;
    }) c.self.inside.uses c.args.self.now c.args.slot (length c.args.values.now) c.self.view_is c.self.invariant c.requires in
    values_kept (record {
      values = c.self.inside.values;
      written = c.self.inside.written;
      headers = c.self.inside.headers.items;
      blank
          = c.self.inside.blank;
    }) (record {
      values = c.copy.new.self;
      written = c.fill.new.self;
      headers = c.self.inside.headers.items;
      blank
          = c.self.inside.blank;
    }) c.self.inside.uses c.args.slot c.args.values.now (replicate (length (payload_at c.args.slot c.self.inside.written)) true)
    c.self.invariant
    (lent_slot (record {
      values = c.self.inside.values;
      written = c.self.inside.written;
      headers = c.self.inside.headers.items;
      blank
          = c.self.inside.blank;
    }) c.self.inside.uses c.args.slot c.self.invariant lent.0) c.copy.ensures c.fill.ensures refl
    (length-replicate (length (payload_at c.args.slot c.self.inside.written)) true ∙ c.self.invariant.marks c.args.slot ∙ sym lent.1)

pub returns : goal.returns
returns g c =
    let lent = length_lent
    (record {
      values = c.self.inside.values;
      written = c.self.inside.written;
      headers = c.self.inside.headers.items;
      blank
          = c.self.inside.blank;
    }) c.self.inside.uses c.args.self.now c.args.slot (length c.args.values.now) c.self.view_is c.self.invariant c.requires in
    let below = lent_slot
    (record {
      values = c.self.inside.values;
      written = c.self.inside.written;
      headers = c.self.inside.headers.items;
      blank
          = c.self.inside.blank;
    }) c.self.inside.uses c.args.slot c.self.invariant lent.0 in
    change_seen (record {
      values = c.self.inside.values;
      written = c.self.inside.written;
      headers = c.self.inside.headers.items;
      blank
          = c.self.inside.blank;
    }) (record {
      values = c.copy.new.self;
      written = c.fill.new.self;
      headers = c.self.inside.headers.items;
      blank
          = c.self.inside.blank;
    }) c.self.inside.uses c.args.self.now c.args.slot (write_all c.args.values.now) c.self.view_is c.self.invariant lent.0
    (all_written_at (record {
      values = c.self.inside.values;
      written = c.self.inside.written;
      headers = c.self.inside.headers.items;
      blank
          = c.self.inside.blank;
    }) (record {
      values = c.copy.new.self;
      written = c.fill.new.self;
      headers = c.self.inside.headers.items;
      blank
          = c.self.inside.blank;
    }) c.args.slot c.args.values.now (lent.1 ∙ sym (c.self.invariant.marks c.args.slot)) (omega (arith, below, c.self.invariant.values))
    (omega (arith, below, c.self.invariant.written)) c.copy.ensures c.fill.ensures refl refl)
