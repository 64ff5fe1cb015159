use Rattle.std.proofs.Common.{arith, ◌<◌, ◌∙◌, length, get_or, set, ap, refl, sym, None, Some}
use Rattle.iox_domain_ports.specs.Messages.{write_value}
use Rattle.iox_domain_ports.specs.Payloads.{payload_at, with_payload}
use Rattle.iox_domain_ports.proofs.Readings.{loan_in_is, value_present}
use Rattle.iox_domain_ports.proofs.MessagesWriting.{marked_within, value_changed, change_seen}
use Rattle.iox_domain_ports.proofs.Seen.{value_lent, lent_slot}
use Rattle.iox_domain_ports.proofs.messages.sender.Sender.value_mut.Goals as goal

pub value_mut-requires : goal.value_mut-requires
value_mut-requires g c
    = omega (
      arith,
      marked_within (payload_at c.args.slot c.self.inside.written) c.args.place
          (value_lent (record {
            values = c.self.inside.values;
            written = c.self.inside.written;
            headers
                = c.self.inside.headers.items;
            blank = c.self.inside.blank;
          }) c.self.inside.uses c.args.self.now c.args.slot c.args.place c.self.view_is c.self.invariant c.requires).1,
      c.self.invariant.marks c.args.slot,
    )

pub returns : goal.returns
returns g c =
    let lent = value_lent
    (record {
      values = c.self.inside.values;
      written = c.self.inside.written;
      headers = c.self.inside.headers.items;
      blank
          = c.self.inside.blank;
    }) c.self.inside.uses c.args.self.now c.args.slot c.args.place c.self.view_is c.self.invariant c.requires in
    let below = lent_slot
    (record {
      values = c.self.inside.values;
      written = c.self.inside.written;
      headers = c.self.inside.headers.items;
      blank
          = c.self.inside.blank;
    }) c.self.inside.uses c.args.slot c.self.invariant lent.0 in
    let inside : c.args.place < length (payload_at c.args.slot c.self.inside.values) =
    omega (arith, marked_within (payload_at c.args.slot c.self.inside.written) c.args.place lent.1, c.self.invariant.marks c.args.slot) in (
      (
        refl,
        λ value. change_seen (record {
          values = c.self.inside.values;
          written = c.self.inside.written;
          headers = c.self.inside.headers.items;
          blank
              = c.self.inside.blank;
        })
            (record {
              values = with_payload c.args.slot (set (payload_at c.args.slot c.self.inside.values) c.args.place value)
                  c.self.inside.values;
              written = c.self.inside.written;
              headers = c.self.inside.headers.items;
              blank = c.self.inside.blank;
            })
            c.self.inside.uses c.args.self.now c.args.slot (write_value c.args.place value) c.self.view_is c.self.invariant lent.0
            (value_changed (record {
              values = c.self.inside.values;
              written = c.self.inside.written;
              headers = c.self.inside.headers.items;
              blank
                  = c.self.inside.blank;
            })
            (record {
              values = with_payload c.args.slot (set (payload_at c.args.slot c.self.inside.values) c.args.place value)
                  c.self.inside.values;
              written = c.self.inside.written;
              headers = c.self.inside.headers.items;
              blank = c.self.inside.blank;
            })
            c.args.slot c.args.place value (c.self.invariant.marks c.args.slot) (omega (arith, below, c.self.invariant.values))
            (omega (arith, below, c.self.invariant.written)) lent.1 refl refl refl refl),
      ),
      record {
        writes_back = tt;
        value = λ at loan there stands.
            ap (λ l. get_or l.values c.args.place None)
            (sym (loan_in_is (record {
              values = c.self.inside.values;
              written = c.self.inside.written;
              headers = c.self.inside.headers.items;
              blank
                  = c.self.inside.blank;
            }) c.self.inside.uses c.args.self.now c.args.slot at loan c.self.view_is there stands))
            ∙ value_present (payload_at c.args.slot c.self.inside.written) (payload_at c.args.slot c.self.inside.values) c.args.place
            c.value_mut.result.now inside lent.1
            ∙ ap Some (sym c.value_mut.ensures.value);
      },
    )
