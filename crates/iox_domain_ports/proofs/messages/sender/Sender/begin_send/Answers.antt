use Rattle.std.proofs.Common.{rules, arith, ◌≡◌, ◌<◌, ◌∙◌, length, get_or, set, refl, ap}
use Rattle.std.proofs.lemmas.List.{get_or_default}
use Rattle.iox_domain_ports.proofs.InSlot.{lent_there, written_there}
use Rattle.iox_domain_ports.proofs.Numbering.{begins_numbered, with_number}
use Rattle.iox_domain_ports.proofs.Seen.{loan_below}
use Rattle.iox_domain_ports.proofs.messages.sender.Sender.begin_send.Goals as goal

pub index_mut-requires : goal.index_mut-requires
index_mut-requires g c =
    let below : c.args.slot < length c.self.inside.headers.items
    = omega (
      arith,
      loan_below (record {
        values = c.self.inside.values;
        written = c.self.inside.written;
        headers = c.self.inside.headers.items;
        blank
            = c.self.inside.blank;
      }) c.self.inside.uses c.args.self.now c.args.slot c.self.view_is c.self.invariant
          (written_there c.args.slot c.args.self.now.uses c.requires.written),
      c.self.invariant.headers,
    ) in
    search (rules, below)

pub begin_send-requires-clause-loan : goal.begin_send-requires-clause-loan
begin_send-requires-clause-loan g c
    = lent_there (record {
      values = c.self.inside.values;
      written = c.self.inside.written;
      headers = c.self.inside.headers.items;
      blank
          = c.self.inside.blank;
    }) c.self.inside.uses c.args.self.now c.args.slot c.self.view_is
    ∙ written_there c.args.slot c.args.self.now.uses c.requires.written

pub invariant_of-self : goal.invariant_of-self
invariant_of-self g c =
    let below : c.args.slot < length c.self.inside.headers.items
    = omega (
      arith,
      loan_below (record {
        values = c.self.inside.values;
        written = c.self.inside.written;
        headers = c.self.inside.headers.items;
        blank
            = c.self.inside.blank;
      }) c.self.inside.uses c.args.self.now c.args.slot c.self.view_is c.self.invariant
          (written_there c.args.slot c.args.self.now.uses c.requires.written),
      c.self.invariant.headers,
    ) in
    let header : c.index_mut.result.now ≡ get_or c.self.inside.headers.items c.args.slot c.self.inside.blank =
    c.index_mut.ensures.value ∙ get_or_default c.self.inside.headers.items c.args.slot c.index_mut.result.now c.self.inside.blank below in
    (begins_numbered (record {
      values = c.self.inside.values;
      written = c.self.inside.written;
      headers = c.self.inside.headers.items;
      blank
          = c.self.inside.blank;
    }) (record {
      values = c.self.inside.values;
      written = c.self.inside.written;
      headers
          = set c.self.inside.headers.items c.args.slot
          (record {
            elements = c.index_mut.result.now.elements;
            user_header = c.index_mut.result.now.user_header;
            sequence = c.args.sequence;
          });
      blank = c.self.inside.blank;
    }) c.self.inside.uses c.begin_send.new.self c.args.self.now c.args.slot c.args.sequence c.self.view_is
    c.self.invariant c.requires.alone c.requires.written
    (record {
      headers = ap (λ it. set c.self.inside.headers.items c.args.slot (with_number c.args.sequence it)) header;
      values = refl;
      written = refl;
      blank = refl;
    })
    c.begin_send.ensures).0

pub returns : goal.returns
returns g c =
    let below : c.args.slot < length c.self.inside.headers.items
    = omega (
      arith,
      loan_below (record {
        values = c.self.inside.values;
        written = c.self.inside.written;
        headers = c.self.inside.headers.items;
        blank
            = c.self.inside.blank;
      }) c.self.inside.uses c.args.self.now c.args.slot c.self.view_is c.self.invariant
          (written_there c.args.slot c.args.self.now.uses c.requires.written),
      c.self.invariant.headers,
    ) in
    let header : c.index_mut.result.now ≡ get_or c.self.inside.headers.items c.args.slot c.self.inside.blank =
    c.index_mut.ensures.value ∙ get_or_default c.self.inside.headers.items c.args.slot c.index_mut.result.now c.self.inside.blank below in
    (begins_numbered (record {
      values = c.self.inside.values;
      written = c.self.inside.written;
      headers = c.self.inside.headers.items;
      blank
          = c.self.inside.blank;
    }) (record {
      values = c.self.inside.values;
      written = c.self.inside.written;
      headers
          = set c.self.inside.headers.items c.args.slot
          (record {
            elements = c.index_mut.result.now.elements;
            user_header = c.index_mut.result.now.user_header;
            sequence = c.args.sequence;
          });
      blank = c.self.inside.blank;
    }) c.self.inside.uses c.begin_send.new.self c.args.self.now c.args.slot c.args.sequence c.self.view_is
    c.self.invariant c.requires.alone c.requires.written
    (record {
      headers = ap (λ it. set c.self.inside.headers.items c.args.slot (with_number c.args.sequence it)) header;
      values = refl;
      written = refl;
      blank = refl;
    })
    c.begin_send.ensures).1
