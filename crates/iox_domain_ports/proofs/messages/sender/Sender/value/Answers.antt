use Rattle.std.proofs.Common.{arith, ◌≡◌, ◌∙◌, true, false, get_or, ap, sym, Some, None}
use Rattle.iox_domain_ports.specs.Payloads.{payload_at}
use Rattle.iox_domain_ports.proofs.Readings.{loan_in_is, value_absent, value_present}
use Rattle.iox_domain_ports.proofs.MessagesWriting.{value_there}
use Rattle.iox_domain_ports.proofs.Seen.{place_lent, lent_slot}
use Rattle.iox_domain_ports.proofs.messages.sender.Sender.value.Goals as goal

pub is_marked-requires : goal.is_marked-requires
is_marked-requires g c =
    let lent = (place_lent
    (record {
      values = c.self.inside.values;
      written = c.self.inside.written;
      headers = c.self.inside.headers.items;
      blank
          = c.self.inside.blank;
    }) c.self.inside.uses c.args.self.now c.args.slot c.args.place c.self.view_is c.requires).0 in
    omega (
      arith,
      lent_slot
          (record {
            values = c.self.inside.values;
            written = c.self.inside.written;
            headers = c.self.inside.headers.items;
            blank
                = c.self.inside.blank;
          }) c.self.inside.uses c.args.slot c.self.invariant lent,
      c.self.invariant.written,
    )

pub returns-then-not-is_marked : goal.returns-then-not-is_marked
returns-then-not-is_marked g c = λ at loan there stands.
    let marks : get_or (payload_at c.args.slot c.self.inside.written) c.args.place false ≡ false
    = sym c.is_marked.ensures ∙ c.if-not-is_marked.true in
    sym (value_absent (payload_at c.args.slot c.self.inside.written) (payload_at c.args.slot c.self.inside.values) c.args.place marks)
    ∙ ap (λ l. get_or l.values c.args.place None)
    (loan_in_is (record {
      values = c.self.inside.values;
      written = c.self.inside.written;
      headers = c.self.inside.headers.items;
      blank
          = c.self.inside.blank;
    }) c.self.inside.uses c.args.self.now c.args.slot at loan c.self.view_is there stands)

pub returns : goal.returns
returns g c = λ at loan there stands.
    let marks : get_or (payload_at c.args.slot c.self.inside.written) c.args.place false ≡ true
    = sym c.is_marked.ensures ∙ c.if-not-is_marked.false in
    let inside = (value_there
    (record {
      values = c.self.inside.values;
      written = c.self.inside.written;
      headers = c.self.inside.headers.items;
      blank
          = c.self.inside.blank;
    }) c.args.slot c.args.place c.self.inside.uses c.self.invariant
    (place_lent (record {
      values = c.self.inside.values;
      written = c.self.inside.written;
      headers = c.self.inside.headers.items;
      blank
          = c.self.inside.blank;
    }) c.self.inside.uses c.args.self.now c.args.slot c.args.place c.self.view_is c.requires).1).0 in
    let read : c.index-values-place.result ≡ get_or (payload_at c.args.slot c.self.inside.values) c.args.place c.index-values-place.result =
    c.index-values-place.is ∙ ap (λ vs. get_or vs c.args.place c.index-values-place.result) c.values.ensures in
    ap Some read
    ∙ sym (value_present (payload_at c.args.slot c.self.inside.written) (payload_at c.args.slot c.self.inside.values) c.args.place
    c.index-values-place.result inside marks)
    ∙ ap (λ l. get_or l.values c.args.place None)
    (loan_in_is (record {
      values = c.self.inside.values;
      written = c.self.inside.written;
      headers = c.self.inside.headers.items;
      blank
          = c.self.inside.blank;
    }) c.self.inside.uses c.args.self.now c.args.slot at loan c.self.view_is there stands)
