use Rattle.std.proofs.Common.{rules, arith, ◌<◌, ◌∙◌, length, ap}
use Rattle.std.proofs.lemmas.List.{get_or_default}
use Rattle.iox_domain_ports.proofs.Readings.{loan_in_is}
use Rattle.iox_domain_ports.proofs.Seen.{loan_below}
use Rattle.iox_domain_ports.proofs.messages.sender.Sender.loan_elements.Goals as goal

pub index-requires : goal.index-requires
index-requires g c =
    let below : c.args.slot < length c.self.inside.headers.items
    = omega (
      arith,
      loan_below
          (record {
            values = c.self.inside.values;
            written = c.self.inside.written;
            headers = c.self.inside.headers.items;
            blank
                = c.self.inside.blank;
          }) c.self.inside.uses c.args.self.now c.args.slot c.self.view_is c.self.invariant c.requires,
      c.self.invariant.headers,
    ) in
    search (rules, below)

pub returns : goal.returns
returns g c =
    let below : c.args.slot < length c.self.inside.headers.items
    = omega (
      arith,
      loan_below
          (record {
            values = c.self.inside.values;
            written = c.self.inside.written;
            headers = c.self.inside.headers.items;
            blank
                = c.self.inside.blank;
          }) c.self.inside.uses c.args.self.now c.args.slot c.self.view_is c.self.invariant c.requires,
      c.self.invariant.headers,
    ) in
    λ at loan there stands.
    ap (λ h. h.elements) (c.index.ensures ∙ get_or_default c.self.inside.headers.items c.args.slot c.index.result.now
    c.self.inside.blank below)
    ∙ ap (λ l. l.elements)
    (loan_in_is (record {
      values = c.self.inside.values;
      written = c.self.inside.written;
      headers = c.self.inside.headers.items;
      blank
          = c.self.inside.blank;
    }) c.self.inside.uses c.args.self.now c.args.slot at loan c.self.view_is there stands)
