use Rattle.std.proofs.Common.{rules, arith, ◌≡◌, ◌<◌, ◌∙◌, length, get_or, refl, set, ap}
use Rattle.std.proofs.lemmas.List.{get_or_default}
use Rattle.iox_domain_ports.specs.Messages.{write_user_header}
use Rattle.iox_domain_ports.proofs.Readings.{loan_in_is}
use Rattle.iox_domain_ports.proofs.MessagesWriting.{same_with, header_written, change_seen}
use Rattle.iox_domain_ports.proofs.Seen.{loan_below, loan_lent}
use Rattle.iox_domain_ports.proofs.messages.sender.Sender.user_header_mut.Goals as goal

pub index_mut-header-requires : goal.index_mut-header-requires
index_mut-header-requires g c =
    let below : c.args.slot < length c.self.inside.headers.items
    = omega (
      arith,
      loan_below
          (record {
            values = c.self.inside.values;
            written = c.self.inside.written;
            headers = c.self.inside.headers.items;
            blank
                = c.self.inside.blank;
          }) c.self.inside.uses c.args.self.now c.args.slot c.self.view_is c.self.invariant c.requires,
      c.self.invariant.headers,
    ) in
    search (rules, below)

pub returns : goal.returns
returns g c =
    let below : c.args.slot < length c.self.inside.headers.items
    = omega (
      arith,
      loan_below
          (record {
            values = c.self.inside.values;
            written = c.self.inside.written;
            headers = c.self.inside.headers.items;
            blank
                = c.self.inside.blank;
          }) c.self.inside.uses c.args.self.now c.args.slot c.self.view_is c.self.invariant c.requires,
      c.self.invariant.headers,
    ) in
    let old : c.index_mut-header.result.now ≡ get_or c.self.inside.headers.items c.args.slot c.self.inside.blank =
    c.index_mut-header.ensures.value ∙ get_or_default c.self.inside.headers.items c.args.slot c.index_mut-header.result.now
    c.self.inside.blank below in (
      (
        refl,
        λ user_header.
            change_seen (record {
              values = c.self.inside.values;
              written = c.self.inside.written;
              headers
                  = c.self.inside.headers.items;
              blank = c.self.inside.blank;
            }) (record {
              values = c.self.inside.values;
              written = c.self.inside.written;
              headers
                  = set c.self.inside.headers.items c.args.slot
                  (record {
                    elements = c.index_mut-header.result.now.elements;
                    user_header = user_header;
                    sequence = c.index_mut-header.result.now.sequence;
                  });
              blank = c.self.inside.blank;
            }) c.self.inside.uses c.args.self.now c.args.slot (write_user_header user_header) c.self.view_is c.self.invariant
            (loan_lent (record {
              values = c.self.inside.values;
              written = c.self.inside.written;
              headers
                  = c.self.inside.headers.items;
              blank = c.self.inside.blank;
            }) c.self.inside.uses c.args.self.now c.args.slot c.self.view_is c.requires)
            (header_written (record {
              values = c.self.inside.values;
              written = c.self.inside.written;
              headers = c.self.inside.headers.items;
              blank
                  = c.self.inside.blank;
            }) (record {
              values = c.self.inside.values;
              written = c.self.inside.written;
              headers
                  = set c.self.inside.headers.items c.args.slot
                  (record {
                    elements = c.index_mut-header.result.now.elements;
                    user_header = user_header;
                    sequence = c.index_mut-header.result.now.sequence;
                  });
              blank = c.self.inside.blank;
            }) c.args.slot (record {
              elements = c.index_mut-header.result.now.elements;
              user_header = user_header;
              sequence = c.index_mut-header.result.now.sequence;
            }) user_header below
            (same_with c.index_mut-header.result.now (get_or c.self.inside.headers.items c.args.slot c.self.inside.blank) user_header old)
            refl refl refl refl),
      ),
      record {
        writes_back = tt;
        value = λ at loan there stands. ap (λ h. h.user_header) old ∙ ap (λ l. l.user_header)
            (loan_in_is (record {
              values = c.self.inside.values;
              written = c.self.inside.written;
              headers
                  = c.self.inside.headers.items;
              blank = c.self.inside.blank;
            }) c.self.inside.uses c.args.self.now c.args.slot at loan c.self.view_is there stands);
      },
    )
