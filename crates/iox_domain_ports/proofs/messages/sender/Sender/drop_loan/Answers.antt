use Rattle.std.proofs.Common.{◌∙◌, ◌==◌, ap, sym, subst}
use Rattle.iox_domain_slots.specs.Uses.{dropped}
use Rattle.iox_domain_slots.specs.Loans.{place_in as place_among}
use Rattle.iox_domain_ports.specs.MessagesSending.{IsSender, loan_in, message_in, place_in, uses_by}
use Rattle.iox_domain_ports.proofs.InSlot.{lent_there}
use Rattle.iox_domain_ports.proofs.Kept.{drop_kept}
use Rattle.iox_domain_ports.proofs.Naming.{dropped_by, first_by}
use Rattle.iox_domain_ports.proofs.Seen.{seen_step}
use Rattle.iox_domain_ports.proofs.messages.sender.Sender.drop_loan.Goals as goal

pub drop_loan-requires : goal.drop_loan-requires
drop_loan-requires g c
    = lent_there (record {
      values = c.self.inside.values;
      written = c.self.inside.written;
      headers = c.self.inside.headers.items;
      blank
          = c.self.inside.blank;
    }) c.self.inside.uses c.args.self.now c.args.slot c.self.view_is ∙ c.requires

pub invariant_of-self : goal.invariant_of-self
invariant_of-self g c
    = subst (λ uses. IsSender
    (record {
      values = c.self.inside.values;
      written = c.self.inside.written;
      headers = c.self.inside.headers.items;
      blank
          = c.self.inside.blank;
    }) uses) (sym c.drop_loan.ensures)
    (drop_kept (record {
      values = c.self.inside.values;
      written = c.self.inside.written;
      headers = c.self.inside.headers.items;
      blank
          = c.self.inside.blank;
    }) c.self.inside.uses (place_among c.args.slot c.self.inside.uses.loans) c.self.invariant)

pub returns : goal.returns
returns g c = seen_step
    (record {
      values = c.self.inside.values;
      written = c.self.inside.written;
      headers = c.self.inside.headers.items;
      blank
          = c.self.inside.blank;
    }) c.self.inside.uses c.drop_loan.new.self c.args.self.now (λ uses. dropped (place_in c.args.slot uses) uses) c.self.view_is
    (ap (uses_by (loan_in
    (record {
      values = c.self.inside.values;
      written = c.self.inside.written;
      headers = c.self.inside.headers.items;
      blank
          = c.self.inside.blank;
    })) (message_in (record {
      values = c.self.inside.values;
      written = c.self.inside.written;
      headers = c.self.inside.headers.items;
      blank
          = c.self.inside.blank;
    }))) c.drop_loan.ensures ∙ dropped_by
    (loan_in (record {
      values = c.self.inside.values;
      written = c.self.inside.written;
      headers = c.self.inside.headers.items;
      blank
          = c.self.inside.blank;
    })) (message_in (record {
      values = c.self.inside.values;
      written = c.self.inside.written;
      headers = c.self.inside.headers.items;
      blank
          = c.self.inside.blank;
    })) (place_among c.args.slot c.self.inside.uses.loans) c.self.inside.uses
    ∙ ap (λ at. dropped at
    (uses_by (loan_in (record {
      values = c.self.inside.values;
      written = c.self.inside.written;
      headers = c.self.inside.headers.items;
      blank
          = c.self.inside.blank;
    })) (message_in (record {
      values = c.self.inside.values;
      written = c.self.inside.written;
      headers = c.self.inside.headers.items;
      blank
          = c.self.inside.blank;
    })) c.self.inside.uses))
    (sym (first_by (loan_in
    (record {
      values = c.self.inside.values;
      written = c.self.inside.written;
      headers = c.self.inside.headers.items;
      blank
          = c.self.inside.blank;
    })) (λ loan. loan.slot == c.args.slot) c.self.inside.uses.loans)))
