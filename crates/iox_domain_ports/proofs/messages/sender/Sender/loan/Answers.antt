use Rattle.std.proofs.Common.{rules, ◌≡◌, sym, subst, None, false, refl, set}
use Rattle.iox_domain_ports.specs.MessagesSending.{LoanMade, seen_sender}
use Rattle.iox_domain_ports.proofs.MessagesLoaning.{none_made, loan_made, loan_kept, marks_are}
use Rattle.iox_domain_ports.proofs.messages.sender.Sender.loan.Goals as goal

pub returns-in_err-slot-clause-step : goal.returns-in_err-slot-clause-step
returns-in_err-slot-clause-step g c =
    let none : c.from_residual.result ≡ None = search (rules, c.from_residual.ensures) in
    subst (λ result. LoanMade c.args.self.now c.args.values c.args.elements result
    (seen_sender (record {
      values = c.self.inside.values;
      written = c.self.inside.written;
      headers = c.self.inside.headers.items;
      blank
          = c.self.inside.blank;
    }) c.loan.new.self)) (sym none)
    (none_made (record {
      values = c.self.inside.values;
      written = c.self.inside.written;
      headers = c.self.inside.headers.items;
      blank
          = c.self.inside.blank;
    }) c.self.inside.uses c.loan.new.self c.args.self.now c.args.values c.args.elements c.self.view_is c.in_err-slot.ensures.step)

pub invariant_of-self-2 : goal.invariant_of-self-2
invariant_of-self-2 g c
    = loan_kept (record {
      values = c.self.inside.values;
      written = c.self.inside.written;
      headers = c.self.inside.headers.items;
      blank
          = c.self.inside.blank;
    }) (record {
      values = c.set_length.new.self;
      written = c.fill.new.self;
      headers
          = set c.self.inside.headers.items c.in_ok-slot.slot
          (record { elements = c.args.elements; user_header = c.self.inside.blank.user_header; sequence = None });
      blank = c.self.inside.blank;
    }) c.self.inside.uses c.loan.new.self c.in_ok-slot.slot c.args.values c.args.elements c.self.invariant c.in_ok-slot.ensures.step
    (record {
      long = c.set_length.ensures.length;
      values = c.set_length.ensures.rest;
      written
          = marks_are c.self.inside.written c.set_length-2.new.self c.fill.new.self c.in_ok-slot.slot c.args.values false
          c.set_length-2.ensures.length c.set_length-2.ensures.rest c.fill.ensures;
      headers = refl;
      blank = refl;
    })

pub returns-clause-step : goal.returns-clause-step
returns-clause-step g c
    = loan_made (record {
      values = c.self.inside.values;
      written = c.self.inside.written;
      headers = c.self.inside.headers.items;
      blank
          = c.self.inside.blank;
    }) (record {
      values = c.set_length.new.self;
      written = c.fill.new.self;
      headers
          = set c.self.inside.headers.items c.in_ok-slot.slot
          (record { elements = c.args.elements; user_header = c.self.inside.blank.user_header; sequence = None });
      blank = c.self.inside.blank;
    }) c.self.inside.uses c.loan.new.self c.args.self.now c.in_ok-slot.slot c.args.values c.args.elements c.self.view_is c.self.invariant
    c.in_ok-slot.ensures.step
    (record {
      long = c.set_length.ensures.length;
      values = c.set_length.ensures.rest;
      written
          = marks_are c.self.inside.written c.set_length-2.new.self c.fill.new.self c.in_ok-slot.slot c.args.values false
          c.set_length-2.ensures.length c.set_length-2.ensures.rest c.fill.ensures;
      headers = refl;
      blank = refl;
    })
