use Rattle.std.proofs.Common.{arith, ◌∙◌, ◌==◌, ap, is_some, position, sym, subst}
use Rattle.iox_domain_slots.specs.Loans.{place_in}
use Rattle.iox_domain_slots.specs.Uses.{connection_at, given_back}
use Rattle.iox_domain_ports.specs.MessagesSending.{borrowed_place, connection_by, loan_in, message_in}
use Rattle.iox_domain_ports.specs.MessagesSending.{IsSender}
use Rattle.iox_domain_ports.proofs.Inside.{among_first}
use Rattle.iox_domain_ports.proofs.Kept.{connection_kept, give_back_holds}
use Rattle.iox_domain_ports.proofs.Naming.{connection_at_by, first_by, given_back_by, position_by}
use Rattle.iox_domain_ports.proofs.Seen.{seen_connection}
use Rattle.iox_domain_ports.proofs.messages.sender.Sender.give_back.Goals as goal

pub give_back-requires : goal.give_back-requires
give_back-requires g c =
    among_first c.args.slot (connection_at c.args.index c.self.inside.uses).borrowed
    ∙ ap is_some (sym (position_by (message_in
    (record {
      values = c.self.inside.values;
      written = c.self.inside.written;
      headers = c.self.inside.headers.items;
      blank
          = c.self.inside.blank;
    })) (λ message. message.slot == c.args.slot) (connection_at c.args.index c.self.inside.uses).borrowed)
    ∙ ap (λ connection. position (λ message. message.slot == c.args.slot) connection.borrowed)
    (sym (connection_at_by
    (loan_in (record {
      values = c.self.inside.values;
      written = c.self.inside.written;
      headers = c.self.inside.headers.items;
      blank
          = c.self.inside.blank;
    })) (message_in (record {
      values = c.self.inside.values;
      written = c.self.inside.written;
      headers = c.self.inside.headers.items;
      blank
          = c.self.inside.blank;
    })) c.args.index c.self.inside.uses))
    ∙ ap (λ s. position (λ message. message.slot == c.args.slot) (connection_at c.args.index s.uses).borrowed) c.self.view_is)
    ∙ c.requires

pub invariant_of-self : goal.invariant_of-self
invariant_of-self g c
    = subst (λ uses. IsSender (record {
      values = c.self.inside.values;
      written = c.self.inside.written;
      headers = c.self.inside.headers.items;
      blank
          = c.self.inside.blank;
    }) uses) (sym c.give_back.ensures)
    (connection_kept (record {
      values = c.self.inside.values;
      written = c.self.inside.written;
      headers = c.self.inside.headers.items;
      blank
          = c.self.inside.blank;
    }) c.self.inside.uses c.args.index
    (given_back (place_in c.args.slot (connection_at c.args.index c.self.inside.uses).borrowed)
    (connection_at c.args.index c.self.inside.uses)) c.self.invariant
    (λ k. omega (
      arith,
      give_back_holds (place_in c.args.slot (connection_at c.args.index c.self.inside.uses).borrowed)
          (connection_at c.args.index c.self.inside.uses) k,
    )))

pub returns : goal.returns
returns g c = seen_connection
    (record {
      values = c.self.inside.values;
      written = c.self.inside.written;
      headers = c.self.inside.headers.items;
      blank
          = c.self.inside.blank;
    }) c.self.inside.uses c.give_back.new.self c.args.self.now c.args.index
    (given_back (place_in c.args.slot (connection_at c.args.index c.self.inside.uses).borrowed)
    (connection_at c.args.index c.self.inside.uses))
    (λ uses. given_back (borrowed_place c.args.slot (connection_at c.args.index uses)) (connection_at c.args.index uses)) c.self.view_is
    c.give_back.ensures
    (given_back_by (message_in (record {
      values = c.self.inside.values;
      written = c.self.inside.written;
      headers = c.self.inside.headers.items;
      blank
          = c.self.inside.blank;
    }))
    (place_in c.args.slot (connection_at c.args.index c.self.inside.uses).borrowed) (connection_at c.args.index c.self.inside.uses)
    ∙ ap (λ at. given_back at (connection_by (message_in (record {
      values = c.self.inside.values;
      written = c.self.inside.written;
      headers = c.self.inside.headers.items;
      blank
          = c.self.inside.blank;
    })) (connection_at c.args.index c.self.inside.uses)))
    (sym (first_by (message_in (record {
      values = c.self.inside.values;
      written = c.self.inside.written;
      headers = c.self.inside.headers.items;
      blank
          = c.self.inside.blank;
    })) (λ message. message.slot == c.args.slot)
    (connection_at c.args.index c.self.inside.uses).borrowed))
    ∙ ap (λ it. given_back (borrowed_place c.args.slot it) it)
    (sym (connection_at_by (loan_in (record {
      values = c.self.inside.values;
      written = c.self.inside.written;
      headers = c.self.inside.headers.items;
      blank
          = c.self.inside.blank;
    })) (message_in (record {
      values = c.self.inside.values;
      written = c.self.inside.written;
      headers = c.self.inside.headers.items;
      blank
          = c.self.inside.blank;
    })) c.args.index c.self.inside.uses)))
