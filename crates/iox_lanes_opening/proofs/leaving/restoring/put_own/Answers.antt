use Rattle.std.proofs.Common.{◌≡◌, is_some, vec_capacity, ap, sym, subst, ◌∙◌}
use Rattle.iox_domain_ports.specs.DomainSlots.Uses.{connection_at, with_connection, offered}
use Rattle.iox_domain_ports.specs.MessagesSending.{with_uses}
use Rattle.iox_lanes_opening.specs.Leaving.{message_in}
use Rattle.iox_lanes_opening.specs.Restoring.{AreLeft}
use Rattle.iox_lanes_opening.specs.Middles.{middle_count, middle_of}
use Rattle.iox_lanes_opening.proofs.Left.{left_put, is_put}
use Rattle.iox_lanes_opening.proofs.Returning.{own_sent}
use Rattle.iox_lanes_opening.proofs.Waits.{waits_put}
use Rattle.iox_lanes_opening.proofs.leaving.restoring.put_own.Goals as goal

pub begin-requires : goal.begin-requires
begin-requires g c =
    own_sent g.T.Words.of_parts (middle_of c.args.slots.now.numbered g.U.Words.of_parts) g.T.Words.WORDS
    (middle_count c.args.slots.now.numbered g.U.Words.WORDS) c.args.slots.now.table.now c.args.slots.now.first c.args.slot
    c.in-Some.own (vec_capacity c.args.one.now) c.args.sender.now c.in-Some.ensures.some.0 c.in-Some.ensures.some.1 c.requires

pub offer-requires : goal.offer-requires
offer-requires g c = record {
  sending = ap (λ s. is_some s.uses.sending) c.begin.ensures.sent;
  live = ap (λ s. (connection_at c.args.index s.uses).stage) c.begin.ensures.sent ∙ c.in-Some.ensures.some.2;
}

pub returns-in-Some-clause-put : goal.returns-in-Some-clause-put
returns-in-Some-clause-put g c own live =
    subst (λ n. c.finish_send.new.self ≡ with_uses (with_connection c.args.index (offered c.args.sender.now.uses.overflows
    (message_in g.T.Words.of_parts (middle_of c.args.slots.now.numbered g.U.Words.of_parts) c.args.slots.now.table.now
    c.args.slots.now.first n) (connection_at c.args.index c.args.sender.now.uses)) c.args.sender.now.uses) c.args.sender.now)
    c.in-Some.ensures.some.0
    (is_put c.args.index
    (message_in g.T.Words.of_parts (middle_of c.args.slots.now.numbered g.U.Words.of_parts) c.args.slots.now.table.now
    c.args.slots.now.first c.in-Some.own) c.args.sender.now c.begin.new.sender c.offer.new.self c.finish_send.new.self
    c.requires.quiet.idle c.begin.ensures.sent c.offer.ensures.new c.finish_send.ensures)

pub returns-in-Some-clause-rest : goal.returns-in-Some-clause-rest
returns-in-Some-clause-rest g c =
    waits_put c.args.index c.args.sender.now.uses.overflows
    (message_in g.T.Words.of_parts (middle_of c.args.slots.now.numbered g.U.Words.of_parts) c.args.slots.now.table.now
    c.args.slots.now.first c.in-Some.own) c.args.sender.now c.finish_send.new.self c.in-Some.ensures.some.2
    (is_put c.args.index
    (message_in g.T.Words.of_parts (middle_of c.args.slots.now.numbered g.U.Words.of_parts) c.args.slots.now.table.now
    c.args.slots.now.first c.in-Some.own) c.args.sender.now c.begin.new.sender c.offer.new.self c.finish_send.new.self
    c.requires.quiet.idle c.begin.ensures.sent c.offer.ensures.new c.finish_send.ensures)

pub returns-in-Some-clause-left : goal.returns-in-Some-clause-left
returns-in-Some-clause-left g c =
    subst (λ s. AreLeft g.T.Words.of_parts (middle_of c.args.slots.now.numbered g.U.Words.of_parts) c.args.slots.now.table.now
    c.args.slots.now.first s.uses)
    (sym (is_put c.args.index
    (message_in g.T.Words.of_parts (middle_of c.args.slots.now.numbered g.U.Words.of_parts) c.args.slots.now.table.now
    c.args.slots.now.first c.in-Some.own) c.args.sender.now c.begin.new.sender c.offer.new.self c.finish_send.new.self
    c.requires.quiet.idle c.begin.ensures.sent c.offer.ensures.new c.finish_send.ensures))
    (left_put g.T.Words.of_parts (middle_of c.args.slots.now.numbered g.U.Words.of_parts) c.args.slots.now.table.now
    c.args.slots.now.first c.args.sender.now.uses c.args.index c.in-Some.own c.args.sender.now.uses.overflows c.requires.left)
