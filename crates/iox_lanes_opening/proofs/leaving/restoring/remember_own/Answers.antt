use Rattle.std.proofs.Common.{◌≡◌, ◌++◌, ◌∷◌, [], vec_capacity, ap, sym, subst, ◌∙◌}
use Rattle.iox_domain_ports.specs.DomainSlots.Uses.{newest}
use Rattle.iox_domain_ports.specs.MessagesSending.{with_uses}
use Rattle.iox_lanes_opening.specs.Leaving.{message_in}
use Rattle.iox_lanes_opening.specs.Restoring.{AreLeft}
use Rattle.iox_lanes_opening.specs.Middles.{middle_count, middle_of}
use Rattle.iox_lanes_opening.proofs.Left.{left_remembered, is_remembered}
use Rattle.iox_lanes_opening.proofs.Returning.{own_sent}
use Rattle.iox_lanes_opening.proofs.leaving.restoring.remember_own.Goals as goal

pub begin-requires : goal.begin-requires
begin-requires g c =
    own_sent g.T.Words.of_parts (middle_of c.args.slots.now.numbered g.U.Words.of_parts) g.T.Words.WORDS
    (middle_count c.args.slots.now.numbered g.U.Words.WORDS) c.args.slots.now.table.now c.args.slots.now.first c.args.slot
    c.in-Some.own (vec_capacity c.args.one.now) c.args.sender.now c.in-Some.ensures.some.0 c.in-Some.ensures.some.1 c.requires

pub returns-in-Some-clause-remembered : goal.returns-in-Some-clause-remembered
returns-in-Some-clause-remembered g c own =
    subst (λ n. c.finish_send.new.self ≡ with_uses (record c.args.sender.now.uses {
      history = newest c.args.sender.now.uses.kept (c.args.sender.now.uses.history
          ++ message_in g.T.Words.of_parts (middle_of c.args.slots.now.numbered g.U.Words.of_parts) c.args.slots.now.table.now
          c.args.slots.now.first n ∷ []);
    }) c.args.sender.now) c.in-Some.ensures.some.0
    (is_remembered
    (message_in g.T.Words.of_parts (middle_of c.args.slots.now.numbered g.U.Words.of_parts) c.args.slots.now.table.now
    c.args.slots.now.first c.in-Some.own) c.args.sender.now c.begin.new.sender c.remember.new.self c.finish_send.new.self
    c.requires.quiet.idle c.begin.ensures.sent c.remember.ensures.sent c.finish_send.ensures)

pub returns-in-Some-clause-rest : goal.returns-in-Some-clause-rest
returns-in-Some-clause-rest g c =
    let is = is_remembered
    (message_in g.T.Words.of_parts (middle_of c.args.slots.now.numbered g.U.Words.of_parts) c.args.slots.now.table.now
    c.args.slots.now.first c.in-Some.own) c.args.sender.now c.begin.new.sender c.remember.new.self c.finish_send.new.self
    c.requires.quiet.idle c.begin.ensures.sent c.remember.ensures.sent c.finish_send.ensures in
    is ∙ ap (λ s. with_uses (record c.args.sender.now.uses { history = s.uses.history }) c.args.sender.now) (sym is)

pub returns-in-Some-clause-left : goal.returns-in-Some-clause-left
returns-in-Some-clause-left g c =
    subst (λ s. AreLeft g.T.Words.of_parts (middle_of c.args.slots.now.numbered g.U.Words.of_parts) c.args.slots.now.table.now
    c.args.slots.now.first s.uses)
    (sym (is_remembered
    (message_in g.T.Words.of_parts (middle_of c.args.slots.now.numbered g.U.Words.of_parts) c.args.slots.now.table.now
    c.args.slots.now.first c.in-Some.own) c.args.sender.now c.begin.new.sender c.remember.new.self c.finish_send.new.self
    c.requires.quiet.idle c.begin.ensures.sent c.remember.ensures.sent c.finish_send.ensures))
    (left_remembered g.T.Words.of_parts (middle_of c.args.slots.now.numbered g.U.Words.of_parts) c.args.slots.now.table.now
    c.args.slots.now.first c.args.sender.now.uses c.in-Some.own c.requires.left)
