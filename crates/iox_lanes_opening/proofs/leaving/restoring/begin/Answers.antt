use Rattle.std.proofs.Common.{◌≡◌, ◌+◌, ◌∷◌, [], length, Some, ap, sym, subst, ◌∙◌, arith}
use Rattle.iox_domain_ports.specs.Messages.{Message}
use Rattle.iox_domain_ports.specs.MessagesSending.{StandsAlone, with_uses}
use Rattle.iox_lanes_opening.specs.Leaving.{payload_in}
use Rattle.iox_lanes_opening.specs.Middles.{middle_of}
use Rattle.iox_lanes_opening.proofs.Left.{left_alone, is_message}
use Rattle.iox_lanes_opening.proofs.leaving.restoring.begin.Goals as goal

pub take_payload-requires : goal.take_payload-requires
take_payload-requires g c = record {
  room = c.requires.room;
  slot = c.requires.there;
  full = c.requires.whole.full;
  words = c.requires.whole.payload;
}

pub middle-between-requires : goal.middle-between-requires
middle-between-requires g c = record {
  slot = c.requires.there;
  full = c.requires.whole.full;
  words = c.requires.whole.user_header;
}

pub begin_again-requires : goal.begin_again-requires
begin_again-requires g c =
    let values : c.deref.result.now ≡ g.T.Words.of_parts (payload_in c.args.slots.now.table.now (c.args.slots.now.first + c.args.slot)) ∷ []
    = c.deref.ensures.value ∙ c.take_payload.ensures.taken in
    let one = ap length values in
    record {
      alone = c.requires.stands.idle;
      first = c.requires.stands.first;
      within = c.requires.stands.within;
      room = omega (arith, one, c.requires.stands.room);
      only = subst (λ (m : Message g.row.T.Denot g.row.U.Denot). StandsAlone m c.args.sender.now.uses)
          (sym (is_message g.T.Words.of_parts (middle_of c.args.slots.now.numbered g.U.Words.of_parts) c.args.slots.now.table.now
          c.args.slots.now.first c.args.slot c.middle-between.result c.elements.result c.deref.result.now c.middle-between.ensures
          c.elements.ensures values))
          (left_alone g.T.Words.of_parts (middle_of c.args.slots.now.numbered g.U.Words.of_parts) c.args.slots.now.table.now
          c.args.slots.now.first c.args.sender.now.uses c.args.slot c.requires.stands.unlent c.requires.left);
    }

pub returns-clause-sent : goal.returns-clause-sent
returns-clause-sent g c = c.begin_again.ensures
    ∙ ap (λ (m : Message g.row.T.Denot g.row.U.Denot). with_uses (record c.args.sender.now.uses { sending = Some m }) c.args.sender.now)
    (is_message g.T.Words.of_parts (middle_of c.args.slots.now.numbered g.U.Words.of_parts) c.args.slots.now.table.now
    c.args.slots.now.first c.args.slot c.middle-between.result c.elements.result c.deref.result.now c.middle-between.ensures
    c.elements.ensures (c.deref.ensures.value ∙ c.take_payload.ensures.taken))
