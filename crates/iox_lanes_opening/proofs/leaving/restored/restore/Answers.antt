use Rattle.std.proofs.Common.{◌<◌, ap, subst, sym, ◌∙◌}
use Rattle.iox_lanes_opening.specs.Restoring.{IsWhole, AreLeft}
use Rattle.iox_lanes_opening.specs.Middles.{middle_count, middle_of}
use Rattle.iox_lanes_opening.proofs.Filling.{cleared_quiet, cleared_left, cleared_empty, filled_quiet, restored_is}
use Rattle.iox_lanes_opening.proofs.leaving.restored.restore.Goals as goal

pub restore_connections-requires : goal.restore_connections-requires
restore_connections-requires g c = record {
  empty = cleared_empty c.args.sender.now c.forget_messages.new.sender c.forget_messages.ensures.cleared;
  connections = c.requires.connections;
  come = record {
    room = c.requires.room;
    whole = c.requires.whole;
    quiet = cleared_quiet c.args.sender.now c.forget_messages.new.sender c.forget_messages.ensures.rest c.forget_messages.ensures.cleared
        (c.if-not-is_rested.ensures.rested).quiet;
    left = cleared_left g.T.Words.of_parts (middle_of c.args.source.now.numbered g.U.Words.of_parts) c.args.source.now.lanes.now.table
        c.args.source.now.first c.args.sender.now c.forget_messages.new.sender c.forget_messages.ensures.cleared
        (c.if-not-is_rested.ensures.rested).none;
  };
}

pub restore_history-requires : goal.restore_history-requires
restore_history-requires g c = record {
  come = record {
    room = subst (λ n. 0 < n) (sym c.restore_connections.ensures.room) c.requires.room;
    whole = subst (IsWhole g.T.Words.WORDS (middle_count c.args.source.now.numbered g.U.Words.WORDS))
        (sym c.table.ensures) c.requires.whole;
    quiet = filled_quiet c.forget_messages.new.sender c.restore_connections.new.sender c.restore_connections.ensures.rest
        (cleared_quiet c.args.sender.now c.forget_messages.new.sender c.forget_messages.ensures.rest c.forget_messages.ensures.cleared
        (c.if-not-is_rested.ensures.rested).quiet);
    left = subst (λ t. AreLeft g.T.Words.of_parts (middle_of c.args.source.now.numbered g.U.Words.of_parts) t c.args.source.now.first
        c.restore_connections.new.sender.uses)
        (sym c.table.ensures) c.restore_connections.ensures.left;
  };
  empty = ap (λ s. s.uses.history) c.restore_connections.ensures.rest ∙ ap (λ uses. uses.history) (c.forget_messages.ensures.cleared).same;
}

pub returns-clause-restored : goal.returns-clause-restored
returns-clause-restored g c = restored_is g.T.Words.of_parts (middle_of c.args.source.now.numbered g.U.Words.of_parts)
    c.args.source.now.lanes.now c.args.source.now.from c.args.source.now.indices.now c.args.source.now.first
    c.args.source.now.history.now.items c.args.sender.now c.forget_messages.new.sender c.restore_connections.new.sender
    c.restore_history.new.sender
    c.forget_messages.ensures.rest c.forget_messages.ensures.cleared c.restore_connections.ensures.rest
    c.restore_connections.ensures.count c.restore_connections.ensures.each c.restore_connections.ensures.waits
    c.restore_history.ensures.rest (rw c.table.ensures at c.restore_history.ensures.remembers)
