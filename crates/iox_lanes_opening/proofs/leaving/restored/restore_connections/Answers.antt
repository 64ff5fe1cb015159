use Rattle.std.proofs.Common.{arith, refl, ◌∙◌}
use Rattle.iox_lanes_opening.specs.Middles.{middle_of}
use Rattle.iox_lanes_opening.proofs.Filling.{none_filled, one_filled, all_filled, filled_quiet}
use Rattle.iox_lanes_opening.proofs.leaving.restored.restore_connections.Goals as goal

pub loop-index-init : goal.loop-index-init
loop-index-init g c = (
  none_filled g.T.Words.of_parts (middle_of c.args.source.now.numbered g.U.Words.of_parts) c.args.source.now.lanes.now
      c.args.source.now.from c.args.source.now.indices.now c.args.source.now.first c.args.sender.now
      c.requires.come.left c.requires.empty,
  refl,
)

pub restore_at-requires : goal.restore_at-requires
restore_at-requires g c = record {
  empty = c.loop-index.invariant.0.empty c.loop-index.index (omega arith);
  connections = c.requires.connections;
  come = record {
    room = omega (arith, c.requires.come.room, c.loop-index.invariant.1);
    whole = c.requires.come.whole;
    quiet = filled_quiet c.args.sender.now c.loop-index.sender c.loop-index.invariant.0.rest c.requires.come.quiet;
    left = c.loop-index.invariant.0.left;
  };
}

pub loop-index-preserved : goal.loop-index-preserved
loop-index-preserved g c = (
  one_filled g.T.Words.of_parts (middle_of c.args.source.now.numbered g.U.Words.of_parts) c.args.source.now.lanes.now
      c.args.source.now.from c.args.source.now.indices.now c.args.source.now.first c.args.sender.now
      c.loop-index.sender c.restore_at.new.sender c.loop-index.index
      c.loop-index.invariant.0 (omega (arith, c.loop-index-test.true, c.indices-index-end.ensures.value)) c.restore_at.ensures.rest
      c.restore_at.ensures.waits c.restore_at.ensures.left,
  c.restore_at.ensures.room ∙ c.loop-index.invariant.1,
)

pub returns-clause-rest : goal.returns-clause-rest
returns-clause-rest g c = c.loop-index.invariant.0.rest

pub returns-clause-count : goal.returns-clause-count
returns-clause-count g c = c.loop-index.invariant.0.same

pub returns-clause-each : goal.returns-clause-each
returns-clause-each g c = c.loop-index.invariant.0.each

pub returns-clause-waits : goal.returns-clause-waits
returns-clause-waits g c =
    all_filled g.T.Words.of_parts (middle_of c.args.source.now.numbered g.U.Words.of_parts) c.args.source.now.lanes.now
    c.args.source.now.from c.args.source.now.indices.now c.args.source.now.first
    c.args.sender.now c.loop-index.sender c.loop-index.index c.loop-index.invariant.0
    (omega (arith, c.loop-index-test.false, c.loop-index.auto.index-end, c.indices-index-end.ensures.value))

pub returns-clause-left : goal.returns-clause-left
returns-clause-left g c = c.loop-index.invariant.0.left

pub returns-clause-room : goal.returns-clause-room
returns-clause-room g c = c.loop-index.invariant.1
