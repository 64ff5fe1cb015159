use Rattle.std.proofs.Common.{arith, refl, ◌∙◌}
use Rattle.iox_lanes.specs.Spelling.{reading_back, spelling_of}
use Rattle.iox_lanes.proofs.JoinedLanes.{none_left, one_left, all_left}
use Rattle.iox_lanes.proofs.returning.restore_publishers.Goals as goal

pub loop-place-init : goal.loop-place-init
loop-place-init g c = (
  λ rest places joined. none_left (reading_back c.args.left.now.numbered g.T.Words.of_parts g.U.Words.of_parts)
      (spelling_of c.args.left.now.numbered g.T.Words.parts g.T.Words.WORDS g.U.Words.parts g.U.Words.WORDS) places
      c.args.left.now.lanes.now
      c.args.numbers.now c.args.left.now.readers c.args.left.now.indices.now c.args.publishers.now joined,
  refl,
)

pub restore_publisher-requires : goal.restore_publisher-requires
restore_publisher-requires g c = record { room = omega (arith, c.requires.room, c.loop-place.invariant.1); whole = c.requires.whole }

pub loop-place-preserved : goal.loop-place-preserved
loop-place-preserved g c = (
  λ rest places joined. one_left (reading_back c.args.left.now.numbered g.T.Words.of_parts g.U.Words.of_parts)
      (spelling_of c.args.left.now.numbered g.T.Words.parts g.T.Words.WORDS g.U.Words.parts g.U.Words.WORDS) places
      c.args.left.now.lanes.now
      c.args.numbers.now c.args.left.now.readers c.args.left.now.indices.now c.args.publishers.now joined
      c.loop-place.publishers c.restore_publisher.new.publishers c.loop-place.place c.loop-place-test.true
      (c.loop-place.invariant.0 rest places joined) c.restore_publisher.ensures.others (c.restore_publisher.ensures.this rest),
  c.restore_publisher.ensures.room ∙ c.loop-place.invariant.1,
)

pub returns : goal.returns
returns g c = λ rest places joined. all_left (reading_back c.args.left.now.numbered g.T.Words.of_parts g.U.Words.of_parts)
    (spelling_of c.args.left.now.numbered g.T.Words.parts g.T.Words.WORDS g.U.Words.parts g.U.Words.WORDS) places
    c.args.left.now.lanes.now c.args.numbers.now c.args.left.now.readers c.args.left.now.indices.now c.args.publishers.now joined
    c.loop-place.publishers c.loop-place.place c.loop-place-test.false (c.loop-place.invariant.0 rest places joined)
