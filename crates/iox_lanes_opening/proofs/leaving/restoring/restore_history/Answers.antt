use Rattle.std.proofs.Common.{◌<◌, arith, length, refl, ap, ◌∙◌}
use Rattle.std.proofs.lemmas.List.{get_or_default, take_all}
use Rattle.iox_lanes_opening.specs.Restoring.{messages_in}
use Rattle.iox_lanes_opening.specs.Middles.{middle_of}
use Rattle.iox_lanes_opening.proofs.Remembering.{one_remembered, quiet_yet}
use Rattle.iox_lanes_opening.proofs.leaving.restoring.restore_history.Goals as goal

pub loop-at-init : goal.loop-at-init
loop-at-init g c = (record { rest = refl; left = c.requires.come.left; remembers = λ may. c.requires.empty }, refl)

pub remember_own-requires : goal.remember_own-requires
remember_own-requires g c = record {
  room = omega (arith, c.requires.come.room, c.loop-at.invariant.1);
  whole = c.requires.come.whole;
  quiet = quiet_yet c.args.sender.now c.loop-at.sender c.loop-at.invariant.0.rest c.requires.come.quiet;
  left = c.loop-at.invariant.0.left;
}

pub loop-at-preserved : goal.loop-at-preserved
loop-at-preserved g c =
    let inside : c.loop-at.at < length c.args.history.now.items = omega (arith, c.loop-at-test.true, c.len-at-end.ensures) in (
      one_remembered g.T.Words.of_parts (middle_of c.args.numbered g.U.Words.of_parts) c.args.table.now c.args.history.now.items
          c.args.first c.args.sender.now
          c.loop-at.sender c.remember_own.new.sender c.loop-at.at c.index.result.now
          c.loop-at.invariant.0 inside
          (c.index.ensures ∙ get_or_default c.args.history.now.items c.loop-at.at c.index.result.now 0 inside)
          c.remember_own.ensures.remembered c.remember_own.ensures.rest c.remember_own.ensures.left,
      c.remember_own.ensures.room ∙ c.loop-at.invariant.1,
    )

pub returns-clause-remembers : goal.returns-clause-remembers
returns-clause-remembers g c = λ may. c.loop-at.invariant.0.remembers may
    ∙ ap (messages_in g.T.Words.of_parts (middle_of c.args.numbered g.U.Words.of_parts) c.args.table.now c.args.first)
    (take_all c.loop-at.at c.args.history.now.items (omega (arith, c.loop-at-test.false)))
