use Rattle.std.proofs.Common.{arith, refl, sym, subst, ap, ◌∙◌}
use Rattle.std.proofs.lemmas.List.{take_all}
use Rattle.iox_lanes_machine.specs.Resting.{mail_at}
use Rattle.iox_lanes_opening.specs.Restoring.{AreLeft, IsWhole, messages_in}
use Rattle.iox_lanes_opening.specs.Middles.{middle_count, middle_of}
use Rattle.iox_lanes_opening.proofs.Returning.{one_returned, quiet_still}
use Rattle.iox_lanes_opening.proofs.Waits.{waits_same}
use Rattle.iox_lanes_opening.proofs.leaving.restoring.restore_waiting.Goals as goal

pub loop-at-init : goal.loop-at-init
loop-at-init g c = (
  record
      { rest = waits_same c.args.index c.args.sender.now; left = c.requires.come.left; waits = λ may. c.requires.empty },
  refl,
)

pub put_own-requires : goal.put_own-requires
put_own-requires g c = record {
  room = omega (arith, c.requires.come.room, c.loop-at.invariant.1);
  whole = subst (IsWhole g.T.Words.WORDS (middle_count c.args.numbered g.U.Words.WORDS)) (sym c.table.ensures) c.requires.come.whole;
  quiet = quiet_still c.args.index c.args.sender.now c.loop-at.sender c.loop-at.invariant.0.rest c.requires.come.quiet;
  left = subst (λ t. AreLeft g.T.Words.of_parts (middle_of c.args.numbered g.U.Words.of_parts) t c.args.first c.loop-at.sender.uses)
      (sym c.table.ensures)
      c.loop-at.invariant.0.left;
}

pub loop-at-preserved : goal.loop-at-preserved
loop-at-preserved g c = (
  one_returned g.T.Words.of_parts (middle_of c.args.numbered g.U.Words.of_parts) c.args.lanes.now c.args.connection c.args.first
      c.args.index c.args.sender.now
      c.loop-at.sender c.put_own.new.sender c.loop-at.at c.waiting-at-end.result c.waiting_slot-slot.result
      c.loop-at.invariant.0 c.loop-at-test.true c.waiting-at-end.ensures.waits c.waiting_slot-slot.ensures
      (rw c.table.ensures at c.put_own.ensures.put) c.put_own.ensures.rest (rw c.table.ensures at c.put_own.ensures.left),
  c.put_own.ensures.room ∙ c.loop-at.invariant.1,
)

pub returns-clause-waits : goal.returns-clause-waits
returns-clause-waits g c = λ may. c.loop-at.invariant.0.waits may
    ∙ ap (messages_in g.T.Words.of_parts (middle_of c.args.numbered g.U.Words.of_parts) c.args.lanes.now.table c.args.first)
    (take_all c.loop-at.at (mail_at c.args.lanes.now c.args.connection)
    (omega (arith, c.loop-at-test.false, c.waiting-at-end.ensures.waits may.rests)))
