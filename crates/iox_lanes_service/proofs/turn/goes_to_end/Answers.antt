use Rattle.std.proofs.Common.{ℕ, ◌≡◌, ◌≤◌, ◌^◌, subst, arith}
use Rattle.iox_lanes_service.specs.Turning.{GoesThrough}
use Rattle.iox_lanes_service.proofs.Stopping.{gone_inside, through_more, through_to_end, through_to_want}
use Rattle.iox_lanes_service.proofs.Tables.{not_both}
use Rattle.iox_lanes_service.proofs.turn.goes_to_end.Goals as goal

pub loop-made-preserved : goal.loop-made-preserved
loop-made-preserved c = record {
  goes = through_more c.args.party c.loop-made._made c.args.lanes.now c.loop-made.lanes c.step.new.self c.loop-made.invariant.goes
      c.in-Went.ensures.steps;
  inside = gone_inside c.loop-made.lanes c.args.party c.step.new.self c.in-Went.ensures.steps;
  ended = omega (arith, c.in-Went.ensures.apart.calls, c.loop-made.invariant.ended);
}

pub unreachable-requires : goal.unreachable-requires
unreachable-requires c = not_both _ c.loop-made.invariant.inside c.in-Skipped.ensures.steps.0

pub returns-in-Finished : goal.returns-in-Finished
returns-in-Finished c = (
  (
    c.loop-made._made,
    through_to_end c.args.party c.loop-made._made c.args.lanes.now c.loop-made.lanes c.step.new.self c.loop-made.invariant.goes
        c.in-Finished.ensures.steps,
  ),
  omega (arith, c.in-Finished.ensures.apart.calls, c.loop-made.invariant.ended),
)

pub returns-in-NoMemory : goal.returns-in-NoMemory
returns-in-NoMemory c =
    through_to_want c.args.party c.loop-made._made c.args.lanes.now c.loop-made.lanes c.step.new.self c.loop-made.invariant.goes
    c.in-NoMemory.ensures.steps

pub returns : goal.returns
returns c =
    let all : c.loop-made._made ≡ 2 ^ 62 = omega (arith, c.loop-made-test.false, c.loop-made.auto._made-end) in
    let most : 2 ^ 62 ≤ 2 ^ 62 = omega arith in
    (most, subst (λ (made : ℕ). GoesThrough c.args.party made c.args.lanes.now c.loop-made.lanes) all c.loop-made.invariant.goes)
