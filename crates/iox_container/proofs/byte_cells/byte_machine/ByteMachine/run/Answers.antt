use Rattle.std.proofs.Common.{◌≡◌, ◌<◌, length, arith, get_or}
use Rattle.iox_container.specs.declared.byte_cells.byte_machine.ByteStep.{ByteStep}
use Rattle.iox_container.specs.declared.byte_cells.byte_machine.ByteStep.TheVariants.{Store}
use Rattle.std.proofs.lemmas.List.{get_or_default}
use Rattle.iox_container.proofs.Bytes.{AnswersSoFar-more, HoldsAfter-more}
use Rattle.iox_container.proofs.byte_cells.byte_machine.ByteMachine.run.Goals as goal

pub loop-step-preserved : goal.loop-step-preserved
loop-step-preserved g c =
    let steps = c.args.steps.now in
    let i = c.loop-step.step-index in
    let step : ByteStep = get_or steps i (Store 0 0) in
    let inside : i < length steps = omega arith in
    let held = c.loop-step.invariant.0 in
    let is : step ≡ get_or steps i step = get_or_default steps i (Store 0 0) step inside in (
      HoldsAfter-more c.args.self.now c.loop-step.self c.step.new.self steps i step inside is held c.step.ensures.bytes,
      AnswersSoFar-more c.args.self.now c.loop-step.self steps i step c.loop-step.answers.items c.push_reserved.new.self.items
          c.step.result inside is held
          c.step.ensures.answer c.push_reserved.ensures.items c.loop-step.invariant.1,
      omega (arith, c.loop-step.invariant.2, c.push_reserved.ensures.capacity),
    )
