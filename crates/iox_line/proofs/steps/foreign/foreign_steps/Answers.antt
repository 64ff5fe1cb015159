use Rattle.std.proofs.Common.{◌∙◌, [], ◌∷◌, ◌++◌, sym}
use Rattle.iox_line.proofs.GatherLemmas.{gathers_more}
use Rattle.iox_line.specs.StepsReading.{steps_of}
use Rattle.iox_line.proofs.GatherStepLemmas.{step_more}
use Rattle.iox_line.proofs.steps.foreign.foreign_steps.Goals as goal

pub loop-word-preserved : goal.loop-word-preserved
loop-word-preserved c =
    let i = c.loop-word.invariant in
    let s = c.in-Some-step.step in (
      i.0 ++ s ∷ [],
      step_more c.args.pattern i.0 (steps_of c.args.pattern c.args.words) c.in-Some.word.now c.next.new.self
          c.loop-word.words s i.1 c.in-Some.ensures.some (sym c.in-Some-step.is ∙ c.step.ensures),
      gathers_more i.0 s c.loop-word.lacking c.append-lacking.result c.loop-word.steps c.append-lacking.new.steps i.2
          c.append-lacking.ensures,
    )
