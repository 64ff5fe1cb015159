use Rattle.std.proofs.Common.{◌∙◌, [], ◌∷◌, ◌++◌, ap, sym}
use Rattle.std.specs.Option.{option_map}
use Rattle.iox_line.proofs.GatherLemmas.{gathers_more}
use Rattle.iox_line.specs.StepsReading.{lists_of}
use Rattle.iox_line.proofs.GatherStepLemmas.{listed_more}
use Rattle.iox_line.proofs.steps.lists.listed_steps.Goals as goal

pub loop-word-preserved : goal.loop-word-preserved
loop-word-preserved c =
    let i = c.loop-word.invariant in
    let s = c.in-Some-listed_step.step in (
      i.0 ++ s ∷ [],
      listed_more c.args.pattern c.loop-word.access c.loop-word.fresh i.0 (lists_of c.args.pattern c.args.words)
          c.in-Some.word.now c.next.new.self c.loop-word.words s i.1 c.in-Some.ensures.some
          (sym c.after.ensures ∙ ap (λ o. option_map (λ text. text.now) o) c.in_default-after.is)
          (sym c.in-Some-listed_step.is ∙ c.listed_step.ensures),
      gathers_more i.0 s c.loop-word.lacking c.append-lacking.result c.loop-word.steps c.append-lacking.new.steps i.2
          c.append-lacking.ensures,
    )
