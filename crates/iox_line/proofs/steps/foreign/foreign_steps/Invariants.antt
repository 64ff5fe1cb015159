use Rattle.std.proofs.Common.{◌≡◌, List, length}
use Rattle.iox_command.specs.declared.step.ForeignStep.{ForeignStep}
use Rattle.iox_line.specs.Memory.{some}
use Rattle.iox_line.proofs.GatherLemmas.{Gathers, onto}
use Rattle.iox_line.specs.StepsReading.{each_step, steps_of}
use Rattle.iox_line.proofs.steps.foreign.foreign_steps.Given as goal

abbrev pub invariant-loop-word : goal.invariant-loop-word
invariant-loop-word l = (done : List ForeignStep) × (steps_of l.pattern l.fn.words ≡ onto done (each_step l.pattern l.words))
    × Gathers some done l.lacking l.steps

abbrev pub decreases-loop-word : goal.decreases-loop-word
decreases-loop-word l = length l.words
