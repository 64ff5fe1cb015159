use Rattle.std.proofs.Common.{◌≡◌, List, length}
use Rattle.iox_command.specs.declared.step.StepBefore.{StepBefore}
use Rattle.iox_line.specs.Memory.{some}
use Rattle.iox_line.proofs.GatherLemmas.{Gathers, onto}
use Rattle.iox_line.specs.StepsReading.{lists_from, lists_of}
use Rattle.iox_line.proofs.steps.lists.listed_steps.Given as goal

abbrev pub invariant-loop-word : goal.invariant-loop-word
invariant-loop-word l = (done : List StepBefore)
    × (lists_of l.pattern l.fn.words ≡ onto done (lists_from l.pattern l.access l.fresh l.words)) × Gathers some done l.lacking l.steps

abbrev pub decreases-loop-word : goal.decreases-loop-word
decreases-loop-word l = length l.words
