use Rattle.std.proofs.Common.{◌≤◌, length, take, vec_capacity}
use Rattle.iox_container.specs.ByteSteps.{HoldsAfter}
use Rattle.iox_container.proofs.Bytes.{AnswersSoFar}
use Rattle.iox_container.proofs.byte_cells.byte_machine.ByteMachine.run.Given as goal

-- the first steps were made and answered
abbrev pub invariant-loop-step : goal.invariant-loop-step
invariant-loop-step g l =
    HoldsAfter l.fn.self (take l.step-index l.steps) l.self
    × AnswersSoFar l.fn.self l.steps l.step-index l.answers.items
    × (length l.steps ≤ vec_capacity l.answers)
