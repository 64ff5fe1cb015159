use Rattle.std.proofs.Common.{ℕ, ◌+◌, ◌≤◌, length}
use Rattle.iox_robust_steps.specs.Machine.{HasFewSteps, RobustSetState, IsOrderly, IsRecorded, RunsTo}
use Rattle.iox_robust_steps.specs.OfCalls.{StepsAreOfCalls}
use Rattle.iox_robust_steps.proofs.Runs.{PassesTo}
use Rattle.iox_robust_steps.proofs.machine.RobustSetMachine.run.Given as goal

abbrev pub invariant-loop-step : goal.invariant-loop-step
invariant-loop-step l =
    ((n : RobustSetState) (k : ℕ) → RunsTo l.self l.rest k n → RunsTo l.fn.self l.fn.schedule (l.made + k) n)
    × (l.made + length l.rest ≤ length l.fn.schedule)
    × (HasFewSteps l.self → IsOrderly l.self)
    × PassesTo l.fn.self l.self
    × IsRecorded l.self
    × StepsAreOfCalls l.self

abbrev pub decreases-loop-step : goal.decreases-loop-step
decreases-loop-step l = length l.rest
