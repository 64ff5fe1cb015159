use Rattle.std.proofs.Common.{ℕ, ◌+◌, ◌≤◌, length}
use Rattle.iox_index_steps.specs.Machine.{HasFewChanges, IndexSetState, IsOrderly, IsRecorded, RunsTo}
use Rattle.iox_index_steps.specs.OfCalls.{StepsAreOfCalls}
use Rattle.iox_index_steps.proofs.Runs.{PassesTo}
use Rattle.iox_index_steps.proofs.machine.IndexSetMachine.run.Given as goal

abbrev pub invariant-loop-step : goal.invariant-loop-step
invariant-loop-step l =
    ((n : IndexSetState) (k : ℕ) → RunsTo l.self l.rest k n → RunsTo l.fn.self l.fn.schedule (l.made + k) n)
    × (l.made + length l.rest ≤ length l.fn.schedule)
    × (HasFewChanges l.self → IsOrderly l.self)
    × PassesTo l.fn.self l.self
    × IsRecorded l.self
    × StepsAreOfCalls l.self

abbrev pub decreases-loop-step : goal.decreases-loop-step
decreases-loop-step l = length l.rest
