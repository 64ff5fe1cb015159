use Rattle.std.proofs.Common.{ℕ, ◌+◌, ◌≤◌, length}
use Rattle.iox_index_steps.specs.AtomicMachine.{AtomicState, HasFewStores, IsRecorded, IsTold, MovesOnce, RunsTo, StepsAreOfCalls}
use Rattle.iox_index_steps.proofs.atomic.AtomicMachine.run.Given as goal

abbrev pub invariant-loop-step : goal.invariant-loop-step
invariant-loop-step l =
    ((n : AtomicState) (k : ℕ) → RunsTo l.self l.rest k n → RunsTo l.fn.self l.fn.schedule (l.made + k) n)
    × (l.made + length l.rest ≤ length l.fn.schedule)
    × (HasFewStores l.self → IsTold l.self)
    × IsRecorded l.self
    × StepsAreOfCalls l.self
    × MovesOnce l.self

abbrev pub decreases-loop-step : goal.decreases-loop-step
decreases-loop-step l = length l.rest
