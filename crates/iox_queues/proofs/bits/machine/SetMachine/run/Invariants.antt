use Rattle.std.proofs.Common.{ℕ, ◌+◌, ◌≤◌, length}
use Rattle.iox_queues.specs.Machine.{SetState, IsBalanced, IsTold, RunsTo}
use Rattle.iox_queues.specs.Asked.{ChangesByActs, IsRecorded, StepsAreOfCalls}
use Rattle.iox_queues.specs.Moments.{CallsHaveMoments}
use Rattle.iox_queues.proofs.bits.machine.SetMachine.run.Given as goal

abbrev pub invariant-loop-step : goal.invariant-loop-step
invariant-loop-step l =
    ((n : SetState) (k : ℕ) → RunsTo l.self l.rest k n → RunsTo l.fn.self l.fn.schedule (l.made + k) n)
    × (l.made + length l.rest ≤ length l.fn.schedule)
    × IsBalanced l.self
    × IsTold l.self
    × IsRecorded l.self
    × StepsAreOfCalls l.self
    × ChangesByActs l.self
    × CallsHaveMoments l.self

abbrev pub decreases-loop-step : goal.decreases-loop-step
decreases-loop-step l = length l.rest
