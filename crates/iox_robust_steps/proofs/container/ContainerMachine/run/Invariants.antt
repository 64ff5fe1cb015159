use Rattle.std.proofs.Common.{ℕ, ◌+◌, ◌≤◌, length}
use Rattle.iox_robust_steps.specs.ContainerMachine.{ContainerParts, HasFewMoves, MemberRunsTo, MembersAreRecorded}
use Rattle.iox_robust_steps.specs.ContainerKept.{MembersAreOrderly}
use Rattle.iox_robust_steps.specs.ContainerStays.{MembersAreOfCalls}
use Rattle.iox_robust_steps.proofs.container.ContainerMachine.run.Given as goal

abbrev pub invariant-loop-step : goal.invariant-loop-step
invariant-loop-step l =
    ((n : ContainerParts) (k : ℕ) → MemberRunsTo l.self l.rest k n → MemberRunsTo l.fn.self l.fn.schedule (l.made + k) n)
    × (l.made + length l.rest ≤ length l.fn.schedule)
    × (HasFewMoves l.self → MembersAreOrderly l.self)
    × MembersAreRecorded l.self
    × MembersAreOfCalls l.self

abbrev pub decreases-loop-step : goal.decreases-loop-step
decreases-loop-step l = length l.rest
