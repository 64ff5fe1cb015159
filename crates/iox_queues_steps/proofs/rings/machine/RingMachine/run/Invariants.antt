use Rattle.std.proofs.Common.{ℕ, ◌+◌, ◌<◌, ◌≤◌, ◌^◌, length}
use Rattle.iox_queues_steps.specs.RingMachine.{RingState, FollowsOrder, IsTold, RunsTo}
use Rattle.iox_queues_steps.proofs.rings.machine.RingMachine.run.Given as goal

abbrev pub invariant-loop-step : goal.invariant-loop-step
invariant-loop-step l =
    ((n : RingState) (k : ℕ) → RunsTo l.self l.rest k n → RunsTo l.fn.self l.fn.schedule (l.made + k) n)
    × (l.self.log.moments + length l.rest < 2 ^ 63)
    × (l.made + length l.rest ≤ length l.fn.schedule)
    × FollowsOrder l.self
    × IsTold l.self

abbrev pub decreases-loop-step : goal.decreases-loop-step
decreases-loop-step l = length l.rest
