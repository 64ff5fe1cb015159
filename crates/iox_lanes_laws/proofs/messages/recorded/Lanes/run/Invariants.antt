use Rattle.std.proofs.Common.{ℕ, ◌+◌, ◌≤◌, length}
use Rattle.iox_lanes_machine.specs.Fixed.{StaysFixed}
use Rattle.iox_lanes_machine.specs.WholeReads.{CameTo}
use Rattle.iox_lanes_laws.specs.Recorded.{RecordState, RecordsRun}
use Rattle.iox_lanes_laws.specs.RecordedSteps.{AllFollow}
use Rattle.iox_lanes_laws.proofs.messages.recorded.Lanes.run.Given as goal

abbrev pub invariant-loop-entry : goal.invariant-loop-entry
invariant-loop-entry l =
    ((n : RecordState) (k : ℕ) → RecordsRun l.self l.rest k n → RecordsRun l.fn.self l.fn.schedule (l.made + k) n)
    × (l.made + length l.rest ≤ length l.fn.schedule)
    × (CameTo l.fn.self.lanes → CameTo l.self.lanes)
    × StaysFixed l.fn.self.lanes l.self.lanes
    × AllFollow l.self.lanes

abbrev pub decreases-loop-entry : goal.decreases-loop-entry
decreases-loop-entry l = length l.rest
