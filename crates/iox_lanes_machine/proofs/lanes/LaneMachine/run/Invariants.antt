use Rattle.std.proofs.Common.{ℕ, ◌+◌, ◌≤◌, length}
use Rattle.iox_lanes_machine.specs.World.{World, RunsTo}
use Rattle.iox_lanes_machine.specs.Alone.{LoansStandAlone}
use Rattle.iox_lanes_machine.specs.Calls.{CallsKeepTime}
use Rattle.iox_lanes_machine.specs.Fixed.{StaysFixed}
use Rattle.iox_lanes_machine.specs.Mailboxes.{OrdersFollow}
use Rattle.iox_lanes_machine.specs.Reads.{ReadsLie}
use Rattle.iox_lanes_machine.specs.Receipts.{ReceiptsFollow}
use Rattle.iox_lanes_machine.specs.Rooms.{ReleasesFollow}
use Rattle.iox_lanes_machine.specs.Sends.{SendsFollow}
use Rattle.iox_lanes_machine.specs.Slots.{LoansApart}
use Rattle.iox_lanes_machine.proofs.lanes.LaneMachine.run.Given as goal

abbrev pub invariant-loop-entry : goal.invariant-loop-entry
invariant-loop-entry l =
    ((n : World) (k : ℕ) → RunsTo l.self l.rest k n → RunsTo l.fn.self l.fn.schedule (l.made + k) n)
    × (l.made + length l.rest ≤ length l.fn.schedule)
    × StaysFixed l.fn.self l.self
    × OrdersFollow l.self
    × ReceiptsFollow l.self
    × SendsFollow l.self
    × CallsKeepTime l.self
    × LoansApart l.self
    × LoansStandAlone l.self
    × ReadsLie l.self
    × ReleasesFollow l.self

abbrev pub decreases-loop-entry : goal.decreases-loop-entry
decreases-loop-entry l = length l.rest
