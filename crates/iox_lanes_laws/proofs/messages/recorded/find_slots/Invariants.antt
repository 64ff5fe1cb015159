use Rattle.std.proofs.Common.{◌≡◌, ◌++◌, length}
use Rattle.iox_lanes_laws.specs.Numbered.{found_first}
use Rattle.iox_lanes_laws.proofs.messages.recorded.find_slots.Given as goal

abbrev pub invariant-loop-at : goal.invariant-loop-at
invariant-loop-at l = (l.messages.items ≡ l.fn.messages.items ++ found_first l.lanes l.publisher l.lane l.at)
    × (l.at-end ≡ length l.lane.port.book.loans)
