use Rattle.std.proofs.Common.{◌≡◌, length}
use Rattle.iox_lanes_laws.specs.Numbered.{found_before}
use Rattle.iox_lanes_laws.proofs.messages.recorded.found.Given as goal

abbrev pub invariant-loop-publisher : goal.invariant-loop-publisher
invariant-loop-publisher l = (l.messages.items ≡ found_before l.lanes l.publisher) × (l.publisher-end ≡ length l.lanes.publishers)
