use Rattle.iox_domain.specs.DomainSlots.Uses.{nobody}
use Rattle.iox_lanes_opening.specs.Slices.{slice_waits}
use Rattle.iox_lanes_opening.proofs.Going.{NoneBelow}
use Rattle.iox_lanes_opening.proofs.refusals.slices.has_slice_waiting.Given as goal

abbrev pub invariant-loop-index : goal.invariant-loop-index
invariant-loop-index g l = NoneBelow slice_waits nobody l.port.sender.uses.connections l.index
