use Rattle.iox_domain.specs.DomainSlots.Uses.{nobody}
use Rattle.iox_lanes_opening.specs.Soundness.{waits_ill}
use Rattle.iox_lanes_opening.proofs.Going.{NoneBelow}
use Rattle.iox_lanes_opening.proofs.refusals.soundness.has_ill_connection.Given as goal

abbrev pub invariant-loop-index : goal.invariant-loop-index
invariant-loop-index g l = NoneBelow (waits_ill l.sizes) nobody l.port.sender.uses.connections l.index
