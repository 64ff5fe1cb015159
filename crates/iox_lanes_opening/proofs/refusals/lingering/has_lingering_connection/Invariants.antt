use Rattle.iox_domain.specs.DomainSlots.Uses.{nobody}
use Rattle.iox_lanes_opening.specs.Lingering.{connection_lingers}
use Rattle.iox_lanes_opening.proofs.Going.{NoneBelow}
use Rattle.iox_lanes_opening.proofs.refusals.lingering.has_lingering_connection.Given as goal

abbrev pub invariant-loop-index : goal.invariant-loop-index
invariant-loop-index g l = NoneBelow connection_lingers nobody l.port.sender.uses.connections l.index
