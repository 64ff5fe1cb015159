use Rattle.iox_domain.specs.DomainPorts.Ports.{connection_of}
use Rattle.iox_lanes_opening.specs.Slices.{is_slice}
use Rattle.iox_lanes_opening.proofs.Going.{NoneGot}
use Rattle.iox_lanes_opening.proofs.refusals.slices.slice_waits.Given as goal

abbrev pub invariant-loop-at : goal.invariant-loop-at
invariant-loop-at g l = NoneGot is_slice (connection_of l.index l.port).waiting l.at
