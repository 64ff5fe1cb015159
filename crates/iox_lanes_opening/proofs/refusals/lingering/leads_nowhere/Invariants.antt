use Rattle.std.proofs.Common.{None}
use Rattle.iox_lanes_opening.specs.Lingering.{leads_nowhere}
use Rattle.iox_lanes_opening.proofs.Going.{NoneBelow}
use Rattle.iox_lanes_opening.proofs.refusals.lingering.leads_nowhere.Given as goal

abbrev pub invariant-loop-key : goal.invariant-loop-key
invariant-loop-key g l = NoneBelow (leads_nowhere l.publishers) None l.port.connections.values l.key
