use Rattle.std.proofs.Common.{sym}
use Rattle.iox_domain.specs.DomainPorts.Ports.{connection_of}
use Rattle.iox_lanes_opening.proofs.Slicing.{slice_at}
use Rattle.iox_lanes_opening.proofs.refusals.slices.is_slice_waiting.Goals as goal

pub returns : goal.returns
returns g c = sym (slice_at (connection_of c.args.index c.args.port.now).waiting c.args.at c.waiting_slot-slot.result
    c.payload.result.now c.waiting_slot-slot.ensures.slot
    (λ message at same. c.payload.ensures.waiting c.args.index c.args.at message at same))
