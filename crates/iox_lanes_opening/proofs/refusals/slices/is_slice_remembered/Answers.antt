use Rattle.std.proofs.Common.{sym}
use Rattle.iox_lanes_opening.proofs.Slicing.{slice_at}
use Rattle.iox_lanes_opening.proofs.refusals.slices.is_slice_remembered.Goals as goal

pub returns : goal.returns
returns g c = sym (slice_at c.args.port.now.sender.uses.history c.args.place c.remembered-slot.result c.payload.result.now
    c.remembered-slot.ensures.slot (λ message at same. c.payload.ensures.remembered c.args.place message at same))
