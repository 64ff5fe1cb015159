use Rattle.std.proofs.Common.{arith}
use Rattle.iox_lanes_opening.proofs.Marking.{parts_reach}
use Rattle.iox_lanes_opening.proofs.refusals.shared_slots.part_count.Goals as goal

pub returns-clause-all : goal.returns-clause-all
returns-clause-all g c = λ place slot there.
    omega (arith, parts_reach c.largest_slot.result, c.largest_slot.ensures place slot there)
