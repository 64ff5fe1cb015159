use Rattle.std.proofs.Common.{arith, sym, ◌*◌}
use Rattle.iox_lanes_opening.specs.SharedSlots.{at_once, messages_in}
use Rattle.iox_lanes_opening.proofs.Marking.{all_apart, part_apart}
use Rattle.iox_lanes_opening.proofs.refusals.shared_slots.has_twice.Goals as goal

pub loop-part-preserved : goal.loop-part-preserved
loop-part-preserved g c = part_apart (messages_in c.args.messages c.args.port.now) c.loop-part.part c.loop-part.invariant
    (c.has_twice_from.ensures.no c.if-has_twice_from.false)

pub returns : goal.returns
returns g c = sym (all_apart (messages_in c.args.messages c.args.port.now) (c.loop-part.part * at_once) c.loop-part.invariant
    (λ place slot there. omega (arith, c.part_count-part-end.ensures.all place slot there, c.loop-part-test.false)))
