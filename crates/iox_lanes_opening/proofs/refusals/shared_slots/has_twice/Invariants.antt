use Rattle.std.proofs.Common.{◌*◌}
use Rattle.iox_lanes_opening.specs.SharedSlots.{at_once, messages_in, AreApartBelow}
use Rattle.iox_lanes_opening.proofs.refusals.shared_slots.has_twice.Given as goal

abbrev pub invariant-loop-part : goal.invariant-loop-part
invariant-loop-part g l = AreApartBelow (l.part * at_once) (messages_in l.messages l.port)
