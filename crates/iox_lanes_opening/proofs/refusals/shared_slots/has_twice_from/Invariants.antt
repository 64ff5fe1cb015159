use Rattle.iox_lanes_opening.specs.SharedSlots.{messages_in}
use Rattle.iox_lanes_opening.proofs.Marking.{AreMarked}
use Rattle.iox_lanes_opening.proofs.refusals.shared_slots.has_twice_from.Given as goal

abbrev pub invariant-loop-place : goal.invariant-loop-place
invariant-loop-place g l = AreMarked (messages_in l.messages l.port) l.first l.place l.marks
