use Rattle.iox_domain_slots.proofs.Welcoming.{Welcoming}
use Rattle.iox_domain_slots.proofs.uses.SlotUses.welcome.Given as goal

abbrev pub invariant-loop-place : goal.invariant-loop-place
invariant-loop-place l = Welcoming l.fn.index l.fn.self l.self l.place
