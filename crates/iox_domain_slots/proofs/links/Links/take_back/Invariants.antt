use Rattle.iox_domain_slots.proofs.AllSlots.{TakingAllBack}
use Rattle.iox_domain_slots.proofs.links.Links.take_back.Given as goal

abbrev pub invariant-loop-index : goal.invariant-loop-index
invariant-loop-index l = TakingAllBack l.fn.self l.fn.slots l.self l.slots l.index
