use Rattle.iox_domain_slots.proofs.Publishing.{countable}
use Rattle.iox_domain_slots.proofs.uses.SlotUses.remember.Goals as goal

pub remember-requires-clause-room : goal.remember-requires-clause-room
remember-requires-clause-room c = countable c.self.inside.slots c.self.inside.sending c.self.inside.links c.self.invariant.0
    c.self.invariant.1 c.len-indices.ensures.countable c.in-Some.slot
