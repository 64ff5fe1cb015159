use Rattle.iox_domain_slots.proofs.uses.SlotUses.open_segment.Goals as goal
use Rattle.iox_domain_slots.proofs.Publishing.{tally_opened}

pub invariant_of-self : goal.invariant_of-self
invariant_of-self c = tally_opened c.self.inside.slots c.open_segment.new.self c.self.inside.sending c.self.inside.links
    c.open_segment.result c.self.invariant.0 c.self.invariant.1 c.open_segment.ensures.opened c.open_segment.ensures.refused
