use Rattle.iox_domain_slots.proofs.AllSlots.{link_within, gone_times, gone_seen, set_same}
use Rattle.iox_domain_slots.proofs.links.Links.settle.Goals as goal

pub returns-then-is_over-clause-after : goal.returns-then-is_over-clause-after
returns-then-is_over-clause-after c
    = rw c.clear.ensures (gone_seen c.args.self.now.links c.args.index (c.is_over.ensures.yes c.if-is_over.true))

pub returns-then-is_over-clause-uses : goal.returns-then-is_over-clause-uses
returns-then-is_over-clause-uses c = rw c.clear.ensures
    (gone_times c.args.self.now.links c.args.index (link_within c.args.self.now.links c.args.index c.requires.there)
    (c.is_over.ensures.yes c.if-is_over.true))

pub returns-else-is_over-clause-after : goal.returns-else-is_over-clause-after
returns-else-is_over-clause-after c = set_same c.args.self.now.links c.args.index _ (c.is_over.ensures.no c.if-is_over.false)
