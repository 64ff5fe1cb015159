use Rattle.iox_domain_slots.proofs.Borrowing.{none_found, once_found}
use Rattle.iox_domain_slots.proofs.borrowed.oldest.Goals as goal

pub returns-else-twice-clause-some : goal.returns-else-twice-clause-some
returns-else-twice-clause-some c = once_found c.args.slots.now c.args.order.now.items c.args.slot c.near.result
    (c.requires.once c.if-twice.false) c.near.ensures.taken c.near.ensures.same

pub returns-else-twice-clause-none : goal.returns-else-twice-clause-none
returns-else-twice-clause-none c
    = none_found c.args.cells c.args.slots.now c.args.order.now.items c.args.slot c.args.reach c.near.result c.requires.near
    c.near.ensures.none
