use Rattle.std.proofs.Common.{◌∙◌, sym}
use Rattle.iox_domain_slots.proofs.Borrowing.{none_twice, some_twice}
use Rattle.iox_domain_slots.proofs.borrowed.will_be_twice.Goals as goal

pub returns-else-twice-clause-none : goal.returns-else-twice-clause-none
returns-else-twice-clause-none c is = none_twice c.args.cells c.args.slots.now c.args.order.now.items c.args.slot c.args.reach c.near.result
    c.requires.near c.near.ensures.none (sym c.is_some.ensures ∙ is)

pub returns-else-twice-clause-now : goal.returns-else-twice-clause-now
returns-else-twice-clause-now c is once = some_twice c.args.slots.now c.args.order.now.items c.args.slot c.near.result c.near.ensures.taken
    c.near.ensures.same (sym c.is_some.ensures ∙ is)
