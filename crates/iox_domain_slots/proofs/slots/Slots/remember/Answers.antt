use Rattle.std.proofs.Common.{arith}
use Rattle.iox_domain_slots.proofs.Moving.{remember_moves, still_further}
use Rattle.iox_domain_slots.proofs.slots.Slots.remember.Goals as goal

pub add_newest-requires-clause-used : goal.add_newest-requires-clause-used
add_newest-requires-clause-used c = still_further c.args.self.now c.make_room.new.self c.args.slot c.requires.used
    (rw c.refer.ensures at c.make_room.ensures.moved)

pub returns-clause-moved : goal.returns-clause-moved
returns-clause-moved c = remember_moves c.args.self.now c.make_room.new.self c.add_newest.new.self c.args.slot
    (omega (arith, c.requires.used)) (rw c.refer.ensures at c.make_room.ensures.moved) c.add_newest.ensures
