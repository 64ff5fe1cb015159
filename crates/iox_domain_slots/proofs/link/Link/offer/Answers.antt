use Rattle.std.proofs.Common.{◌∙◌, arith, ◌≡◌, ◌++◌, ◌∷◌, [], drop}
use Rattle.iox_domain_slots.specs.Counting.{Moves}
use Rattle.iox_domain_slots.specs.Links.{all_of}
use Rattle.iox_domain_slots.proofs.Offering.{taken_waits, taken_for_waits, still_used, still_room, put_moves, oldest_further, lost_moves}
use Rattle.iox_domain_slots.proofs.Offering.{put_all}
use Rattle.iox_domain_slots.proofs.link.Link.offer.Goals as goal

pub refer-requires-clause-room : goal.refer-requires-clause-room
refer-requires-clause-room c = still_room c.args.slots.now c.make_room.new.slots c.args.slot _ _ c.make_room.ensures.moved
    (c.make_room.ensures.fewer c.args.slot) c.requires.room

pub refer-requires-in-TakenFor-clause-room : goal.refer-requires-in-TakenFor-clause-room
refer-requires-in-TakenFor-clause-room c
    = still_room c.args.slots.now c.make_room.new.slots c.args.slot _ _ c.make_room.ensures.moved
    (c.make_room.ensures.fewer c.args.slot) c.requires.room

-- the counts once the slot was put and has its use
between : (c : goal.After-let_go-arg-1) → Moves c.args.slots.now (all_of c.args.self.now) c.refer-in-TakenFor.new.self
    ((c.make_room.new.self.waiting ++ c.args.slot ∷ []) ++ (c.make_room.new.self.borrowed ++ c.make_room.new.self.returned))
between c = put_moves c.args.slots.now c.make_room.new.slots c.refer-in-TakenFor.new.self c.args.slot (all_of c.args.self.now)
    c.make_room.new.self.waiting
    (c.make_room.new.self.borrowed ++ c.make_room.new.self.returned) c.make_room.ensures.moved
    (still_used c.args.slots.now c.make_room.new.slots c.args.slot _ _ c.make_room.ensures.moved c.requires.besides)
    c.refer-in-TakenFor.ensures

pub let_go-requires : goal.let_go-requires
let_go-requires c = record {
  used = oldest_further c.args.slots.now c.refer-in-TakenFor.new.self c.args.slot c.in-TakenFor.oldest (all_of c.args.self.now)
      c.make_room.new.self.waiting
      (c.make_room.new.self.borrowed ++ c.make_room.new.self.returned) c.requires.covered (between c)
      (taken_for_waits _ _ c.make_room.new.self.waiting c.args.slot c.in-TakenFor.oldest c.in-TakenFor.ensures.answer).1;
}

pub returns-in-Taken-clause-moved : goal.returns-in-Taken-clause-moved
returns-in-Taken-clause-moved c =
    let waits : c.put.new.self.waiting ≡ c.make_room.new.self.waiting ++ c.args.slot ∷ [] =
    c.put.ensures.waiting ∙ taken_waits c.make_room.new.self.overflows c.make_room.new.self.limit c.make_room.new.self.waiting
    c.args.slot c.in-Taken.ensures.answer in
    rw (put_all c.make_room.new.self c.put.new.self (c.make_room.new.self.waiting ++ c.args.slot ∷ []) waits c.put.ensures.same.1
    c.put.ensures.same.2)
    (put_moves c.args.slots.now c.make_room.new.slots c.refer.new.self c.args.slot (all_of c.args.self.now) c.make_room.new.self.waiting
    (c.make_room.new.self.borrowed ++ c.make_room.new.self.returned) c.make_room.ensures.moved
    (still_used c.args.slots.now c.make_room.new.slots c.args.slot _ _ c.make_room.ensures.moved c.requires.besides) c.refer.ensures)

pub returns-in-TakenFor-clause-moved : goal.returns-in-TakenFor-clause-moved
returns-in-TakenFor-clause-moved c =
    let which = taken_for_waits c.make_room.new.self.overflows c.make_room.new.self.limit c.make_room.new.self.waiting c.args.slot
    c.in-TakenFor.oldest c.in-TakenFor.ensures.answer in
    rw (put_all c.make_room.new.self c.put.new.self (drop 1 (c.make_room.new.self.waiting ++ c.args.slot ∷ []))
    (c.put.ensures.waiting ∙ which.0) c.put.ensures.same.1 c.put.ensures.same.2)
    (lost_moves c.args.slots.now c.refer-in-TakenFor.new.self c.let_go.new.self c.args.slot c.in-TakenFor.oldest
    (all_of c.args.self.now) c.make_room.new.self.waiting
    (c.make_room.new.self.borrowed ++ c.make_room.new.self.returned) (between c.before) (omega (arith, (let_go-requires c.before).used))
    c.let_go.ensures which.1)
