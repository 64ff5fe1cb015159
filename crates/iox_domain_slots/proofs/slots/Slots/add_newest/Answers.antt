use Rattle.std.proofs.Common.{length-append, arith, ◌≡◌, ◌+◌, ◌<◌, ◌∷◌, [], ◌++◌, length, get_or}
use Rattle.iox_domain_slots.specs.Counting.{times}
use Rattle.iox_domain_slots.proofs.Moving.{with_further, pushed}
use Rattle.iox_domain_slots.proofs.slots.Slots.add_newest.Goals as goal

pub invariant_of-self : goal.invariant_of-self
invariant_of-self c =
    let used : times c.args.slot c.self.inside.loans.items + times c.args.slot c.self.inside.history.items < get_or
    c.self.inside.references.items c.args.slot 0 =
    rw (← c.self.view_is) at c.requires.used in
    let room : length c.self.inside.history.items < c.self.inside.history.capacity = rw (← c.self.view_is) at c.requires.room in
    let after : c.push-has_room.new.self.items ≡ c.self.inside.history.items ++ c.args.slot ∷ [] =
    pushed _ _ _ _ _ c.push-has_room.ensures.answer room c.push-has_room.ensures.items in (
      c.self.invariant.0,
      c.self.invariant.1,
      c.self.invariant.2,
      rw after (with_further c.self.inside.references.items c.self.inside.loans.items c.self.inside.history.items c.args.slot used
          c.self.invariant.3),
      c.self.invariant.4,
      c.self.invariant.5,
      rw after (rw c.push-has_room.ensures.capacity (omega (arith, length-append c.self.inside.history.items (c.args.slot ∷ []), room))),
      c.self.invariant.7,
    )
