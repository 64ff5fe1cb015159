use Rattle.std.proofs.Common.{arith, refl, sym, reverse, length, false}
use Rattle.std.proofs.lemmas.List.{length-set, length-reverse}
use Rattle.iox_container.specs.Unique.{UniqueSetState}
use Rattle.iox_container.proofs.FreeLists.{AreFree-freed, AreFree-room, Takes-first, held-means, reverse-last}
use Rattle.iox_container.proofs.unique.UniqueIndexSet.put_back.Goals as goal

pub push_reserved-requires : goal.push_reserved-requires
push_reserved-requires c =
    let before : UniqueSetState =
    record { capacity = length c.self.inside.held.items; free = reverse c.self.inside.free.items; locked = c.self.inside.locked } in
    let held = held-means c.args.index before (rw (← c.self.view_is) at c.requires) in
    let room = AreFree-room c.self.inside.held.items c.args.index before.free c.self.invariant.0 held.0 held.1 in
    let long = length-reverse c.self.inside.free.items in
    omega (arith, room, long, c.self.invariant.1, c.self.inside.free.ok.0)

pub invariant_of-self : goal.invariant_of-self
invariant_of-self c =
    let before : UniqueSetState =
    record { capacity = length c.self.inside.held.items; free = reverse c.self.inside.free.items; locked = c.self.inside.locked } in
    let held = held-means c.args.index before (rw (← c.self.view_is) at c.requires) in
    let room = AreFree-room c.self.inside.held.items c.args.index before.free c.self.invariant.0 held.0 held.1 in (
      rw (reverse-last _ _ _ c.push_reserved.ensures.items) (AreFree-freed _ _ _ c.self.invariant.0 held.0 held.1),
      rw (length-set c.self.inside.held.items c.args.index false) (omega (arith, c.self.invariant.1, c.push_reserved.ensures.capacity)),
      λ locked. absurd (omega (arith, room, c.self.invariant.2 locked)),
    )

pub returns-clause-after : goal.returns-clause-after
returns-clause-after c =
    rw (← c.self.view_is, reverse-last _ _ _ c.push_reserved.ensures.items, length-set c.self.inside.held.items c.args.index false) refl

pub returns-clause-taken : goal.returns-clause-taken
returns-clause-taken c =
    let before : UniqueSetState =
    record { capacity = length c.self.inside.held.items; free = reverse c.self.inside.free.items; locked = c.self.inside.locked } in
    let held = held-means c.args.index before (rw (← c.self.view_is) at c.requires) in
    rw (← c.self.view_is) (
    Takes-first _ _ _ _ _ _ (AreFree-freed c.self.inside.held.items c.args.index before.free c.self.invariant.0 held.0 held.1)
    (sym (length-set c.self.inside.held.items c.args.index false)))

pub returns-clause-one_fewer : goal.returns-clause-one_fewer
returns-clause-one_fewer c =
    let before : UniqueSetState =
    record { capacity = length c.self.inside.held.items; free = reverse c.self.inside.free.items; locked = c.self.inside.locked } in
    let held = held-means c.args.index before (rw (← c.self.view_is) at c.requires) in
    let room = AreFree-room c.self.inside.held.items c.args.index before.free c.self.invariant.0 held.0 held.1 in
    rw (← c.self.view_is, reverse-last _ _ _ c.push_reserved.ensures.items, length-set c.self.inside.held.items c.args.index false)
    (omega (arith, room))
