use Rattle.std.proofs.Common.{arith, refl, reverse, length}
use Rattle.std.proofs.lemmas.List.{length-reverse}
use Rattle.iox_container.specs.Unique.{UniqueSetState}
use Rattle.iox_container.proofs.FreeLists.{AreFree-fits, held-counted}
use Rattle.iox_container.proofs.unique.UniqueIndexSet.borrowed_indices.Goals as goal

pub overflow_sub-result : goal.overflow_sub-result
overflow_sub-result c =
    let fits = AreFree-fits _ _ c.self.invariant.0 in
    let long = length-reverse c.self.inside.free.items in
    omega (arith, fits, long, c.len.ensures, c.len-2.ensures, c.self.inside.held.ok.0, c.self.inside.free.ok.0)

pub returns-clause-counted : goal.returns-clause-counted
returns-clause-counted c =
    let set : UniqueSetState =
    record { capacity = length c.self.inside.held.items; free = reverse c.self.inside.free.items; locked = c.self.inside.locked } in
    let long = length-reverse c.self.inside.free.items in
    rw (← c.self.view_is)
    (omega (arith, held-counted c.self.inside.held.items set refl c.self.invariant.0, long, c.len.ensures, c.len-2.ensures))
