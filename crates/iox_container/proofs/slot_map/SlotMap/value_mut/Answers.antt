use Rattle.std.proofs.Common.{sym, ◌∙◌, Some}
use Rattle.std.proofs.lemmas.List.{length-set}
use Rattle.iox_container.proofs.Tables.{FreeKeysAreExact-replaced, held_from_some}
use Rattle.iox_container.proofs.slot_map.SlotMap.value_mut.Goals as goal

pub invariant_of-self-lent : goal.invariant_of-self-lent
invariant_of-self-lent g c w =
    let table = c.self.invariant.0 in
    let values = c.self.inside.values in
    let some = held_from_some values c.args.key (rw (← c.self.view_is) at c.requires) in
    rw (c.value.ensures) (
      FreeKeysAreExact-replaced _ c.args.key w table some,
      c.self.invariant.1 ∙ sym
          (length-set values c.args.key (Some w)),
    )
