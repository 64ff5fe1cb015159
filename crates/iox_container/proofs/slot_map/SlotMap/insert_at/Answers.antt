use Rattle.std.proofs.Common.{◌≡◌, Some, None, IsSome, rules, arith, sym, ◌∙◌}
use Rattle.std.proofs.lemmas.List.{length-set}
use Rattle.iox_container.specs.SlotTable.{value_at}
use Rattle.iox_container.proofs.Tables.{FreeKeysAreExact-replaced, FreeKeysAreExact-taken, held_from_some, none_is_free, stored_over}
use Rattle.iox_container.proofs.slot_map.SlotMap.insert_at.Goals as goal

pub remove-requires-clause-free : goal.remove-requires-clause-free
remove-requires-clause-free g c =
    let none : value_at c.self.inside.values c.value-index.result ≡ None = search rules in
    none_is_free _ c.value-index.result c.self.invariant.0 (omega arith) none

pub invariant_of-self : goal.invariant_of-self
invariant_of-self g c =
    let values = c.self.inside.values in
    let none : value_at values c.value-index.result ≡ None = search rules in
    let free = none_is_free _ c.value-index.result c.self.invariant.0 (omega arith) none in
    rw (c.remove.ensures, c.put.ensures) (
      FreeKeysAreExact-taken _ _ c.args.value c.self.invariant.0 free,
      c.self.invariant.1 ∙ sym
          (length-set values c.value-index.result (Some c.args.value)),
    )

pub invariant_of-self-else-was_free : goal.invariant_of-self-else-was_free
invariant_of-self-else-was_free g c =
    let values = c.self.inside.values in
    let held : IsSome (value_at values c.value-index.result) = search rules in
    rw c.put.ensures (
      FreeKeysAreExact-replaced _ _ c.args.value c.self.invariant.0 (held_from_some values _ held),
      c.self.invariant.1 ∙ sym
          (length-set values c.value-index.result (Some c.args.value)),
    )

pub returns-else-was_free-clause-ok : goal.returns-else-was_free-clause-ok
returns-else-was_free-clause-ok g c =
    let values = c.self.inside.values in
    let held : IsSome (value_at values c.value-index.result) = search rules in
    let is = stored_over _ _ c.args.value c.self.invariant.0 (held_from_some values _ held) in
    rw (← c.self.view_is, c.put.ensures, ← c.value-index.ensures) is
