use Rattle.std.proofs.Common.{ℕ, IsSome, None, rules, sym, ◌∙◌, subst}
use Rattle.std.proofs.lemmas.List.{length-set}
use Rattle.iox_container.specs.SlotTable.{value_at}
use Rattle.iox_container.proofs.Tables.{FreeKeysAreExact-released, held_from_some}
use Rattle.iox_container.proofs.slot_map.SlotMap.take.Goals as goal

pub invariant_of-self : goal.invariant_of-self
invariant_of-self g c =
    let m = c.self.inside in
    let told : IsSome (value_at c.args.self.now.values c.args.key) = search rules in
    let S : ℕ → Type 0 = λ k. IsSome (value_at m.values k) in
    let held : IsSome (value_at m.values c.value-index.result) = subst S (sym c.value-index.ensures) (rw (← c.self.view_is) at told) in
    rw (c.add.ensures, c.take-value.ensures.after) (
      FreeKeysAreExact-released _ _ c.self.invariant.0 (held_from_some m.values _ held),
      c.self.invariant.1 ∙ sym
          (length-set m.values c.value-index.result None),
    )
