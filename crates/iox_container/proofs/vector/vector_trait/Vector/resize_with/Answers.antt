use Rattle.std.proofs.Common.{arith, ap, ◌∙◌, ◌++◌, ◌∷◌, []}
use borrow.Author.Rules.{of_calls}
use Rattle.std.proofs.lemmas.Fn.{FoldsTo-push}
use Rattle.std.proofs.lemmas.List.{append_assoc, length_push}
use Rattle.iox_container.proofs.vector.vector_trait.Vector.resize_with.Goals as goal

pub loop-self-preserved : goal.loop-self-preserved
loop-self-preserved g c =
    let so_far = c.loop-self.invariant.0 in
    let y = c.make.result in (
      (
        so_far.0 ++ y ∷ [],
        c.push_reserved.ensures.pushed ∙ ap (λ xs. xs ++ y ∷ []) so_far.1 ∙ append_assoc _ so_far.0 (y ∷ []),
        FoldsTo-push _ _ so_far.0 _ y _ so_far.2 c.make.ensures,
      ),
      rw (c.push_reserved.ensures.pushed, length_push) (omega (arith, c.len.ensures.value, c.loop-self-test.true)),
      c.push_reserved.ensures.capacity ∙ c.loop-self.invariant.2,
      search of_calls,
    )
