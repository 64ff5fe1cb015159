use Rattle.std.proofs.Common.{arith}
use borrow.Author.Rules.{of_calls}
use Rattle.std.proofs.lemmas.List.{length_push}
use Rattle.iox_container.proofs.VectorLemmas.{MakesInTurn-push}
use Rattle.iox_container.proofs.vector.polymorphic_vec.PolymorphicVec.from_fn.Goals as goal

pub loop-i-preserved : goal.loop-i-preserved
loop-i-preserved g c = (
  rw c.push_reserved.ensures.items (MakesInTurn-push _ _ 0 _ _ c.loop-i.i _ _ c.loop-i.invariant.0 (omega (arith, c.loop-i.invariant.1))
      c.make.ensures),
  rw (c.push_reserved.ensures.items, length_push) (omega (arith, c.loop-i.invariant.1)),
  omega (arith, c.loop-i.invariant.2, c.push_reserved.ensures.len),
  omega (arith, c.loop-i.invariant.3, c.push_reserved.ensures.capacity),
  search of_calls,
)
