use Rattle.std.proofs.Common.{arith, ◌∷◌, [], ◌++◌}
use Rattle.std.proofs.lemmas.List.{length_push}
use borrow.Author.Rules.{of_calls}
use Rattle.iox_delivery.proofs.Container.VectorLemmas.{MakesInTurn-push}
use Rattle.iox_delivery.proofs.Filled.{made_more}
use Rattle.iox_delivery.proofs.slices.filling.write_each.Goals as goal

pub loop-place-preserved : goal.loop-place-preserved
loop-place-preserved g c =
    let values = c.loop-place.invariant.0 in (
      values ++ c.make.result ∷ [],
      MakesInTurn-push _ _ 0 values _ c.loop-place.place _ _ c.loop-place.invariant.1 (omega (arith, c.loop-place.invariant.2))
          c.make.ensures,
      rw length_push (omega (arith, c.loop-place.invariant.2)),
      made_more c.args.slot c.loop-place.place values c.make.result c.args.publisher.now c.loop-place.publisher _
          c.loop-place.invariant.2 c.loop-place.invariant.3 c.write.ensures.after,
      search of_calls,
    )
