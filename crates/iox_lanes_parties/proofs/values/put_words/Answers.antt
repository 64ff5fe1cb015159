use Rattle.std.proofs.Common.{arith, ◌<◌, ◌++◌, ◌∷◌, [], length, take, sym, ap, ◌∙◌}
use Rattle.std.proofs.lemmas.List.{length-set, take_all, take_more, take_more_set}
use Rattle.iox_lanes_parties.proofs.values.put_words.Goals as goal

pub loop-at-preserved : goal.loop-at-preserved
loop-at-preserved g c =
    let within : c.loop-at.at < length c.loop-at.list.items = omega (arith, c.loop-at.invariant.1, c.loop-at-test.true) in
    let below : c.loop-at.at < length (g.T.Words.parts c.args.value.now)
    = omega (arith, g.met.T.Words.as_many c.args.value.now, c.loop-at-test.true) in (
      take_more_set c.loop-at.list.items c.loop-at.at c.word.result within
          ∙ ap (λ xs. xs ++ c.word.result ∷ []) c.loop-at.invariant.0
          ∙ ap (λ x. take c.loop-at.at (g.T.Words.parts c.args.value.now) ++ x ∷ []) c.word.ensures
          ∙ sym (take_more (g.T.Words.parts c.args.value.now) c.loop-at.at 0 below),
      length-set c.loop-at.list.items c.loop-at.at c.word.result ∙ c.loop-at.invariant.1,
    )

pub returns : goal.returns
returns g c =
    sym (take_all c.loop-at.at c.loop-at.list.items (omega (arith, c.loop-at.invariant.1, c.loop-at-test.false)))
    ∙ c.loop-at.invariant.0 ∙ take_all c.loop-at.at (g.T.Words.parts c.args.value.now)
    (omega (arith, g.met.T.Words.as_many c.args.value.now, c.loop-at-test.false))
