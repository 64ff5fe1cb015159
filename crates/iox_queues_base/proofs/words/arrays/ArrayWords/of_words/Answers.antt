use Rattle.std.proofs.Common.{arith, length, ◌<◌, ◌∙◌}
use Rattle.std.proofs.lemmas.List.{length-set}
use Rattle.std.proofs.lemmas.List.Elements.{AllWithin-more_set}
use Rattle.iox_queues_base.specs.Each.{each_more}
use Rattle.iox_queues_base.proofs.words.arrays.ArrayWords.of_words.Goals as goal

pub loop-i-preserved : goal.loop-i-preserved
loop-i-preserved g c =
    let before = c.loop-i.invariant in
    let within : c.loop-i.i < length c.args.words.now = omega (arith, c.loop-i-test.true, c.requires) in
    let there : c.loop-i.i < length c.loop-i.items = omega (arith, c.loop-i-test.true, before.0) in (
      length-set c.loop-i.items c.loop-i.i c.of_words.result ∙ before.0,
      each_more g.T.Words.of_parts c.args.words.now c.loop-i.items c.loop-i.i c.of_words.result within there before.1
          c.of_words.ensures.same,
      AllWithin-more_set c.loop-i.items c.loop-i.i c.of_words.result there g.T.Words.is_value before.2 c.of_words.ensures.value,
    )
