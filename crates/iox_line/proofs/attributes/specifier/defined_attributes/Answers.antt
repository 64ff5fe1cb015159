use Rattle.std.proofs.Common.{◌∙◌, [], ◌∷◌, ◌++◌, sym, arith}
use Rattle.std.proofs.lemmas.List.{length-append}
use Rattle.iox_line.proofs.GatherLemmas.{gathers_more}
use Rattle.iox_line.specs.AttributesReading.{pairs_of}
use Rattle.iox_line.proofs.AttributeLemmas.{pair_more}
use Rattle.iox_line.proofs.attributes.specifier.defined_attributes.Goals as goal

pub loop-word-preserved : goal.loop-word-preserved
loop-word-preserved c =
    let i = c.loop-word.invariant in
    let a = c.in-Some-pair.pair in (
      i.0 ++ a ∷ [],
      pair_more i.0 (pairs_of c.args.words) c.in-Some.word.now c.next.new.self c.loop-word.words a i.1
          c.in-Some.ensures.some (sym c.in-Some-pair.is ∙ c.pair.ensures),
      omega (arith, i.2, length-append i.0 (a ∷ [])),
      omega arith,
      gathers_more i.0 a c.loop-word.lacking c.define-lacking.result c.loop-word.attributes c.define-lacking.new.attributes i.4
          c.define-lacking.ensures,
    )
