use Rattle.std.proofs.Common.{◌∙◌, [], ◌∷◌, sym, arith}
use Rattle.std.proofs.lemmas.List.{length-append}
use Rattle.iox_line.specs.AttributesReading.{requirements_of}
use Rattle.iox_line.proofs.AttributeLemmas.{with_pair, with_key, required_pair, required_key, gathers_pair, gathers_key}
use Rattle.iox_line.proofs.attributes.verifier.required_attributes.Goals as goal

pub loop-word-preserved-in-Some-pair : goal.loop-word-preserved-in-Some-pair
loop-word-preserved-in-Some-pair c =
    let i = c.loop-word.invariant in
    let a = c.in-Some-pair.pair in (
      with_pair i.0 a,
      required_pair i.0 (requirements_of c.args.words) c.in-Some.word.now c.next.new.self c.loop-word.words a i.1
          c.in-Some.ensures.some (sym c.in-Some-pair.is ∙ c.pair.ensures),
      omega (arith, i.2, length-append i.0.pairs (a ∷ [])),
      omega arith,
      i.4,
      i.5,
      gathers_pair i.0 a c.loop-word.lacking c.require-lacking.result c.loop-word.verifier c.require-lacking.new.verifier i.6
          c.require-lacking.ensures,
    )

pub loop-word-preserved : goal.loop-word-preserved
loop-word-preserved c =
    let i = c.loop-word.invariant in
    let k = c.in-Some-key.key in (
      with_key i.0 k,
      required_key i.0 (requirements_of c.args.words) c.in-Some.word.now c.next.new.self c.loop-word.words k i.1
          c.in-Some.ensures.some (sym c.in_default-pair.is ∙ c.pair.ensures) (sym c.in-Some-key.is ∙ c.key.ensures),
      i.2,
      i.3,
      omega (arith, i.4, length-append i.0.keys (k ∷ [])),
      omega arith,
      gathers_key i.0 k c.loop-word.lacking c.require_key-lacking.result c.loop-word.verifier c.require_key-lacking.new.verifier i.6
          c.require_key-lacking.ensures,
    )
