use Rattle.std.proofs.Common.{refl, ap}
use Rattle.iox_container.specs.RelocatableOptions.{option_of}
use Rattle.iox_container.proofs.relocatable_option.RelocatableOption.take_if.Goals as goal

pub returns-then-predicate-clause-some : goal.returns-then-predicate-clause-some
returns-then-predicate-clause-some g c =
    rw c.in-Some.is (
      _,
      _,
      c.predicate.result,
      refl,
      c.predicate.ensures,
      rw c.if-predicate.true
          (ap option_of c.take.ensures.before, c.take.ensures.after),
    )

pub returns-else-predicate-clause-some : goal.returns-else-predicate-clause-some
returns-else-predicate-clause-some g c =
    rw c.in-Some.is (_, _, c.predicate.result, refl, c.predicate.ensures, rw c.if-predicate.false (refl, refl))
