use Rattle.std.proofs.Common.{arith}
use Rattle.iox_domain.proofs.Bounds.{few_left, first_holds, none_holds}
use Rattle.iox_domain.proofs.allowances.samples.samples_at_most.Goals as goal

pub loop-number-preserved : goal.loop-number-preserved
loop-number-preserved g c =
    let ports = c.args.ports.now in (
      omega (arith, c.add-count.ensures),
      omega (
        arith,
        c.loop-number.invariant.1,
        first_holds ports.sizes.subscriber_max_borrowed_samples ports.publishers
            c.loop-number._number-iterator _ _ c.in-Some.ensures.steps,
        c.most_held.ensures,
        c.add-count.ensures,
      ),
    )

pub returns-clause-value : goal.returns-clause-value
returns-clause-value g c = let ports
    = c.args.ports.now in omega (
      arith,
      c.loop-number.invariant,
      none_holds ports.sizes.subscriber_max_borrowed_samples ports.publishers
          c.loop-number._number-iterator c.in-None.ensures.steps.0,
    )

pub returns-clause-enough : goal.returns-clause-enough
returns-clause-enough g c = few_left c.args.ports.now
