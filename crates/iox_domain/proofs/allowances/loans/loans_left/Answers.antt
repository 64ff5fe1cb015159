use Rattle.std.proofs.Common.{arith}
use Rattle.iox_domain.proofs.Sums.{first_left, none_left}
use Rattle.iox_domain.proofs.allowances.loans.loans_left.Goals as goal

pub loop-number-preserved : goal.loop-number-preserved
loop-number-preserved g c = (
  omega (arith, c.add-left.ensures),
  omega (
    arith,
    c.loop-number.invariant.1,
    first_left c.loop-number._number-iterator _ _ c.in-Some.ensures.steps,
    c.spare_loans.ensures,
    c.add-left.ensures,
  ),
)

pub returns : goal.returns
returns g c = omega (arith, c.loop-number.invariant, none_left c.loop-number._number-iterator c.in-None.ensures.steps.0)
