use Rattle.std.proofs.Common.{arith}
use Rattle.iox_domain.specs.Loans.{loans_left}
use Rattle.iox_domain_ports.proofs.Adding.{first_counts, none_count}
use Rattle.iox_hub_base.specs.Room.{counted_at}
use Rattle.iox_hub_base.proofs.presences.Presences.loans_left.Goals as goal

pub loop-number-preserved : goal.loop-number-preserved
loop-number-preserved g c = (
  omega (arith, c.add-left.ensures),
  omega (
    arith,
    c.loop-number.invariant.1,
    first_counts (λ presence. counted_at (λ ports. loans_left ports) presence) c.loop-number._number-iterator _ _ c.in-Some.ensures.steps,
    c.loans_left.ensures,
    c.add-left.ensures,
  ),
)

pub returns : goal.returns
returns g c =
    omega (
      arith,
      c.loop-number.invariant,
      none_count (λ presence. counted_at (λ ports. loans_left ports) presence) c.loop-number._number-iterator c.in-None.ensures.steps.0,
    )
