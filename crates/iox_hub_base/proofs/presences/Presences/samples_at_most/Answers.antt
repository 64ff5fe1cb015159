use Rattle.std.proofs.Common.{arith}
use Rattle.iox_domain.specs.Samples.{samples_at_most}
use Rattle.iox_domain_ports.proofs.Adding.{first_counts, none_count}
use Rattle.iox_hub_base.specs.Room.{counted_at}
use Rattle.iox_hub_base.proofs.presences.Presences.samples_at_most.Goals as goal

pub loop-number-preserved : goal.loop-number-preserved
loop-number-preserved g c = (
  omega (arith, c.add-count.ensures),
  omega (
    arith,
    c.loop-number.invariant.1,
    first_counts (λ presence. counted_at (λ ports. samples_at_most ports) presence)
        c.loop-number._number-iterator _ _ c.in-Some.ensures.steps,
    c.samples_at_most.ensures,
    c.add-count.ensures,
  ),
)

pub returns : goal.returns
returns g c =
    omega (
      arith,
      c.loop-number.invariant,
      none_count (λ presence. counted_at (λ ports. samples_at_most ports) presence)
          c.loop-number._number-iterator c.in-None.ensures.steps.0,
    )
