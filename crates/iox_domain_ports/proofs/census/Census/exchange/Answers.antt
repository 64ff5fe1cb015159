use Rattle.std.proofs.Common.{arith, Some}
use Rattle.iox_domain_ports.proofs.Tallying.{amount_most, few_counts, no_amount, small_sum}
use Rattle.iox_domain_ports.proofs.census.Census.exchange.Goals as goal

pub give-requires-clause-room : goal.give-requires-clause-room
give-requires-clause-room c = λ some.
    omega (
      arith,
      few_counts c.take.new.self.owners.counts c.requires.others c.take.ensures.sound
          (λ owner. omega (arith, c.take.ensures.takes.counts (Some owner), c.requires.counts (Some owner), no_amount (Some owner))),
      c.requires.room some,
      c.take.ensures.takes.room,
    )

pub give-requires-clause-fits : goal.give-requires-clause-fits
give-requires-clause-fits c = λ owner.
    omega (
      arith,
      c.take.ensures.takes.counts owner,
      c.requires.counts owner,
      no_amount owner,
      small_sum owner c.requires.others c.requires.small,
      c.requires.few,
      c.take.ensures.takes.room,
      c.take.ensures.fits,
      amount_most owner c.args.after,
      c.requires.next,
    )
