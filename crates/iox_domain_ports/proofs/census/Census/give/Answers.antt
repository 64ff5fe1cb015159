use Rattle.std.proofs.Common.{arith, Some, None, refl, ap}
use Rattle.iox_domain_ports.proofs.Tallying.{given_counts, own_amount}
use Rattle.iox_domain_ports.proofs.census.Census.give.Goals as goal

pub overflow_add-self : goal.overflow_add-self
overflow_add-self c = omega (arith, c.requires.fits None, c.from-more.ensures)

pub overflow_add-count : goal.overflow_add-count
overflow_add-count c =
    omega (
      arith,
      c.requires.fits (Some c.args.share.owner),
      own_amount c.args.share,
      c.get-count.ensures.value,
      c.from-more.ensures,
    )

pub returns : goal.returns
returns c = record {
  counts = given_counts c.args.share c.args.self.now _ c.get-count.result c.from-more.result c.get-count.ensures.sound
      c.get-count.ensures.value c.from-more.ensures refl (ap (λ tallies. tallies.counts) c.put.ensures.value);
  room = ap (λ tallies. tallies.room) c.put.ensures.value;
  lent = refl;
  noted = refl;
}
