use Rattle.std.proofs.Common.{arith, ◌≤◌, Some, None, refl, ap}
use Rattle.iox_domain_ports.proofs.Tallying.{own_amount, taken_counts}
use Rattle.iox_domain_ports.proofs.census.Census.take.Goals as goal

pub overflow_sub-self : goal.overflow_sub-self
overflow_sub-self c = omega (arith, c.requires None, c.from-less.ensures)

pub overflow_sub-count : goal.overflow_sub-count
overflow_sub-count c =
    omega (
      arith,
      c.requires (Some c.args.share.owner),
      own_amount c.args.share,
      c.get-count.ensures.value,
      c.from-less.ensures,
    )

pub returns-clause-takes : goal.returns-clause-takes
returns-clause-takes c =
    let enough : c.from-less.result ≤ c.get-count.result
    = omega (arith, c.requires (Some c.args.share.owner), own_amount c.args.share, c.get-count.ensures.value, c.from-less.ensures) in
    let most : c.from-less.result ≤ c.args.self.now.total = omega (arith, c.requires None, c.from-less.ensures) in
    record {
      counts = taken_counts c.args.share c.args.self.now _ c.get-count.result c.from-less.result c.get-count.ensures.sound
          c.get-count.ensures.value c.from-less.ensures enough most refl (ap (λ tallies. tallies.counts) c.put.ensures.value);
      room = ap (λ tallies. tallies.room) c.put.ensures.value;
      lent = refl;
      noted = refl;
    }
