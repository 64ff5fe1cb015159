use Rattle.std.proofs.Common.{arith, refl, ◌+◌, ◌-◌, ◌/◌}
use Rattle.iox_container.proofs.Listed.{lower-half, upper-half}
use Rattle.iox_container.proofs.owners.search.Goals as goal

pub loop-low-preserved-then-is_before : goal.loop-low-preserved-then-is_before
loop-low-preserved-then-is_before c = record {
  order = omega arith;
  within = c.loop-low.invariant.within;
  owner = refl;
  place = refl;
  before =
      lower-half c.args.entries.now (c.args.owner, c.args.place) (c.loop-low.low + (c.loop-low.high - c.loop-low.low) / 2) (0, 0)
      c.requires (omega arith)
      (c.is_before.ensures.yes c.if-is_before.true);
  behind = c.loop-low.invariant.behind;
}

pub loop-low-preserved : goal.loop-low-preserved
loop-low-preserved c = record {
  order = omega arith;
  within = omega arith;
  owner = refl;
  place = refl;
  before = c.loop-low.invariant.before;
  behind =
      upper-half c.args.entries.now (c.args.owner, c.args.place) (c.loop-low.low + (c.loop-low.high - c.loop-low.low) / 2) (0, 0)
      c.requires (omega arith)
      (c.is_before.ensures.no c.if-is_before.false);
}
