use Rattle.std.proofs.Common.{arith}
use Rattle.iox_container.proofs.Locked.{count-emptied}
use Rattle.iox_container.proofs.Owned.{owned-emptied}
use Rattle.iox_container.proofs.robust.RobustUniqueIndexSet.release.Goals as goal

pub invariant_of-self : goal.invariant_of-self
invariant_of-self c = (
  λ locked. rw c.empty.ensures (omega (arith, c.self.invariant.0 locked, count-emptied c.self.inside.cells c.args.index)),
  rw c.empty.ensures (owned-emptied (λ owner. owner) c.self.inside.cells c.self.inside.owners c.args.index c.self.invariant.1),
)
