use Rattle.std.proofs.Common.{arith}
use Rattle.iox_container.proofs.Locked.{count-emptied}
use Rattle.iox_container.proofs.Owned.{owned-emptied}
use Rattle.iox_container.proofs.container.Container.remove.Goals as goal

pub invariant_of-self : goal.invariant_of-self
invariant_of-self g c = (
  λ locked. rw c.empty.ensures (omega (arith, c.self.invariant.0 locked, count-emptied c.self.inside.members c.args.handle.index)),
  rw c.empty.ensures (owned-emptied (λ member. member.owner) c.self.inside.members c.self.inside.owners c.args.handle.index
      c.self.invariant.1),
)
