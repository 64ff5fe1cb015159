use Rattle.iox_container.specs.Container.{told_of}
use Rattle.iox_container.proofs.Locked.{unheld-emptied}
use Rattle.iox_container.proofs.container.Container.recover.Goals as goal

pub invariant_of-self : goal.invariant_of-self
invariant_of-self g c =
    let removed = c.remove_where.ensures.removed in (
      unheld-emptied (told_of c.args.owner c.self.inside.id) (λ member. member.0.index) removed.0 c.self.inside.members
          c.remove_where.new.members c.self.inside.locked removed.2 c.self.invariant.0,
      c.remove_where.ensures.owned,
    )

pub returns-clause-after : goal.returns-clause-after
returns-clause-after g c = rw (← c.self.view_is) (c.remove_where.new.members, c.remove_where.ensures.removed, c.settle.ensures.after)
