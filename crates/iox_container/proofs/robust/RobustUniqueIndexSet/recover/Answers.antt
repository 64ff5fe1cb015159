use Rattle.iox_container.specs.Robust.{index_of}
use Rattle.iox_container.proofs.Locked.{unheld-emptied}
use Rattle.iox_container.proofs.robust.RobustUniqueIndexSet.recover.Goals as goal

pub invariant_of-self : goal.invariant_of-self
invariant_of-self g c =
    let freed = c.free_where.ensures.freed in (
      unheld-emptied (index_of c.args.owner) (λ index. index) freed.0 c.self.inside.cells c.free_where.new.cells c.self.inside.locked
          freed.2 c.self.invariant.0,
      c.free_where.ensures.owned,
    )
