use Rattle.iox_index.proofs.robust.StaticRobustUniqueIndexSet.find.Goals as goal

pub returns : goal.returns
returns g c = rw (← c.self.view_is) c.find.ensures
