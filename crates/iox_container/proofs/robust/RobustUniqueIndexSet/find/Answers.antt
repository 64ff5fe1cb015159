use Rattle.iox_container.proofs.robust.RobustUniqueIndexSet.find.Goals as goal

pub returns : goal.returns
returns g c = rw (← c.self.view_is) c.call_held.ensures
