use Rattle.iox_index.proofs.container.FixedSizeContainer.find.Goals as goal

pub returns : goal.returns
returns g c = rw (← c.self.view_is) c.find.ensures
