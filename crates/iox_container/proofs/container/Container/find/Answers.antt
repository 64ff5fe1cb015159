use Rattle.iox_container.proofs.container.Container.find.Goals as goal

pub returns : goal.returns
returns g c = rw (← c.self.view_is) c.call_members.ensures
