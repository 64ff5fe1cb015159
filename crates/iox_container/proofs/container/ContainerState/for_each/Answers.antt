use Rattle.iox_container.proofs.Told.{told-used}
use Rattle.iox_container.proofs.container.ContainerState.for_each.Goals as goal

pub returns : goal.returns
returns g c =
    rw (← c.self.view_is, ← told-used c.self.inside.id c.self.inside.members c.used.result.now c.used.ensures.whole)
    c.call_until_stop.ensures
