use Rattle.iox_container.proofs.Halves.{Rises-halves}
use Rattle.iox_container.proofs.by_number.numbered.Numbered.next_number.Goals as goal

pub returns-clause-rises : goal.returns-clause-rises
returns-clause-rises g c = rw (← c.self.view_is)
    (Rises-halves c.self.inside.first 0 c.self.inside.aged.items c.self.inside.places.items c.self.invariant.0)
