use Rattle.iox_container.proofs.Padding.{pairs-padded}
use Rattle.iox_container.proofs.flat_map.FlatMap.iter.Goals as goal

pub returns-clause-pairs : goal.returns-clause-pairs
returns-clause-pairs g c =
    rw (← c.self.view_is) (pairs-padded _ c.places.result.now c.self.inside.map.values c.places.ensures.whole)
