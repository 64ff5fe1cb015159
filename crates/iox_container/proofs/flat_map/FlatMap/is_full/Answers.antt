use Rattle.iox_container.proofs.Pairs.{length-pairs}
use Rattle.iox_container.proofs.flat_map.FlatMap.is_full.Goals as goal

pub returns-clause-all_held : goal.returns-clause-all_held
returns-clause-all_held g c =
    rw (← c.self.view_is, length-pairs c.self.inside.map.values) c.is_full.ensures.all_held

pub returns-clause-not_all_held : goal.returns-clause-not_all_held
returns-clause-not_all_held g c =
    rw (← c.self.view_is, length-pairs c.self.inside.map.values) c.is_full.ensures.not_all_held
