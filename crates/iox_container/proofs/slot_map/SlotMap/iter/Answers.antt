use Rattle.iox_container.proofs.Padding.{held_from-padded}
use Rattle.iox_container.proofs.Tables.{ListsHeldKeys-held_from}
use Rattle.iox_container.proofs.slot_map.SlotMap.iter.Goals as goal

pub returns-clause-items : goal.returns-clause-items
returns-clause-items g c =
    rw (← c.self.view_is) (held_from-padded 0 _ c.used.result.now c.self.inside.values c.used.ensures.whole)

pub returns-clause-each_once : goal.returns-clause-each_once
returns-clause-each_once g c =
    rw (← c.self.view_is, held_from-padded 0 _ c.used.result.now c.self.inside.values c.used.ensures.whole)
    (ListsHeldKeys-held_from c.self.inside.values)
