use Rattle.std.proofs.Common.{arith}
use Rattle.iox_container.proofs.Padding.{none-behind}
use Rattle.iox_container.proofs.slot_map.SlotMap.reached.Goals as goal

pub returns-clause-none : goal.returns-clause-none
returns-clause-none g c key past =
    rw (← c.self.view_is) (none-behind _ c.used.result.now c.self.inside.values key c.used.ensures.whole (omega (arith, past)))
