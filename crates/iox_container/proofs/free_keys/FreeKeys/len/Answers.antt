use Rattle.std.proofs.Common.{arith}
use Rattle.iox_container.proofs.Made.{length-all_keys}
use Rattle.iox_container.proofs.free_keys.FreeKeys.len.Goals as goal

pub returns : goal.returns
returns c =
    rw (← c.self.view_is) (omega (arith, length-all_keys c.self.inside.used, c.len.ensures.count, c.room.ensures, c.made.ensures))
