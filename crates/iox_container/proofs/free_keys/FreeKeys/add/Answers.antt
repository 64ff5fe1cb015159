use Rattle.std.proofs.Common.{arith}
use Rattle.iox_container.proofs.Made.{length-all_keys, used-made, used-not_linked}
use Rattle.iox_container.proofs.free_keys.FreeKeys.add.Goals as goal

pub add-requires-clause-below : goal.add-requires-clause-below
add-requires-clause-below c =
    used-made c.self.inside.used c.args.key (rw (← c.self.view_is) at c.requires.below) (rw (← c.self.view_is) at c.requires.held)

pub add-requires-clause-held : goal.add-requires-clause-held
add-requires-clause-held c = used-not_linked c.self.inside.used c.args.key (rw (← c.self.view_is) at c.requires.held)

pub add-requires-clause-fits : goal.add-requires-clause-fits
add-requires-clause-fits c =
    omega (arith, length-all_keys c.self.inside.used, rw (← c.self.view_is) at c.requires.fits, c.self.invariant)
