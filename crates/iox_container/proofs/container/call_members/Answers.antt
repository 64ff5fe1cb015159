use Rattle.std.proofs.Common.{refl}
use Rattle.iox_container.proofs.container.call_members.Goals as goal

pub returns-clause-called : goal.returns-clause-called
returns-clause-called g c = c.loop-found.invariant.3 c.loop-found.callback (rw c.in_default.ensures.none refl)
