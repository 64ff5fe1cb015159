use Rattle.std.proofs.Common.{arith}
use Rattle.iox_robust_steps.proofs.machine.RobustSetMachine.fits.Goals as goal

pub fits-requires : goal.fits-requires
fits-requires c = omega (arith, c.self.invariant.cells)
