use Rattle.std.proofs.Common.{arith}
use Rattle.iox_domain.proofs.Trimmed.{none_past}
use Rattle.iox_domain.proofs.ports.roll.lowered.Goals as goal

pub loop-count-init : goal.loop-count-init
loop-count-init g c = λ place past.
    none_past c.args.listed.now c.args.top c.requires place (omega (arith, past, c.min-end.ensures))
