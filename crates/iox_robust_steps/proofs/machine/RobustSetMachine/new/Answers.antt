use Rattle.std.proofs.Common.{false, sym, subst}
use Rattle.iox_robust_steps.specs.Kept.{IsKept}
use Rattle.iox_robust_steps.proofs.Starts.{start_kept}
use Rattle.iox_robust_steps.proofs.machine.RobustSetMachine.new.Goals as goal

pub invariant_of-result : goal.invariant_of-result
invariant_of-result c = subst IsKept (sym c.in_ok-new.ensures)
    (start_kept c.args.capacity c.args.parties c.args.decisions.items false c.requires)
