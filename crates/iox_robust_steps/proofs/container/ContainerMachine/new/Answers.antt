use Rattle.std.proofs.Common.{sym, subst}
use Rattle.iox_robust_steps.specs.ContainerKept.{MembersAreKept}
use Rattle.iox_robust_steps.proofs.ContainerOrderly.{empty_kept}
use Rattle.iox_robust_steps.proofs.container.ContainerMachine.new.Goals as goal

pub invariant_of-result : goal.invariant_of-result
invariant_of-result c = subst MembersAreKept (sym c.in_ok-new.ensures)
    (empty_kept c.args.capacity c.args.parties c.args.values.items c.args.decisions.items c.requires)
