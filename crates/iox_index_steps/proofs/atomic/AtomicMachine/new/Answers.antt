use Rattle.std.proofs.Common.{sym, subst}
use Rattle.iox_index_steps.specs.AtomicKept.{IsKept}
use Rattle.iox_index_steps.proofs.AtomicStarts.{start_kept}
use Rattle.iox_index_steps.proofs.atomic.AtomicMachine.new.Goals as goal

pub invariant_of-result : goal.invariant_of-result
invariant_of-result c = subst IsKept (sym c.in_ok-new.ensures) (start_kept c.args.values.items c.args.parties)
