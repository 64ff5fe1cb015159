use Rattle.std.proofs.Common.{length, sym, ◌∙◌, ap, subst}
use Rattle.std.proofs.lemmas.List.FromFn.{length-range_with_len}
use Rattle.iox_index_steps.specs.Machine.{IndexSetState}
use Rattle.iox_index_steps.specs.Kept.{IsKept}
use Rattle.iox_index_steps.proofs.Starts.{start_kept}
use Rattle.iox_index_steps.proofs.machine.IndexSetMachine.new.Goals as goal

pub invariant_of-result : goal.invariant_of-result
invariant_of-result c = (
  subst IsKept (sym c.in_ok-new.ensures.state) (start_kept c.args.capacity c.args.parties c.requires),
  ap (λ (m : IndexSetState). length m.words.cells) c.in_ok-new.ensures.state ∙ length-range_with_len 1 c.args.capacity ∙ sym
      c.in_ok-new.ensures.capacity,
)
