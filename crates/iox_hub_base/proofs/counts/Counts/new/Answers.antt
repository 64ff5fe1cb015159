use Rattle.std.specs.List.Sorted.{IsStrictlySortedBy}
use Rattle.iox_hub_base.proofs.counts.Counts.new.Goals as goal

pub invariant_of-result : goal.invariant_of-result
unfolding IsStrictlySortedBy
invariant_of-result c = rw c.new.ensures.items tt
