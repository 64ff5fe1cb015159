use Rattle.iox_lanes_parties.specs.UseCounts.{AreUsedBelow}
use Rattle.iox_lanes_parties.proofs.publisher.use_counts.free_from.Given as goal

abbrev pub invariant-loop-at : goal.invariant-loop-at
invariant-loop-at l = AreUsedBelow l.at l.counts
