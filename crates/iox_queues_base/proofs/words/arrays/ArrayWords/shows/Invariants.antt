use Rattle.std.specs.List.{AllWithin}
use Rattle.iox_queues_base.proofs.words.arrays.ArrayWords.shows.Given as goal

abbrev pub invariant-loop-item : goal.invariant-loop-item
invariant-loop-item g l = AllWithin g.T.Words.is_value l.self 0 l.item-index
