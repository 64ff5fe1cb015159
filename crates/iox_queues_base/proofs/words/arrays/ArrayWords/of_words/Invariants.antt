use Rattle.std.proofs.Common.{◌≡◌, length, take}
use Rattle.std.specs.List.{AllWithin}
use Rattle.iox_queues_base.specs.Each.{each_of_words}
use Rattle.iox_queues_base.proofs.words.arrays.ArrayWords.of_words.Given as goal

abbrev pub invariant-loop-i : goal.invariant-loop-i
invariant-loop-i g l = (length l.items ≡ g.row.N) × (take l.i l.items ≡ take l.i (each_of_words g.T.Words.of_parts l.words))
    × AllWithin g.T.Words.is_value l.items 0 l.i
