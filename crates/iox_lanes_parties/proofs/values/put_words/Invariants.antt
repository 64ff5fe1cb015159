use Rattle.std.proofs.Common.{◌≡◌, length, take}
use Rattle.iox_lanes_parties.proofs.values.put_words.Given as goal

abbrev pub invariant-loop-at : goal.invariant-loop-at
invariant-loop-at g l = (take l.at l.list.items ≡ take l.at (g.T.Words.parts l.value)) × (length l.list.items ≡ g.T.Words.WORDS)
