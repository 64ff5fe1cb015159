use Rattle.std.proofs.Common.{◌≡◌, ◌++◌, take}
use Rattle.iox_lanes_parties.proofs.values.add_words.Given as goal

abbrev pub invariant-loop-at : goal.invariant-loop-at
invariant-loop-at g l = l.list.items ≡ l.fn.list.items ++ take l.at (g.T.Words.parts l.value)
