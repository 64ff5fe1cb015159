use Rattle.std.proofs.Common.{◌≡◌, length}
use Rattle.iox_container.specs.PairTable.{pairs}
use Rattle.iox_container.proofs.flat_map.iter.IterIterator.next.Given as goal

-- only places that hold nothing were passed over
abbrev pub invariant-loop-place : goal.invariant-loop-place
invariant-loop-place g l = pairs l.self-inside.places.now ≡ l.fn.self

abbrev pub decreases-loop-place : goal.decreases-loop-place
decreases-loop-place g l = length l.self-inside.places.now
