use Rattle.std.proofs.Common.{◌≡◌, length}
use Rattle.iox_container.specs.ByNumber.{values_in}
use Rattle.iox_container.proofs.by_number.iter.IterIterator.next.Given as goal

-- only entries without values were passed over
abbrev pub invariant-loop-entry : goal.invariant-loop-entry
invariant-loop-entry g l = values_in l.self-inside.entries.now ≡ l.fn.self

abbrev pub decreases-loop-entry : goal.decreases-loop-entry
decreases-loop-entry g l = length l.self-inside.entries.now
