use Rattle.std.proofs.Common.{◌≡◌, ◌+◌, ◌<◌, ◌^◌, length}
use Rattle.iox_container.specs.SlotTable.{held_from}
use Rattle.iox_container.proofs.slot_map.iter.IterIterator.next.Given as goal

-- only keys that hold nothing were passed over
abbrev pub invariant-loop-slot : goal.invariant-loop-slot
invariant-loop-slot g l =
    (l.self-inside.key + length l.self-inside.values.now < 2 ^ 64)
    × (held_from l.self-inside.key l.self-inside.values.now ≡ l.fn.self)

abbrev pub decreases-loop-slot : goal.decreases-loop-slot
decreases-loop-slot g l = length l.self-inside.values.now
