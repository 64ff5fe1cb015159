use Rattle.std.proofs.Common.{◌≡◌, ◌+◌, length}
use Rattle.std.specs.List.{FoldsTo}
use Rattle.iox_queues_base.specs.Bits.{counted_from, counted}
use Rattle.iox_queues_base.proofs.bits.counting.call_counted.Given as goal

abbrev pub invariant-loop-count : goal.invariant-loop-count
invariant-loop-count g l =
    goal.F-IsAlwaysCallable g l.callback
    × (l.at + length l.rest ≡ length l.fn.counts)
    × ((last : _) → FoldsTo (λ p x q. goal.F-step g p x tt q) l.callback (counted_from l.at l.rest) last
    → FoldsTo (λ p x q. goal.F-step g p x tt q) l.fn.callback (counted l.fn.counts) last)

abbrev pub decreases-loop-count : goal.decreases-loop-count
decreases-loop-count g l = length l.rest
