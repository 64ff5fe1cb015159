use Rattle.std.proofs.Common.{◌≡◌, ◌+◌, length}
use Rattle.std.specs.List.{FoldsTo}
use Rattle.iox_queues_base.specs.Bits.{members_from, members}
use Rattle.iox_queues_base.proofs.bits.set.call_members.Given as goal

abbrev pub invariant-loop-is_set : goal.invariant-loop-is_set
invariant-loop-is_set g l =
    goal.F-IsAlwaysCallable g l.callback
    × (l.at + length l.rest ≡ length l.fn.bits)
    × ((last : _) → FoldsTo (λ p x q. goal.F-step g p x tt q) l.callback (members_from l.at l.rest) last
    → FoldsTo (λ p x q. goal.F-step g p x tt q) l.fn.callback (members l.fn.bits) last)

abbrev pub decreases-loop-is_set : goal.decreases-loop-is_set
decreases-loop-is_set g l = length l.rest
