use Rattle.std.proofs.Common.{◌≡◌, ◌-◌, length}
use Rattle.std.specs.List.{FoldsTo}
use Rattle.iox_container.specs.Owners.{rest_from}
use Rattle.iox_container.specs.Robust.{index_of}
use Rattle.iox_container.proofs.robust.call_held.Given as goal

abbrev pub invariant-loop-index : goal.invariant-loop-index
invariant-loop-index g l =
    goal.F-IsAlwaysCallable g l.callback
    × (l.owner ≡ l.initial.owner)
    × ((last : _) → FoldsTo (λ p x q. goal.F-step g p x tt q) l.callback (rest_from (index_of l.fn.owner) l.fn.cells l.at) last
    → FoldsTo (λ p x q. goal.F-step g p x tt q) l.fn.callback (rest_from (index_of l.fn.owner) l.fn.cells 0) last)

abbrev pub decreases-loop-index : goal.decreases-loop-index
decreases-loop-index g l = length l.fn.cells - l.at
