use Rattle.std.proofs.Common.{◌≡◌, ◌-◌, length, None}
use Rattle.iox_container.specs.Owners.{AreOwned}
use Rattle.iox_container.specs.Robust.{index_of}
use Rattle.iox_container.proofs.Recovering.{Leads}
use Rattle.iox_container.proofs.robust.free_where.Given as goal

-- the calls so far, and what they freed
abbrev pub invariant-loop-index : goal.invariant-loop-index
invariant-loop-index g l =
    goal.F-IsAlwaysCallable g l.decide
    × (l.owner ≡ l.fn.owner)
    × (length l.cells ≡ length l.fn.cells)
    × AreOwned (λ owner. owner) l.cells l.owners
    × Leads (index_of l.fn.owner) (λ i. i) None (λ p i answer q. goal.F-step g p i answer q) l.fn.decide l.fn.cells l.decide l.at l.cells

abbrev pub decreases-loop-index : goal.decreases-loop-index
decreases-loop-index g l = length l.cells - l.at
