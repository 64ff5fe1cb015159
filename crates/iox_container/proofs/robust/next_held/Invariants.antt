use Rattle.std.proofs.Common.{◌≡◌, ◌≤◌, ◌-◌, length}
use Rattle.iox_container.specs.Owners.{rest_from}
use Rattle.iox_container.specs.Robust.{index_of}
use Rattle.iox_container.proofs.robust.next_held.Given as goal

-- what was passed isn't the owner's
abbrev pub invariant-loop-index : goal.invariant-loop-index
invariant-loop-index l =
    (l.owner ≡ l.fn.owner) × (l.fn.from ≤ l.at)
    × (rest_from (index_of l.fn.owner) l.fn.cells l.fn.from ≡ rest_from (index_of l.fn.owner) l.fn.cells l.at)

abbrev pub decreases-loop-index : goal.decreases-loop-index
decreases-loop-index l = length l.owners.last - l.at
