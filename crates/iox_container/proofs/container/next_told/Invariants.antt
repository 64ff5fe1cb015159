use Rattle.std.proofs.Common.{◌≡◌, ◌≤◌, ◌-◌, length}
use Rattle.iox_container.specs.Owners.{rest_from}
use Rattle.iox_container.specs.Container.{told_of}
use Rattle.iox_container.proofs.container.next_told.Given as goal

-- what was passed isn't the owner's
abbrev pub invariant-loop-index : goal.invariant-loop-index
invariant-loop-index g l =
    (l.owner ≡ l.fn.owner) × (l.id ≡ l.fn.id) × (l.fn.from ≤ l.at)
    × (rest_from (told_of l.fn.owner l.fn.id) l.fn.members l.fn.from ≡ rest_from (told_of l.fn.owner l.fn.id) l.fn.members l.at)

abbrev pub decreases-loop-index : goal.decreases-loop-index
decreases-loop-index g l = length l.owners.last - l.at
