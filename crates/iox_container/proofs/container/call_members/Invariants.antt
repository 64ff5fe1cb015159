use Rattle.std.proofs.Common.{◌≡◌, ◌-◌, length}
use Rattle.std.specs.List.{FoldsTo}
use Rattle.iox_container.specs.Owners.{rest_from}
use Rattle.iox_container.specs.Container.{told_of}
use Rattle.iox_container.proofs.container.call_members.Given as goal

abbrev pub invariant-loop-found : goal.invariant-loop-found
invariant-loop-found g l =
    goal.F-IsAlwaysCallable g l.callback
    × (l.owner ≡ l.initial.owner)
    × (l.id ≡ l.initial.id)
    × ((last : _) → FoldsTo (λ p x q. goal.F-step g p x.0 x.1 tt q) l.callback
    (rest_from (told_of l.fn.owner l.fn.id) l.fn.members l.at) last
    → FoldsTo (λ p x q. goal.F-step g p x.0 x.1 tt q) l.fn.callback (rest_from (told_of l.fn.owner l.fn.id) l.fn.members 0) last)

abbrev pub decreases-loop-found : goal.decreases-loop-found
decreases-loop-found g l = length l.fn.members - l.at
