use Rattle.std.proofs.Common.{◌≡◌, ◌-◌, length, None}
use Rattle.iox_container.specs.Owners.{AreOwned}
use Rattle.iox_container.specs.Container.{told_of}
use Rattle.iox_container.proofs.Recovering.{Leads}
use Rattle.iox_container.proofs.container.remove_where.Given as goal

-- the calls so far, and what they removed
abbrev pub invariant-loop-found : goal.invariant-loop-found
invariant-loop-found g l =
    goal.F-IsAlwaysCallable g l.decide
    × (l.owner ≡ l.fn.owner)
    × (l.id ≡ l.fn.id)
    × (length l.members ≡ length l.fn.members)
    × AreOwned (λ member. member.owner) l.members l.owners
    × Leads (told_of l.fn.owner l.fn.id) (λ x. x.0.index) None (λ p x answer q. goal.F-step g p x.0 x.1 answer q) l.fn.decide
    l.fn.members l.decide l.at l.members

abbrev pub decreases-loop-found : goal.decreases-loop-found
decreases-loop-found g l = length l.members - l.at
