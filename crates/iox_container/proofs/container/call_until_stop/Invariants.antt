use Rattle.std.proofs.Common.{◌≡◌, ◌+◌, length}
use Rattle.iox_container.specs.Recovery.{asked_from}
use Rattle.iox_container.specs.Callback.{CallsUntilStop}
use Rattle.iox_container.specs.Container.{told}
use Rattle.iox_container.proofs.container.call_until_stop.Given as goal

abbrev pub invariant-loop-split : goal.invariant-loop-split
invariant-loop-split g l =
    goal.F-IsAlwaysCallable g l.callback
    × (l.id ≡ l.initial.id)
    × (l.at + length l.rest ≡ length l.fn.members)
    × ((last : _) → CallsUntilStop (λ p x answer q. goal.F-step g p x.0 x.1 answer q) l.callback (asked_from (told l.fn.id) l.at l.rest)
    last
    → CallsUntilStop (λ p x answer q. goal.F-step g p x.0 x.1 answer q) l.fn.callback (asked_from (told l.fn.id) 0 l.fn.members) last)

abbrev pub decreases-loop-split : goal.decreases-loop-split
decreases-loop-split g l = length l.rest
