use Rattle.std.proofs.Common.{◌≡◌, ◌+◌, ◌-◌, ◌^◌, ◌≤◌, min}
use Rattle.iox_hub_base.specs.Room.{samples_at_most_in}
use Rattle.iox_hub_base.proofs.presences.Presences.samples_at_most.Given as goal

abbrev pub invariant-loop-number : goal.invariant-loop-number
invariant-loop-number g l = (l.count ≤ 2 ^ 64 - 1)
    × (min (l.count + samples_at_most_in l._number-iterator) (2 ^ 64 - 1) ≡ min (samples_at_most_in l.self) (2 ^ 64 - 1))
