use Rattle.std.proofs.Common.{◌≡◌, ◌+◌, ◌-◌, ◌^◌, ◌≤◌, min}
use Rattle.iox_hub_base.specs.Room.{loans_left_in}
use Rattle.iox_hub_base.proofs.presences.Presences.loans_left.Given as goal

abbrev pub invariant-loop-number : goal.invariant-loop-number
invariant-loop-number g l = (l.left ≤ 2 ^ 64 - 1)
    × (min (l.left + loans_left_in l._number-iterator) (2 ^ 64 - 1) ≡ min (loans_left_in l.self) (2 ^ 64 - 1))
