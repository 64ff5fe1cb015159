use Rattle.std.proofs.Common.{◌≡◌, ◌+◌, ◌-◌, ◌^◌, ◌≤◌, min}
use Rattle.iox_domain.proofs.Sums.{left_among}
use Rattle.iox_domain.proofs.allowances.loans.loans_left.Given as goal

abbrev pub invariant-loop-number : goal.invariant-loop-number
invariant-loop-number g l = (l.left ≤ 2 ^ 64 - 1)
    × (min (l.left + left_among l._number-iterator) (2 ^ 64 - 1) ≡ min (left_among l.ports.publishers) (2 ^ 64 - 1))
