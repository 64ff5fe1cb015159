use Rattle.std.proofs.Common.{◌≡◌, ◌+◌, ◌-◌, ◌^◌, ◌≤◌, min}
use Rattle.iox_domain.proofs.Bounds.{most_among}
use Rattle.iox_domain.proofs.allowances.samples.samples_at_most.Given as goal

abbrev pub invariant-loop-number : goal.invariant-loop-number
invariant-loop-number g l = (l.count ≤ 2 ^ 64 - 1)
    × (min (l.count + most_among l.ports.sizes.subscriber_max_borrowed_samples l.ports.publishers l._number-iterator) (2 ^ 64 - 1)
    ≡ min (most_among l.ports.sizes.subscriber_max_borrowed_samples l.ports.publishers l.ports.subscribers) (2 ^ 64 - 1))
