use Rattle.std.proofs.Common.{◌≡◌, take}
use Rattle.iox_lanes.specs.Holding.{numbers_of}
use Rattle.iox_lanes.proofs.listed.subscribers_listed.Given as goal

abbrev pub invariant-loop-at : goal.invariant-loop-at
invariant-loop-at l = l.numbers.items ≡ numbers_of (λ entry. entry.subscriber) (take l.at l.listed)
