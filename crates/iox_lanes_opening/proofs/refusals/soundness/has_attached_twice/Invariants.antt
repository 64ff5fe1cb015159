use Rattle.std.proofs.Common.{◌≡◌}
use Rattle.std.specs.List.{list_any}
use Rattle.iox_lanes_opening.specs.Soundness.{attaches_twice}
use Rattle.iox_lanes_opening.proofs.refusals.soundness.has_attached_twice.Given as goal

abbrev pub invariant-loop-number : goal.invariant-loop-number
invariant-loop-number g l = list_any (λ entry. attaches_twice entry.1) l._number-iterator
    ≡ list_any (λ entry. attaches_twice entry.1) l.ports.subscribers
