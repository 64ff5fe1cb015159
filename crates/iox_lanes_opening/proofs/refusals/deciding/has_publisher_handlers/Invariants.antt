use Rattle.std.proofs.Common.{◌≡◌}
use Rattle.std.specs.List.{list_any}
use Rattle.iox_domain.specs.Kept.{kept_under}
use Rattle.iox_lanes_opening.specs.Deciding.{has_object}
use Rattle.iox_lanes_opening.proofs.refusals.deciding.has_publisher_handlers.Given as goal

abbrev pub invariant-loop-number : goal.invariant-loop-number
invariant-loop-number g l = list_any (λ entry. has_object g.B.FixedDecision.decision (kept_under entry.0
    l.domain.state.publisher_handlers)) l.number-iterator
    ≡ list_any (λ entry. has_object g.B.FixedDecision.decision (kept_under entry.0 l.domain.state.publisher_handlers))
    l.domain.state.ports.publishers
