use Rattle.std.proofs.Common.{◌≡◌}
use Rattle.std.specs.List.{list_any}
use Rattle.iox_lanes_opening.specs.Deciding.{retries}
use Rattle.iox_lanes_opening.proofs.refusals.deciding.has_retrying.Given as goal

abbrev pub invariant-loop-number : goal.invariant-loop-number
invariant-loop-number g l = list_any (retries g.B.FixedDecision.decision l.domain.state.publisher_handlers) l.number-iterator
    ≡ list_any (retries g.B.FixedDecision.decision l.domain.state.publisher_handlers) l.domain.state.ports.publishers
