use Rattle.std.proofs.Common.{◌≡◌}
use Rattle.iox_hub_rows.proofs.recorded.go_on.Given as goal

abbrev pub invariant-loop-step : goal.invariant-loop-step
invariant-loop-step l = (l.hub.calls.made.publishers ≡ l.fn.hub.calls.made.publishers)
    × (l.hub.calls.made.subscribers ≡ l.fn.hub.calls.made.subscribers)
