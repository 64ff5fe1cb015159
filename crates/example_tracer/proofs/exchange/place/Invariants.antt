use Rattle.std.proofs.Common.{◌≡◌, ℕ, ◌<◌, get_or, false}
use Rattle.example_tracer.specs.Exchange.{is_byte}
use Rattle.example_tracer.proofs.exchange.place.Given as goal

abbrev pub invariant-loop-at : goal.invariant-loop-at
invariant-loop-at l = (k : ℕ) → k < l.at → is_byte l.byte (get_or l.text k 0) ≡ false
