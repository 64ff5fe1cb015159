use Rattle.std.proofs.Common.{◌≡◌, ℕ, ◌<◌, get_or, false}
use Rattle.example_tracer.specs.declared.exchange.Exchange.{Exchange}
use Rattle.example_tracer.specs.Picture.{makes}
use Rattle.example_tracer.proofs.picture.birth.Given as goal

-- no row so far made what has this name
abbrev pub invariant-loop-row : goal.invariant-loop-row
invariant-loop-row l = (k : ℕ) (d : Exchange) → k < l.row → makes l.name (get_or l.conversation k d) ≡ false
