use Rattle.std.proofs.Common.{◌≡◌, take, false}
use Rattle.std.specs.List.{list_any}
use Rattle.example_tracer.specs.Trace.{untold}
use Rattle.example_tracer.proofs.arrows.is_untold.Given as goal

-- of each arrow so far the origin is told, or it isn't of this subscriber, or not after the line
abbrev pub invariant-loop-arrow : goal.invariant-loop-arrow
invariant-loop-arrow l = list_any (λ arrow. untold arrow l.subscriber l.line) (take l.arrow-index l.arrows) ≡ false
