use Rattle.std.proofs.Common.{◌≡◌, take, false}
use Rattle.std.specs.List.{list_any}
use Rattle.example_tracer.specs.Trace.{passes}
use Rattle.example_tracer.proofs.arrows.came.Given as goal

-- no arrow so far passes the line
abbrev pub invariant-loop-arrow : goal.invariant-loop-arrow
invariant-loop-arrow l = list_any (λ arrow. passes arrow l.subscriber l.publisher l.line) (take l.arrow-index l.arrows) ≡ false
