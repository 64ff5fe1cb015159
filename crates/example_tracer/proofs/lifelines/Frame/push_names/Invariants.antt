use Rattle.std.proofs.Common.{◌≡◌}
use Rattle.example_tracer.specs.Frame.{ways_in}
use Rattle.example_tracer.proofs.lifelines.Frame.push_names.Given as goal

abbrev pub invariant-loop-it : goal.invariant-loop-it
invariant-loop-it l = ways_in l.shapes.items ≡ ways_in l.fn.shapes.items
