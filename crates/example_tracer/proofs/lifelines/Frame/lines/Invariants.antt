use Rattle.std.proofs.Common.{◌≡◌, []}
use Rattle.std.specs.Prelude.{codes}
use Rattle.example_tracer.specs.Frame.{ways_in, texts_of}
use Rattle.example_tracer.proofs.lifelines.Frame.lines.Given as goal

abbrev pub invariant-loop-it : goal.invariant-loop-it
invariant-loop-it l = (ways_in l.shapes.items ≡ []) × (texts_of (codes "line") l.shapes.items ≡ [])
    × (texts_of (codes "reply") l.shapes.items ≡ [])
