use Rattle.std.proofs.Common.{◌≡◌, [], map}
use Rattle.std.specs.Prelude.{codes}
use Rattle.std.specs.List.{range_with_len}
use Rattle.example_tracer.specs.Frame.{ways_in, texts_of, line_in, reply_in}
use Rattle.example_tracer.proofs.lifelines.Frame.shapes.Given as goal

-- the rows so far are drawn
abbrev pub invariant-loop-row : goal.invariant-loop-row
invariant-loop-row l =
    (ways_in l.shapes.items ≡ [])
    × (texts_of (codes "line") l.shapes.items ≡ map (line_in l.conversation) (range_with_len 0 l.row))
    × (texts_of (codes "reply") l.shapes.items ≡ map (reply_in l.conversation) (range_with_len 0 l.row))
