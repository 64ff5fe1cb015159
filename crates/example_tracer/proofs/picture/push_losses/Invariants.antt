use Rattle.std.proofs.Common.{◌≡◌, ◌++◌, map}
use Rattle.std.specs.Prelude.{filter}
use Rattle.std.specs.List.{range_with_len}
use Rattle.example_tracer.specs.Frame.{ways_in}
use Rattle.example_tracer.specs.Picture.{across}
use Rattle.example_tracer.specs.Trace.{sent_at, is_lost}
use Rattle.example_tracer.proofs.picture.push_losses.Given as goal

-- after what was there, a stroke for each of the lines so far that is lost
abbrev pub invariant-loop-line : goal.invariant-loop-line
invariant-loop-line l =
    ways_in l.shapes.items ≡ ways_in l.fn.shapes.items
    ++ filter (λ rows. is_lost l.before l.arrow rows.1 l.since (sent_at l.conversation rows.1)) (map across (range_with_len 0 l.line))
