use Rattle.std.proofs.Common.{take}
use Rattle.example_tracer.specs.Frame.{ways_in}
use Rattle.example_tracer.specs.Picture.{IsDrawn}
use Rattle.example_tracer.proofs.picture.shapes.Given as goal

-- the arrows so far are drawn
abbrev pub invariant-loop-at : goal.invariant-loop-at
invariant-loop-at l = IsDrawn l.conversation (take l.at l.arrows) (ways_in l.shapes.items)
