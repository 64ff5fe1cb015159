use Rattle.std.proofs.Common.{◌≡◌, ◌++◌, take, string_bytes}
use Rattle.std.specs.List.{flat_map}
use Rattle.example_tracer.specs.Drawing.{element_of}
use Rattle.example_tracer.proofs.drawing.drawing.Given as goal

-- the head, the style and the shapes so far are written
abbrev pub invariant-loop-shape : goal.invariant-loop-shape
invariant-loop-shape l = string_bytes l.out ≡ string_bytes l.initial.out ++ flat_map element_of (take l.shape-index l.shapes)
