use Rattle.std.proofs.Common.{string_bytes, refl, append_assoc}
use Rattle.example_tracer.proofs.DrawingLemmas.{renamed}
use Rattle.example_tracer.proofs.drawing.push_opening.Goals as goal

pub returns : goal.returns
returns c = renamed c.write.result (string_bytes c.args.out.now) (string_bytes c.write.new.self) _ _ c.write.ensures.bytes
    (rw (c.saturating_add-y.ensures, c.middle.ensures) (simp append_assoc refl))
