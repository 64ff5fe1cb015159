use Rattle.std.proofs.Common.{string_bytes}
use Rattle.example_tracer.proofs.DrawingLemmas.{three}
use Rattle.example_tracer.proofs.drawing.push_label.Goals as goal

pub returns : goal.returns
returns c = three c.write.result (string_bytes c.args.out.now) _ _ (string_bytes c.write.new.self) _ _ _ c.in_ok-push_opening.ensures
    c.in_ok-push_text.ensures.written c.write.ensures.bytes
