use Rattle.std.proofs.Common.{string_bytes}
use Rattle.std.proofs.lemmas.Result.{IfOk-weaker}
use Rattle.example_tracer.specs.Frame.{ways_in}
use Rattle.example_tracer.specs.Picture.{Pictures, IsDrawn}
use Rattle.example_tracer.proofs.PictureLemmas.{pictured}
use Rattle.example_tracer.proofs.picture.picture.Goals as goal

pub returns : goal.returns
returns c =
    let drawn : IsDrawn c.args.conversation.now c.in_ok-arrows.arrows.items (ways_in c.in_ok-shapes.shapes.items)
    = rw (← c.deref.ensures.value) c.in_ok-shapes.ensures in
    IfOk-weaker c.drawing.result _ (λ text. Pictures c.args.conversation.now (string_bytes text))
    (λ text written. pictured c.args.conversation.now c.in_ok-arrows.arrows.items _ _ c.in_ok-shapes.shapes.items _ (string_bytes text)
    c.in_ok-arrows.ensures.trace drawn c.deref-2.ensures.value written)
    c.drawing.ensures
