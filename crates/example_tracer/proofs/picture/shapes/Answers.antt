use Rattle.example_tracer.specs.Picture.{nothing}
use Rattle.example_tracer.proofs.PictureLemmas.{drawn_on}
use Rattle.example_tracer.proofs.picture.shapes.Goals as goal

pub loop-at-init : goal.loop-at-init
loop-at-init c = rw c.in_ok-shapes.ensures.ways nothing

pub loop-at-preserved : goal.loop-at-preserved
loop-at-preserved c = drawn_on c.args.conversation.now c.args.arrows.now c.loop-at.at _ c.loop-at.shapes.items
    c.push_arrow.new.shapes.items c.loop-at-test.true c.loop-at.invariant c.in_ok-push_arrow.ensures
