use Rattle.iox_delivery.proofs.Filled.{filled_more}
use Rattle.iox_delivery.proofs.slices.filling.fill_each.Goals as goal

pub loop-place-preserved : goal.loop-place-preserved
loop-place-preserved g c = filled_more c.args.slot c.loop-place.place c.args.value c.args.publisher.now c.loop-place.publisher _
    c.loop-place.invariant c.write.ensures.after
