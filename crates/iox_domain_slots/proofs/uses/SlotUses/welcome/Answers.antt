use Rattle.std.proofs.Common.{◌∙◌, ap, arith, get_or, length}
use Rattle.iox_domain_slots.proofs.Welcoming.{welcome_step}
use Rattle.iox_domain_slots.proofs.uses.SlotUses.welcome.Goals as goal

pub loop-place-preserved : goal.loop-place-preserved
loop-place-preserved c = welcome_step c.args.index c.args.self.now c.loop-place.self c.put-has_room.new.self c.loop-place.place
    c.remembered-slot.result
    c.loop-place.invariant (omega (arith, c.loop-place-test.true, c.history-end.ensures, ap length c.slots.ensures.history)) c.requires.live
    (c.remembered-slot.ensures ∙ ap (λ history. get_or history c.loop-place.place 0) c.slots-in-loop-place.ensures.history)
    c.put-has_room.ensures.new
