use Rattle.std.proofs.Common.{arith, refl, sym, subst, ◌∙◌, ◌+◌}
use Rattle.iox_lanes_opening.specs.SharedSlots.{messages_in}
use Rattle.iox_lanes_opening.proofs.Marking.{met_again, none_marked, one_marked, slot_within, AreMarked}
use Rattle.iox_lanes_opening.proofs.refusals.shared_slots.has_twice_from.Goals as goal

pub loop-place-init : goal.loop-place-init
loop-place-init g c = none_marked (messages_in c.args.messages c.args.port.now) c.args.first 4096 refl

pub returns-then-mark-clause-yes : goal.returns-then-mark-clause-yes
returns-then-mark-clause-yes g c = λ is. met_again (messages_in c.args.messages c.args.port.now) c.args.first c.loop-place.place
    c.slot_at.result c.loop-place.marks c.loop-place.invariant c.slot_at.ensures
    (omega (arith, c.loop-place-test.true, c.count-place-end.ensures)) (sym c.mark.ensures.answer ∙ c.if-mark.true)

pub loop-place-preserved : goal.loop-place-preserved
loop-place-preserved g c = subst (AreMarked (messages_in c.args.messages c.args.port.now) c.args.first (c.loop-place.place + 1))
    (sym c.mark.ensures.new)
    (one_marked (messages_in c.args.messages c.args.port.now) c.args.first c.loop-place.place c.slot_at.result c.loop-place.marks
    c.loop-place.invariant c.slot_at.ensures (omega (arith, c.loop-place-test.true, c.count-place-end.ensures))
    (sym c.mark.ensures.answer ∙ c.if-mark.false))

pub returns-clause-no : goal.returns-clause-no
returns-clause-no g c = λ is place slot there least most.
    let within = slot_within (messages_in c.args.messages c.args.port.now) place slot there in
    c.loop-place.invariant.apart place slot (omega (arith, within, c.loop-place-test.false, c.count-place-end.ensures)) there least most
