use Rattle.std.proofs.Common.{arith, ◌≡◌, ◌++◌, ◌∷◌, [], ◌∙◌, ap, length, false, subst}
use Rattle.std.proofs.Math.ListN.{set}
use Rattle.std.proofs.lemmas.List.{length-set, length_push}
use Rattle.iox_container.specs.Unique.{is_among}
use Rattle.iox_domain_slots.specs.Borrowed.{IsNear, IsNearBelow, slots_in}
use Rattle.iox_domain_slots.proofs.Borrowing.{near_made, near_pushed, below_made, below_pushed, once_made, once_pushed}
use Rattle.iox_domain_slots.proofs.Borrowing.{slots_made, slots_pushed}
use Rattle.iox_domain_slots.proofs.borrowed.Borrowed.push.Goals as goal

pub invariant_of-self : goal.invariant_of-self
invariant_of-self c =
    let b = c.self.inside in
    let made = c.make_up_to.new.slots in
    let same = c.make_up_to.ensures.same in
    let order : c.make_up_to.new.order.items ≡ b.order.items = ap (λ o. o.items) c.make_up_to.ensures.order in
    let long = length-set made.items c.cell_of-cell.result c.args.slot in
    let free : is_among c.cell_of-cell.result b.order.items ≡ false
    = ap (λ cell. is_among cell b.order.items) c.cell_of-cell.ensures.value ∙ c.free_step-step.ensures.free in
    let near : IsNear b.cells made.items b.order.items b.reach
    = near_made b.cells b.slots.items made.items b.order.items b.reach same c.self.invariant.3 in
    let below : IsNearBelow b.cells made.items b.order.items b.furthest b.examined
    = below_made b.cells b.slots.items made.items b.order.items b.furthest b.examined same c.self.invariant.9 in (
      omega (arith, long, c.push.ensures.made, ap (λ o. o.made) c.make_up_to.ensures.order),
      c.self.invariant.1,
      c.further-reach.ensures.within,
      rw (c.push.ensures.items, order) (near_pushed b.cells made.items b.order.items b.reach c.further-reach.result
          c.free_step-step.result c.cell_of-cell.result c.args.slot near free c.make_up_to.ensures.within c.cell_of-cell.ensures.value
          c.further-reach.ensures.now c.further-reach.ensures.before),
      λ once. rw (c.push.ensures.items, order) (once_pushed made.items b.order.items c.cell_of-cell.result c.args.slot
          (once_made b.slots.items made.items b.order.items same (c.self.invariant.4 (c.will_be_twice-twice.ensures.before once)))
          (ap (is_among c.args.slot) (slots_made b.slots.items made.items b.order.items same)
          ∙ subst (λ slots. is_among c.args.slot (slots_in slots b.order.items) ≡ false) c.as_slice.ensures.value
          (c.will_be_twice-twice.ensures.none once)) c.make_up_to.ensures.within),
      c.push.ensures.room ∙ ap (λ o. o.room) c.make_up_to.ensures.order ∙ c.self.invariant.5,
      c.make_up_to.ensures.memory,
      omega (arith, long, c.make_up_to.ensures.most),
      c.further-furthest.ensures.within,
      rw (c.push.ensures.items, order) (below_pushed b.cells made.items b.order.items b.furthest b.examined c.further-furthest.result
          c.free_step-step.result c.cell_of-cell.result c.args.slot below free c.make_up_to.ensures.within c.cell_of-cell.ensures.value
          c.further-furthest.ensures.now c.further-furthest.ensures.before),
      λ none. absurd (omega (
        arith,
        ap length none,
        ap length c.push.ensures.items,
        length_push c.make_up_to.new.order.items
            c.cell_of-cell.result,
      )),
    )

pub returns : goal.returns
returns c =
    let b = c.self.inside in
    let made = c.make_up_to.new.slots in
    let order : c.make_up_to.new.order.items ≡ b.order.items = ap (λ o. o.items) c.make_up_to.ensures.order in
    let free : is_among c.cell_of-cell.result b.order.items ≡ false
    = ap (λ cell. is_among cell b.order.items) c.cell_of-cell.ensures.value ∙ c.free_step-step.ensures.free in
    let items = ap (slots_in (set made.items c.cell_of-cell.result c.args.slot)) c.push.ensures.items
    ∙ ap (λ cells. slots_in (set made.items c.cell_of-cell.result c.args.slot) (cells ++ c.cell_of-cell.result ∷ [])) order
    ∙ slots_pushed made.items b.order.items c.cell_of-cell.result c.args.slot free c.make_up_to.ensures.within
    ∙ ap (λ xs. xs ++ c.args.slot ∷ []) (slots_made b.slots.items made.items b.order.items c.make_up_to.ensures.same) in
    rw (← c.self.view_is) (cc (items))
