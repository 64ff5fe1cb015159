use Rattle.std.proofs.Common.{arith, ◌∙◌, ap, length, remove, subst, sym}
use Rattle.iox_domain_slots.specs.Loans.{place_in}
use Rattle.iox_domain_slots.specs.Borrowed.{slots_in, IsOldest}
use Rattle.iox_domain_slots.proofs.Borrowing.{near_removed, below_removed, once_removed, slots_removed}
use Rattle.iox_domain_slots.proofs.borrowed.Borrowed.take_out.Goals as goal

pub invariant_of-self-else-len-eq0 : goal.invariant_of-self-else-len-eq0
invariant_of-self-else-len-eq0 c =
    let b = c.self.inside in
    rw c.remove.ensures.after (
      c.self.invariant.0,
      c.self.invariant.1,
      c.self.invariant.2,
      near_removed b.cells b.slots.items b.order.items b.reach (place_in c.in-Some.cell b.order.items) c.self.invariant.3,
      λ once. once_removed b.slots.items b.order.items (place_in c.in-Some.cell b.order.items) (c.self.invariant.4 once),
      c.self.invariant.5,
      c.self.invariant.6,
      c.self.invariant.7,
      c.self.invariant.8,
      below_removed b.cells b.slots.items b.order.items b.furthest b.examined (place_in c.in-Some.cell b.order.items) c.self.invariant.9,
      λ none. absurd (omega (arith, ap length none, ap (λ o. length o.items) c.remove.ensures.after, c.len.ensures, c.if-len-eq0.false)),
    )

pub returns-else-len-eq0 : goal.returns-else-len-eq0
returns-else-len-eq0 c =
    let b = c.self.inside in
    let it = subst (λ slots. IsOldest slots b.order.items c.args.slot c.in-Some.cell) c.as_slice.ensures.value c.in-Some.ensures.some in
    let items = slots_removed b.slots.items b.order.items (place_in c.in-Some.cell b.order.items)
    ∙ ap (remove (slots_in b.slots.items b.order.items)) (sym it.oldest) in
    rw (← c.self.view_is) (rw c.remove.ensures.after (cc (items)))
