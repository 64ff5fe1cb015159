use Rattle.std.proofs.Common.{arith, refl}
use Rattle.iox_domain_slots.proofs.Borrowing.{below_all}
use Rattle.iox_domain_slots.proofs.borrowed.Borrowed.examine.Goals as goal

pub invariant_of-self : goal.invariant_of-self
invariant_of-self c =
    let b = c.self.inside in (
      c.self.invariant.0,
      c.self.invariant.1,
      c.self.invariant.8,
      below_all b.cells b.slots.items b.order.items b.furthest b.examined c.self.invariant.9
          (λ cell there. omega (arith, c.made.ensures.all cell there, c.if-self-made.true)),
      c.self.invariant.4,
      c.self.invariant.5,
      c.self.invariant.6,
      c.self.invariant.7,
      omega (arith, c.self.invariant.8),
      λ cell below there. absurd (omega (arith, below)),
      λ none. let (once, near, far) = c.self.invariant.10 none in (once, far, refl),
    )
