use Rattle.std.proofs.Common.{arith}
use Rattle.iox_domain_slots.proofs.AllSlots.{all_length}
use Rattle.iox_domain_slots.proofs.Enough.{held_few}
use Rattle.iox_domain_slots.proofs.links.Links.len.Goals as goal

pub returns-clause-countable : goal.returns-clause-countable
returns-clause-countable c = rw (← c.self.view_is) (λ k. omega (
  arith,
  c.self.invariant.0,
  all_length c.self.inside.overflows c.self.inside.most_waiting c.self.inside.most_borrowed c.self.inside.items.items c.self.invariant.2
      c.self.invariant.3 c.self.invariant.1 k,
))

pub returns-clause-few : goal.returns-clause-few
returns-clause-few c = rw (← c.self.view_is)
    (held_few c.self.inside.overflows c.self.inside.most_waiting c.self.inside.most_borrowed c.self.inside.items.items c.self.invariant.1)
