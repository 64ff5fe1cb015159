use Rattle.std.proofs.Common.{arith, ap, ◌≡◌}
use Rattle.std.proofs.lemmas.Grind.{common_steps}
use Rattle.iox_domain_slots.proofs.Publishing.{countable}
use Rattle.iox_domain_slots.proofs.uses.SlotUses.begin_send.Goals as goal

pub remember-requires-clause-room : goal.remember-requires-clause-room
remember-requires-clause-room c =
    let same : c.begin.new.self.references ≡ c.self.inside.slots.references = ap (λ s. s.references) c.begin.ensures.after in
    rw same (countable c.self.inside.slots c.self.inside.sending c.self.inside.links c.self.invariant.0 c.self.invariant.1
    c.len-indices.ensures.countable c.args.slot)

pub invariant_of-self : goal.invariant_of-self
invariant_of-self c = grind (arith, common_steps)

pub returns : goal.returns
returns c = grind (arith, common_steps)
