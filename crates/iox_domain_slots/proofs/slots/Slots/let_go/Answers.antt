use Rattle.std.proofs.Common.{arith}
use Rattle.std.proofs.lemmas.Grind.{common_steps}
use Rattle.iox_domain_slots.proofs.slots.Slots.let_go.Goals as goal

pub invariant_of-self : goal.invariant_of-self
invariant_of-self c = grind (arith, common_steps)

pub invariant_of-self-else-not-self : goal.invariant_of-self-else-not-self
invariant_of-self-else-not-self c = grind (arith, common_steps)

pub invariant_of-self-else-slot-self : goal.invariant_of-self-else-slot-self
invariant_of-self-else-slot-self c = grind (arith, common_steps)

pub invariant_of-self-else-index-eq0 : goal.invariant_of-self-else-index-eq0
invariant_of-self-else-index-eq0 c = grind (arith, common_steps)

pub returns-then-not-self : goal.returns-then-not-self
returns-then-not-self c = grind (arith, common_steps)

pub returns-else-index-eq0 : goal.returns-else-index-eq0
returns-else-index-eq0 c = grind (arith, common_steps)
