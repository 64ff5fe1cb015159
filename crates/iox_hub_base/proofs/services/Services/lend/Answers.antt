use Rattle.iox_hub_base.proofs.services.Services.lend.Goals as goal

pub invariant_of-self-2 : goal.invariant_of-self-2
invariant_of-self-2 g c = rw c.in_ok-presences.ensures.left tt

pub invariant_of-result : goal.invariant_of-result
invariant_of-result g c = rw c.in_ok-presences.ensures.ok c.self.invariant
