use Rattle.iox_hub_base.proofs.Own.{own_closed}
use Rattle.iox_hub_base.proofs.services.Services.close.Goals as goal

pub invariant_of-self : goal.invariant_of-self
invariant_of-self g c = rw c.remove.ensures.new (own_closed c.self.inside.hub c.args.number c.self.inside.presences c.self.invariant)
