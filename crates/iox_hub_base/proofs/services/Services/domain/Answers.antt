use Rattle.iox_hub_base.proofs.Own.{own_if}
use Rattle.iox_hub_base.proofs.services.Services.domain.Goals as goal

pub returns-clause-own : goal.returns-clause-own
returns-clause-own g c =
    rw (← c.self.view_is) (own_if c.self.inside.hub c.args.number c.self.inside.presences (λ domain. domain.now) c.domain.result
    c.self.invariant c.domain.ensures)
