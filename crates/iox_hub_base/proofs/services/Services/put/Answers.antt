use Rattle.std.proofs.Common.{rules}
use Rattle.std.specs.Prelude.{IsTrue}
use Rattle.iox_hub_base.proofs.Own.{own_put}
use Rattle.iox_hub_base.proofs.services.Services.put.Goals as goal

pub invariant_of-self : goal.invariant_of-self
invariant_of-self g c =
    let yes : IsTrue c.awaits.result = search (rules, c.if-not-awaits.false) in
    rw c.replace.ensures (own_put c.args.domain (record { hub = c.self.inside.hub; domains = c.self.inside.presences }) c.self.invariant
    (rw (← c.self.view_is) at c.awaits.ensures.0 yes))
