use Rattle.std.proofs.Common.{refl}
use Rattle.iox_negotiate.proofs.Moving.{opens-as}
use Rattle.iox_negotiate.proofs.builder.ServiceBuilder.open_with_attributes.Goals as goal

pub returns : goal.returns
returns g c = opens-as _ _ g.P.RequiredPattern.verdict _ _ _ _ _ _ _ _ _ _ refl refl c.with_attributes.ensures c.opened.ensures
