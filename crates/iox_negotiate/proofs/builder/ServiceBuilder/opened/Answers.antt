use Rattle.iox_negotiate.proofs.Moving.{opens-as}
use Rattle.iox_negotiate.proofs.builder.ServiceBuilder.opened.Goals as goal

pub returns : goal.returns
returns g c =
    opens-as _ _ g.P.RequiredPattern.verdict _ _ _ _ _ _ _ _ _ _ c.new-asked.ensures.hash c.new-asked.ensures.node
    c.new-asked.ensures.requirement c.open.ensures
