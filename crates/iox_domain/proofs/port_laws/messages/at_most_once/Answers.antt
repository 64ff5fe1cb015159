use Rattle.iox_domain.proofs.AtMostOnce.{at_most_once}
use Rattle.iox_domain.proofs.port_laws.messages.at_most_once.Goals as goal

pub returns : goal.returns
returns g c = at_most_once _ _ _
